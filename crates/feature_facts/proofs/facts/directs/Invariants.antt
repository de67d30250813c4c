use Rattle.std.proofs.Common.{take}
use Rattle.demand_core.specs.Computation.{joined}
use Rattle.link_walk.specs.Calls.{read_by}
use Rattle.link_walk.specs.Gained.{Gained}
use Rattle.feature_facts.specs.Stages.{directs_of}
use Rattle.feature_facts.proofs.facts.directs.Given as goal

-- the features so far are asked
abbrev pub invariant-loop-by : goal.invariant-loop-by
invariant-loop-by l = Gained (joined directs_of (take l.by-index l.redefiners) (read_by l.heir.view.now)) l.initial.gains l.gains
