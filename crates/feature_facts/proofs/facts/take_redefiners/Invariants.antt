use Rattle.std.proofs.Common.{take}
use Rattle.demand_core.specs.Computation.{joined}
use Rattle.link_walk.specs.Calls.{read_by}
use Rattle.link_walk.specs.Gained.{Gained}
use Rattle.link_walk.proofs.GainLaws.{gains_of}
use Rattle.feature_facts.specs.Stages.{told_of, own_redefiner}
use Rattle.feature_facts.proofs.facts.take_redefiners.Given as goal

-- the members so far are taken
abbrev pub invariant-loop-index : goal.invariant-loop-index
invariant-loop-index l =
    Gained (joined (told_of l.model (own_redefiner l.owner)) (take l.index-index l.members) (read_by l.heir.view.now)) l.initial.gains l.gains
