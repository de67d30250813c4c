use Rattle.std.proofs.Common.{take, ◌∷◌, suc}
use Rattle.demand_core.specs.Computation.{join, joined}
use Rattle.link_walk.specs.Calls.{read_by}
use Rattle.link_walk.specs.Gained.{Gained}
use Rattle.feature_facts.proofs.TableLaws.{nothing_yet}
use Rattle.feature_facts.specs.Stages.{redefiners_of}
use Rattle.feature_facts.specs.declared.facts.Redefiner.{Redefiner}
use Rattle.feature_facts.proofs.facts.redefiners.Given as goal

-- the type itself and the types so far are asked
abbrev pub invariant-loop-owner : goal.invariant-loop-owner
invariant-loop-owner l =
    Gained (join (redefiners_of l.heir.raw l.heir.of l.heir.of) (joined (redefiners_of l.heir.raw l.heir.of) (take l.owner-index l.types))
    (read_by l.heir.view.now)) nothing_yet l.gains
