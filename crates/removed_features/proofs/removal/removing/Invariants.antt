use Rattle.std.proofs.Common.{take}
use Rattle.demand_core.specs.Computation.{joined}
use Rattle.link_walk.specs.Calls.{read_by}
use Rattle.link_walk.specs.Gained.{Gained}
use Rattle.removed_features.specs.Stages.{given_gone}
use Rattle.removed_features.proofs.removal.removing.Given as goal

-- the candidates so far are asked
abbrev pub invariant-loop-candidate : goal.invariant-loop-candidate
invariant-loop-candidate l =
    Gained (joined (given_gone l.heir.raw l.heir.of) (take l.candidate-index l.candidates) (read_by l.heir.view.now)) l.initial.gains l.gains
