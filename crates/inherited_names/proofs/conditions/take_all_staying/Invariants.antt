use Rattle.std.proofs.Common.{take}
use Rattle.demand_core.specs.Computation.{joined}
use Rattle.link_walk.specs.Gained.{Gained}
use Rattle.inherited_names.specs.Known.{staying}
use Rattle.feature_facts.specs.Known.{world_of}
use Rattle.inherited_names.proofs.conditions.take_all_staying.Given as goal

-- the candidates so far are decided
abbrev pub invariant-loop-candidate : goal.invariant-loop-candidate
invariant-loop-candidate l =
    Gained (joined (staying l.stage) (take l.candidate-index l.stage.candidates.now) (world_of l.stage.heir.now)) l.initial.gains l.gains
