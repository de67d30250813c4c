use Rattle.std.proofs.Common.{take}
use Rattle.demand_core.specs.Computation.{joined}
use Rattle.link_walk.specs.Calls.{read_by}
use Rattle.link_walk.specs.Gained.{Gained}
use Rattle.feature_facts.specs.Stages.{told_of}
use Rattle.member_candidates.specs.Stages.{open_effective}
use Rattle.member_candidates.proofs.open_members.take_open_redefining.Given as goal

-- the members so far are taken
abbrev pub invariant-loop-index : goal.invariant-loop-index
invariant-loop-index l =
    Gained (joined (told_of l.model (open_effective l.name l.at.file)) (take l.index-index l.members) (read_by l.fn.view)) l.initial.gains l.gains
