use Rattle.std.proofs.Common.{take}
use Rattle.demand_core.specs.Computation.{joined}
use Rattle.link_walk.specs.Calls.{read_by}
use Rattle.link_walk.specs.Gained.{Gained}
use Rattle.member_candidates.specs.Stages.{candidate_stage, candidates_in}
use Rattle.member_candidates.proofs.candidate_list.candidates.Given as goal

-- the types so far are looked up
abbrev pub invariant-loop-owner : goal.invariant-loop-owner
invariant-loop-owner l =
    Gained (joined (candidate_stage l.name l.heir.of) (take l.owner-index l.types) (read_by l.heir.view.now)) (candidates_in l.initial.gains)
    (candidates_in l.gains)
