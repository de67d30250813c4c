use Rattle.std.proofs.Common.{◌≡◌, ◌++◌, drop, map}
use Rattle.member_candidates.specs.Stages.{candidate_at}
use Rattle.member_candidates.proofs.candidate_list.push_candidates.Given as goal

-- what is added, and what is left, is all
abbrev pub invariant-loop-hit : goal.invariant-loop-hit
invariant-loop-hit l =
    l.found ++ map (candidate_at l.owner) (drop l.hit-index l.hits) ≡ l.initial.found ++ map (candidate_at l.owner) l.hits
