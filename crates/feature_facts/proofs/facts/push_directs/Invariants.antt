use Rattle.std.proofs.Common.{◌≡◌, ◌++◌, drop, map}
use Rattle.feature_facts.specs.Stages.{direct_by}
use Rattle.feature_facts.proofs.facts.push_directs.Given as goal

-- what is added, and what is left, is all
abbrev pub invariant-loop-target : goal.invariant-loop-target
invariant-loop-target l =
    l.found ++ map (direct_by l.by) (drop l.target-index l.redefined) ≡ l.initial.found ++ map (direct_by l.by) l.redefined
