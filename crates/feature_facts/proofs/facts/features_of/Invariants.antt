use Rattle.std.proofs.Common.{◌≡◌, ◌++◌, drop, map}
use Rattle.feature_facts.specs.declared.facts.Redefiner.{Redefiner}
use Rattle.feature_facts.proofs.facts.features_of.Given as goal

-- what is listed, and what is left, is all
abbrev pub invariant-loop-by : goal.invariant-loop-by
invariant-loop-by l =
    l.features ++ map (λ (r : Redefiner). r.feature) (drop l.by-index l.redefiners) ≡ map (λ (r : Redefiner). r.feature) l.redefiners
