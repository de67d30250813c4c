use Rattle.std.proofs.Common.{◌≡◌, ◌++◌, drop, map}
use Rattle.element_store.specs.Numbers.{those_where}
use Rattle.removed_features.specs.Known.{visible_by}
use Rattle.feature_facts.specs.declared.facts.Redefiner.{Redefiner}
use Rattle.removed_features.proofs.visible_features.seen.Given as goal

-- what is listed, and what is left, is all
abbrev pub invariant-loop-by : goal.invariant-loop-by
invariant-loop-by l = l.features ++ map (λ (r : Redefiner). r.feature) (those_where (visible_by l.types) (drop l.by-index l.redefiners))
    ≡ map (λ (r : Redefiner). r.feature) (those_where (visible_by l.types) l.redefiners)
