use Rattle.std.proofs.Common.{◌≡◌, ◌++◌, drop, map}
use Rattle.element_store.specs.Numbers.{those_where}
use Rattle.removed_features.specs.Known.{is_sure}
use Rattle.feature_facts.specs.declared.facts.Direct.{Direct}
use Rattle.removed_features.proofs.visible_features.surely_redefined.Given as goal

-- what is listed, and what is left, is all
abbrev pub invariant-loop-direct : goal.invariant-loop-direct
invariant-loop-direct l = l.redefined ++ map (λ (d : Direct). d.redefined) (those_where (is_sure l.types) (drop l.direct-index l.directs))
    ≡ map (λ (d : Direct). d.redefined) (those_where (is_sure l.types) l.directs)
