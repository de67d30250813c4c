use Rattle.std.proofs.Common.{◌≡◌, ◌++◌, drop}
use Rattle.std.specs.Prelude.{not}
use Rattle.element_store.specs.Numbers.{those_where}
use Rattle.element_store.specs.declared.numbers.ElementNo.{ElementNo}
use Rattle.link_model.specs.Keys.{same_element}
use Rattle.removed_features.proofs.visible_features.others.Given as goal

-- what is listed, and what is left, is all
abbrev pub invariant-loop-other : goal.invariant-loop-other
invariant-loop-other l = l.rest ++ those_where (λ (f : ElementNo). not (same_element f l.e)) (drop l.other-index l.elements)
    ≡ those_where (λ (f : ElementNo). not (same_element f l.e)) l.elements
