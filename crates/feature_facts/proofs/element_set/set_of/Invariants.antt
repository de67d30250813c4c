use Rattle.std.proofs.Common.{◌≡◌, drop}
use Rattle.std.specs.Prelude.{◌||◌}
use Rattle.element_store.specs.declared.numbers.ElementNo.{ElementNo}
use Rattle.link_model.specs.Keys.{is_in}
use Rattle.feature_facts.proofs.element_set.set_of.Given as goal

-- what is in the set, and what is left, is all
abbrev pub invariant-loop-element : goal.invariant-loop-element
invariant-loop-element l = (e : ElementNo) → (is_in e l.set || is_in e (drop l.element-index l.elements)) ≡ is_in e l.elements
