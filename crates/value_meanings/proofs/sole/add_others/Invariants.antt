use Rattle.std.proofs.Common.{◌≡◌}
use Rattle.element_store.specs.declared.numbers.ElementNo.{ElementNo}
use Rattle.value_meanings.proofs.SoleLaws.{with_rest}
use Rattle.value_meanings.proofs.sole.add_others.Given as goal

-- what the set has, and what the elements that are left add, is all
abbrev pub invariant-loop-e : goal.invariant-loop-e
invariant-loop-e l = (g : ElementNo) → with_rest l.than l.elements g l.set l.e-index ≡ with_rest l.than l.elements g l.initial.set 0
