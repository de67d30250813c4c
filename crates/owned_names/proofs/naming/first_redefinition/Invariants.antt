use Rattle.std.proofs.Common.{◌≡◌, ℕ, ◌<◌, ◌≤◌, false}
use Rattle.std.specs.Prelude.{slice_get, Some}
use Rattle.element_store.specs.declared.records.Reference.{Reference}
use Rattle.element_store.specs.Readings.{is_redefinition}
use Rattle.owned_names.proofs.naming.first_redefinition.Given as goal

-- none of the references so far is a redefinition
abbrev pub invariant-loop-index : goal.invariant-loop-index
invariant-loop-index l = (j : ℕ) (r : Reference) → l.first ≤ j → j < l.index → slice_get l.model.references j ≡ Some r → is_redefinition r.role ≡ false
