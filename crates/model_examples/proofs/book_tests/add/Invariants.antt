-- No file so far has the name.
use Rattle.std.proofs.Common.{◌≡◌, ℕ, ◌<◌}
use Rattle.std.specs.Prelude.{Some, slice_get}
use Rattle.element_store.specs.declared.models.StoredFile.{StoredFile}
use Rattle.model_examples.proofs.book_tests.add.Given as goal

abbrev pub invariant-loop-number : goal.invariant-loop-number
invariant-loop-number l = (i : ℕ) → i < l.number → (x : StoredFile) → slice_get l.models i ≡ Some x → x.name ≡ l.name → ⊥
