-- The ranks of files by their numbers.
use Rattle.std.specs.Prelude.{◌≡◌, ℕ, List, length, get_or, slice_get, Some}
use Rattle.element_store.specs.declared.models.StoredFile.{StoredFile}
use Rattle.element_store.specs.Stored.{rank_of}

-- at each file's number stands how many files stand before it
pub record AreRanksOf (files : List StoredFile) (ranks : List ℕ) : Type 0 where
  pub each : length ranks ≡ length files
  pub rank : (f : ℕ) (x : StoredFile) → slice_get files f ≡ Some x → get_or ranks f 0 ≡ rank_of files x
