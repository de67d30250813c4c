-- The files of a project: names, ranks, and the models of those whose texts are present. The order is this project's
-- own.
use Rattle.std.specs.Prelude.{◌≡◌, ℕ, zero, suc, ◌<◌, ◌^◌, Bool, true, false, not, Option, Some, List, [], ◌∷◌, length, map, slice_get}
use Rattle.std.specs.Cmp.Lexicographic.{slice_cmp}
use Rattle.std.specs.Ordering.{nat_cmp, is_lt}
use Rattle.linker_base.specs.Members.{IsEachOnce}
use Rattle.element_store.specs.declared.models.StoredFile.{StoredFile}
use Rattle.element_store.specs.Numbers.{those_where}
use Rattle.element_store.specs.Model.{Data}
use Rattle.element_store.specs.Condition.{IsModel}

-- project files stand before library files, each in byte order of names
abbrev pub in_order : Bool → List ℕ → Bool → List ℕ → Bool
in_order false name true other = true
in_order true name false other = false
in_order library name same other = is_lt (slice_cmp nat_cmp name other)

abbrev pub stands_before : StoredFile → StoredFile → Bool
stands_before f g = in_order f.library f.name g.library g.name

-- how many of the files stand before x
abbrev pub rank_of : List StoredFile → StoredFile → ℕ
rank_of files x = length (those_where (λ y. stands_before y x) files)

-- the file stands there, and so many stand before it
abbrev pub HasRank : List StoredFile → ℕ → ℕ → Type 0
HasRank files rank f = (x : StoredFile) × (slice_get files f ≡ Some x) × (rank_of files x ≡ rank)

-- what holds of the files of a project: no name stands twice, and a model has its file's number and all that holds of
-- a model
pub record AreFiles (files : List StoredFile) : Type 0 where
  pub few : length files < 2 ^ 32
  pub names : IsEachOnce (map (λ x. x.name) files)
  pub models : (f : ℕ) (x : StoredFile) (d : Data) → slice_get files f ≡ Some x → x.model ≡ Some d
      → (d.file.0 ≡ f) × IsModel d

-- the numbers are those of the files in the order of their ranks
pub record AreRanked (files : List StoredFile) (ranks : List ℕ) : Type 0 where
  pub each : length ranks ≡ length files
  pub rank : (r f : ℕ) → slice_get ranks r ≡ Some f → HasRank files r f

-- a book of files, with their ranks and the number of those that aren't of the library
pub record IsBook (all : List StoredFile) (numbers : List ℕ) (count : ℕ) : Type 0 where
  pub files : AreFiles all
  pub ranks : AreRanked all numbers
  pub project : count ≡ length (those_where (λ x. not x.library) all)

-- the files after the model of one is replaced
abbrev pub with_model : List StoredFile → ℕ → Option Data → List StoredFile
with_model [] f model = []
with_model (x ∷ xs) zero model = record x { model = model } ∷ xs
with_model (x ∷ xs) (suc f) model = x ∷ with_model xs f model
