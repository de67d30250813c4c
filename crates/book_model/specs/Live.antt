-- Of which numbers queries may be asked: what they name stands in the model of a file of the library, or of the book
-- with a text.
use Rattle.std.specs.Prelude.{◌≡◌, ℕ, ◌<◌, ◌≤◌, List, length, slice_get, Some}
use Rattle.element_store.specs.declared.numbers.FileNo.{FileNo}
use Rattle.element_store.specs.declared.numbers.ElementNo.{ElementNo}
use Rattle.element_store.specs.declared.numbers.MemberNo.{MemberNo}
use Rattle.element_store.specs.declared.numbers.RefNo.{RefNo}
use Rattle.element_store.specs.declared.outcome.Outcome.{Outcome}
use Rattle.element_store.specs.declared.outcome.Outcome.TheVariants.{Linked, Absent, Ambiguous, Hidden, Cyclic}
use Rattle.element_store.specs.Model.{Data}
use Rattle.element_store.specs.BaseRules.{model_of}
use Rattle.book_model.specs.Files.{Content, ProjectFile, stored}

-- the file with that number has this model
abbrev pub HasModel : List ProjectFile → FileNo → Data → Type 0
HasModel files number d = model_of (stored files) number.0 ≡ Some d

-- the element stands
abbrev pub IsLiveElement : List ProjectFile → ElementNo → Type 0
IsLiveElement files e = (d : Data) × HasModel files e.file d × (e.index < length d.elements)

-- the member stands
abbrev pub IsLiveMember : List ProjectFile → MemberNo → Type 0
IsLiveMember files m = (d : Data) × HasModel files m.file d × (m.index < length d.members)

-- the reference stands
abbrev pub IsLiveReference : List ProjectFile → RefNo → Type 0
IsLiveReference files r = (d : Data) × HasModel files r.file d × (r.index < length d.references)

-- the byte stands in the text of the file, or at its end
pub record IsLiveByte (files : List ProjectFile) (number : FileNo) (at : ℕ) : Type 0 where
  pub file : ProjectFile
  pub content : Content
  pub stands : slice_get files number.0 ≡ Some file
  pub present : file.content ≡ Some content
  pub within : at ≤ length content.text

-- what an outcome names stands
abbrev pub NamesLive : List ProjectFile → Outcome → Type 0
NamesLive files (Linked steps e) = IsLiveElement files e
NamesLive files (Absent segment) = Unit {0}
NamesLive files (Ambiguous segment first second) = IsLiveMember files first × IsLiveMember files second
NamesLive files (Hidden segment m) = IsLiveMember files m
NamesLive files (Cyclic r) = IsLiveReference files r
