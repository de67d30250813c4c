-- What a project keeps of its files, and the files that it has.
use Rattle.std.specs.Prelude.{◌≡◌, ℕ, zero, suc, ◌≤◌, List, [], ◌∷◌, length, All, Option, Some, None, IfSome, slice_get, option_and_then}
use Rattle.element_store.specs.declared.numbers.FileNo.{FileNo}
use Rattle.element_store.specs.declared.models.StoredFile.{StoredFile}
use Rattle.element_store.specs.Model.{Data, bare_model}
use Rattle.text_model.specs.declared.fault.FileFault.{FileFault}
use Rattle.text_model.specs.declared.fault.FileFault.TheVariants.{NoMemory}
use Rattle.book_model.specs.Readings.{Reading, fault_place, language_of}
use Rattle.book_model.specs.Files.{Content, ProjectFile}
use Rattle.written_names.specs.Spellable.{AreNamesSpellable}
use Rattle.project_files.specs.declared.files.Kept.{Kept}

-- a text is read as its fault, or else as its model; one of them is kept
abbrev pub reading_of : Option FileFault → Option Data → Reading
reading_of (Some fault) model = Reading.Fault fault
reading_of None (Some d) = Reading.Model d
reading_of None None = Reading.Fault NoMemory

-- the content of a file: none where nothing is kept
abbrev pub content_of : Option Data → Option Kept → Option Content
content_of model None = None
content_of model (Some k) = Some (record { text = k.text; reading = reading_of k.fault model })

-- a file, with what is kept of it
abbrev pub file_of : StoredFile → Option Kept → ProjectFile
file_of x k = record { name = x.name; library = x.library; content = content_of x.model k }

-- the files, in order
abbrev pub files_of : List StoredFile → List (Option Kept) → List ProjectFile
files_of [] ks = []
files_of (x ∷ xs) [] = []
files_of (x ∷ xs) (k ∷ ks) = file_of x k ∷ files_of xs ks

-- the files with this content at a place
abbrev pub with_content_at : List ProjectFile → ℕ → Option Content → List ProjectFile
with_content_at [] i c = []
with_content_at (f ∷ fs) zero c = record f { content = c } ∷ fs
with_content_at (f ∷ fs) (suc i) c = f ∷ with_content_at fs i c

-- the content of the file with that number, if its text is present
abbrev pub content_at : List ProjectFile → FileNo → Option Content
content_at files number = option_and_then (λ f. f.content) (slice_get files number.0)

-- what is kept of the text of the file with that number, if it is present
abbrev pub own_kept : List (Option Kept) → ℕ → Option Kept
own_kept ks i = option_and_then (λ k. k) (slice_get ks i)

-- the places of a model stand in its text, or at its end
pub record ArePlacesWithin (text : List ℕ) (d : Data) : Type 0 where
  pub members : All (λ place. place ≤ length text) d.member_places
  pub references : All (λ place. place ≤ length text) d.reference_places

-- the place of a fault stands in the text, or at its end
abbrev pub StandsWithin : Kept → Type 0
StandsWithin k = IfSome k.fault (λ fault. fault_place fault ≤ length k.text)

-- a text with a fault has the model of an empty file
abbrev pub IsByFault : FileNo → List ℕ → Option FileFault → Data → Type 0
IsByFault number name None d = Unit {0}
IsByFault number name (Some fault) d = d ≡ bare_model number (language_of name)

-- what is kept of a present text, beside its model
pub record IsKeptWith (number : FileNo) (x : StoredFile) (k : Kept) : Type 0 where
  pub model : Data
  pub has : x.model ≡ Some model
  pub fault : IsByFault number x.name k.fault model
  pub spellable : AreNamesSpellable model
  pub places : ArePlacesWithin k.text model
  pub within : StandsWithin k

-- a text with its model may be kept of a file with this number and name
pub record MayKeep (number : FileNo) (name : List ℕ) (k : Kept) (d : Data) : Type 0 where
  pub own : d.file ≡ number
  pub fault : IsByFault number name k.fault d
  pub spellable : AreNamesSpellable d
  pub places : ArePlacesWithin k.text d
  pub within : StandsWithin k

-- a file has a model exactly where its text is kept
abbrev pub IsKept : FileNo → StoredFile → Option Kept → Type 0
IsKept number x None = x.model ≡ None
IsKept number x (Some k) = IsKeptWith number x k

-- one for each file, where the first has the number n
abbrev pub AreKeptFrom : ℕ → List StoredFile → List (Option Kept) → Type 0
AreKeptFrom n [] [] = Unit {0}
AreKeptFrom n (x ∷ xs) (k ∷ ks) = IsKept (record { 0 = n }) x k × AreKeptFrom (suc n) xs ks
AreKeptFrom n [] (k ∷ ks) = ⊥
AreKeptFrom n (x ∷ xs) [] = ⊥

-- one for each file
abbrev pub AreKept : List StoredFile → List (Option Kept) → Type 0
AreKept xs ks = AreKeptFrom 0 xs ks
