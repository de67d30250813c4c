-- The files of a project: the library and the book that they are of, the numbers of the book's, and that each is read
-- from its text.
use Rattle.std.specs.Prelude.{◌≡◌, ◌≢◌, ◌⊎◌, ℕ, suc, ◌<◌, cond, Bool, true, false, List, [], ◌∷◌, ◌++◌, length, slice_get, Option, Some, None}
use Rattle.std.specs.Option.{option_map}
use Rattle.element_store.specs.declared.numbers.FileNo.{FileNo}
use Rattle.element_store.specs.declared.outcome.Language.{Language}
use Rattle.element_store.specs.FileNames.{is_file_name}
use Rattle.element_store.specs.Model.{Data, bare_model}
use Rattle.text_model.specs.declared.fault.FileFault.{FileFault}
use Rattle.text_model.specs.declared.fault.FileFault.TheVariants.{NoMemory}
use Rattle.text_model.specs.Profile.{InProfile, IsFaultOf}
use Rattle.book_model.specs.Book.{Book}
use Rattle.book_model.specs.Readings.{language_of}
use Rattle.book_model.specs.Files.{Content, LibraryTexts, ProjectFile, AreFilesOf, IsContentOf, is_under, number_under, text_of, with_content}

-- the text of a content
abbrev pub text_in_content : Option Content → Option (List ℕ)
text_in_content c = option_map (λ x. x.text) c

-- what stands for a file of the library, and what for one of the book
abbrev pub of_library : {X : Type 0} → Bool → X → List X
of_library true x = x ∷ []
of_library false x = []

abbrev pub of_book : {X : Type 0} → Bool → X → List X
of_book true x = []
of_book false x = x ∷ []

-- THE LIBRARY of files: the names of its files, each with its text
abbrev pub library_in : List ProjectFile → LibraryTexts
library_in [] = []
library_in (f ∷ fs) = of_library f.library (f.name, text_of f) ++ library_in fs

-- THE BOOK of files: the names of its files, each with its text or gone
abbrev pub book_of : List ProjectFile → Book
book_of [] = []
book_of (f ∷ fs) = of_book f.library (f.name, text_in_content f.content) ++ book_of fs

-- the numbers of the book's files by their names, where the first file has the number n
abbrev pub numbers_from : ℕ → List ProjectFile → List (List ℕ × FileNo)
numbers_from n [] = []
numbers_from n (f ∷ fs) = of_book f.library (f.name, record { 0 = n }) ++ numbers_from (suc n) fs

-- a file of the library has a name that no file of the book can have, and a text
abbrev pub IsFixed : Bool → List ℕ → Option Content → Type 0
IsFixed true name (Some c) = is_file_name name ≡ false
IsFixed true name None = ⊥
IsFixed false name content = Unit {0}

-- the file has what its text is read as, and stands before all of the book if it is the library's
pub record IsRead (number : FileNo) (f : ProjectFile) (behind : List ProjectFile) : Type 0 where
  pub fixed : IsFixed f.library f.name f.content
  pub first : f.library ≡ false → library_in behind ≡ []
  pub content : IsContentOf number (language_of f.name) (text_in_content f.content) f.content

-- each is, where the first has the number n
abbrev pub AreReadFrom : ℕ → List ProjectFile → Type 0
AreReadFrom n [] = Unit {0}
AreReadFrom n (f ∷ fs) = IsRead (record { 0 = n }) f fs × AreReadFrom (suc n) fs

-- each file is
abbrev pub AreRead : List ProjectFile → Type 0
AreRead files = AreReadFrom 0 files

-- THE FILES are those of their book over their library
abbrev pub AreOfBook : List ProjectFile → Type 0
AreOfBook files = AreFilesOf (book_of files) (library_in files) files

-- the file of that number is the book's
abbrev pub IsOwn : List ProjectFile → FileNo → Type 0
IsOwn files n = (f : ProjectFile) → slice_get files n.0 ≡ Some f → f.library ≡ false

-- the number of the file under a name; none where the name is new
abbrev pub IsNumberUnder : List ProjectFile → List ℕ → Option FileNo → Type 0
IsNumberUnder files name (Some n) = (number_under files name ≡ n.0) × (n.0 < length files)
IsNumberUnder files name None = number_under files name ≡ length files

-- a text is read as this model; or it has this fault, and the model of an empty file stands in
abbrev pub IsReadAs : FileNo → Language → List ℕ → Option FileFault → Data → Type 0
IsReadAs file language text None d = InProfile file language text d
IsReadAs file language text (Some fault) d =
    (fault ≢ NoMemory) × IsFaultOf language text fault × (d ≡ bare_model file language)

-- a fault, unless it is want of memory
abbrev pub known : FileFault → Option FileFault
known NoMemory = None
known fault = Some fault

-- the files with this name; a new one goes last, without a text
abbrev pub with_name : List ProjectFile → List ℕ → List ProjectFile
with_name [] name = record { name = name; library = false; content = None } ∷ []
with_name (f ∷ fs) name = cond (is_under name f) (f ∷ fs) (f ∷ with_name fs name)

-- a text is kept under a name, and read; its file has this number
pub record IsKeptUnder (before after : List ProjectFile) (name text : List ℕ) (file : FileNo) : Type 0 where
  pub content : Content
  pub text_is : content.text ≡ text
  pub files : after ≡ with_content before name (Some content)
  pub number : number_under after name ≡ file.0
  pub below : file.0 < length after

-- the files are as before, but maybe for what stands under the name
abbrev pub HaveMoved : List ProjectFile → List ProjectFile → List ℕ → Type 0
HaveMoved before after name = (after ≡ before) ⊎ ((c : Option Content) × (after ≡ with_content before name c))
