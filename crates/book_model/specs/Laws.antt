-- What the laws of books, files, rows, places and labels say.
use Rattle.std.specs.Prelude.{◌≡◌, ◌≢◌, ◌⊎◌, ℕ, ◌^◌, ◌<◌, ◌≤◌, false, List, [], ◌∷◌, ◌++◌, map, length, Option, None, Some, IfSome}
use Rattle.std.specs.Option.{option_map}
use Rattle.std.specs.Map.{keys_of}
use Rattle.std.specs.Cmp.Lexicographic.{slice_cmp}
use Rattle.std.specs.Ordering.{nat_cmp}
use Rattle.std.specs.declared.cmp.Ordering.TheVariants.{Less}
use Rattle.linker_base.specs.Members.{IsMember, SameMembers, IsEachOnce}
use Rattle.linker_base.specs.Orders.{AreInOrder}
use Rattle.element_store.specs.declared.numbers.FileNo.{FileNo}
use Rattle.element_store.specs.declared.outcome.Language.{Language}
use Rattle.element_store.specs.Numbers.{places_from}
use Rattle.element_store.specs.Model.{Data}
use Rattle.element_store.specs.Condition.{IsModel}
use Rattle.element_store.specs.Stored.{with_model}
use Rattle.text_model.specs.declared.fault.FileFault.{FileFault}
use Rattle.text_model.specs.declared.fault.FileFault.TheVariants.{NoMemory}
use Rattle.text_model.specs.Profile.{InProfile, IsFaultOf}
use Rattle.book_model.specs.declared.edit.Edit.{Edit}
use Rattle.book_model.specs.declared.edit.Edit.TheVariants.{Put, Drop}
use Rattle.book_model.specs.declared.rows.Place.{Place}
use Rattle.book_model.specs.declared.rows.LinkRow.{LinkRow}
use Rattle.book_model.specs.Book.{Book, text_in, with_entry}
use Rattle.book_model.specs.Readings.{Reading, IsReading, language_of, model_by}
use Rattle.book_model.specs.Files.{LibraryTexts, Entry, entries_of, Content, ProjectFile, Present, IsContentOf, AreFilesOf, content_under, number_under, with_content, stored, present, name_before}
use Rattle.book_model.specs.Places.{place_of}
use Rattle.book_model.specs.Rows.{Standing, standing}

-- ---- edits

-- the name of which an edit speaks
abbrev pub name_in : Edit → List ℕ
name_in (Put name text) = name
name_in (Drop name) = name

-- the text that stands under the name afterwards
abbrev pub text_after : Edit → Option (List ℕ)
text_after (Put name text) = Some text
text_after (Drop name) = None

-- the edit changed the book so: its name has its text and every other name its old one, no name is lost, moved or
-- doubled, and a new one stands last
pub record IsDone (book : Book) (e : Edit) (changed : Book) : Type 0 where
  pub own : text_in changed (name_in e) ≡ text_after e
  pub others : (x : List ℕ) → x ≢ name_in e → text_in changed x ≡ text_in book x
  pub names : (keys_of changed ≡ keys_of book) ⊎ (keys_of changed ≡ keys_of book ++ name_in e ∷ [])
  pub once : IsEachOnce (keys_of book) → IsEachOnce (keys_of changed)

-- ---- one reading of each text, and one list of files

-- a text has one reading at most
abbrev pub OneReading : Type 0
OneReading = (file : FileNo) (language : Language) (text : List ℕ) (a b : Reading)
    → IsReading file language text a → IsReading file language text b → a ≡ b

-- this is what is known of texts: one model at most, a model or a fault, and one fault at most beside want of memory
pub record HasOneOutcome : Type 0 where
  pub model : (file : FileNo) (language : Language) (text : List ℕ) (a b : Data)
      → InProfile file language text a → InProfile file language text b → a ≡ b
  pub either : (file : FileNo) (language : Language) (text : List ℕ) (d : Data) (fault : FileFault)
      → InProfile file language text d → IsFaultOf language text fault → fault ≡ NoMemory
  pub fault : (language : Language) (text : List ℕ) (a b : FileFault)
      → IsFaultOf language text a → IsFaultOf language text b → a ≢ NoMemory → b ≢ NoMemory → a ≡ b

-- the models of texts of fewer than 4,294,967,296 bytes are models
abbrev pub TextsHaveModels : Type 0
TextsHaveModels = (file : FileNo) (language : Language) (text : List ℕ) (d : Data) → length text < 2 ^ 32
    → InProfile file language text d → IsModel d

-- a book over a library with few names, each once, and short texts
pub record IsSmall (book : Book) (library : LibraryTexts) : Type 0 where
  pub few : length (entries_of book library) < 2 ^ 32
  pub once : IsEachOnce (map (λ e. e.name) (entries_of book library))
  pub short : (e : Entry) → IsMember (entries_of book library) e → IfSome e.text (λ text. length text < 2 ^ 32)

-- ---- one changed file

-- this is read from the text that an edit puts under the name, or nothing where it is gone
abbrev pub IsContentUnder : List ProjectFile → List ℕ → Option (List ℕ) → Option Content → Type 0
IsContentUnder files name text c =
    IsContentOf (record { 0 = number_under files name }) (language_of name) text c

-- the model that links see there
abbrev pub model_under : List ProjectFile → List ℕ → Option Content → Option Data
model_under files name c =
    option_map (λ x. model_by (record { 0 = number_under files name }) (language_of name) x.reading) c

-- the files of the book with this under the name
abbrev pub ChangesOneFile : Book → LibraryTexts → List ProjectFile → List ℕ → Type 0
ChangesOneFile book library files name = (text : Option (List ℕ)) (c : Option Content)
    → IsContentUnder files name text c → AreFilesOf (with_entry book name text) library (with_content files name c)

-- a name that was there has its file's model replaced; a new one has a file after the others
pub record IsStoredAfter (files : List ProjectFile) (name : List ℕ) (c : Option Content) : Type 0 where
  pub kept : number_under files name < length files
      → stored (with_content files name c)
      ≡ with_model (stored files) (number_under files name) (model_under files name c)
  pub added : number_under files name ≡ length files
      → stored (with_content files name c)
      ≡ stored files ++ record { name = name; library = false; model = model_under files name c } ∷ []

-- the name has this content, and every other name its old one
pub record IsFoundAfter (files : List ProjectFile) (name : List ℕ) (c : Option Content) : Type 0 where
  pub own : content_under (with_content files name c) name ≡ c
  pub others : (x : List ℕ) → x ≢ name → content_under (with_content files name c) x ≡ content_under files x

-- ---- the order of files

-- in byte order, the name of the first file isn't above that of the second
abbrev pub IsNotAbove : Present → Present → Type 0
IsNotAbove f g = name_before g f ≡ false

-- in byte order, the name of the first file is below that of the second
abbrev pub IsBelow : Present → Present → Type 0
IsBelow f g = slice_cmp nat_cmp f.name g.name ≡ Less

-- these are the present files, in byte order of their names
pub record AreRanked (files : List ProjectFile) (ranked : List Present) : Type 0 where
  pub same : SameMembers ranked (present files)
  pub order : AreInOrder IsNotAbove ranked

-- ---- the order of rows

-- the first reference begins before the second, or at one place with a lesser number
abbrev pub StandsEarlier : Standing → Standing → Type 0
StandsEarlier a b = (a.place < b.place) ⊎ ((a.place ≡ b.place) × (a.number < b.number))

-- these are the references of a file, in rising place
pub record AreRising (d : Data) (rising : List Standing) : Type 0 where
  pub same : SameMembers rising (standing d)
  pub order : AreInOrder StandsEarlier rising

-- each reference of a file has one row
pub record HasOneRowEach (d : Data) (rows : List LinkRow) : Type 0 where
  pub same : SameMembers (map (λ row. row.reference.index) rows) (places_from 0 d.references)
  pub once : IsEachOnce (map (λ row. row.reference.index) rows)

-- the first place is on an earlier line, or in an earlier column of the same line
abbrev pub IsPlaceBefore : Place → Place → Type 0
IsPlaceBefore p q = (p.line < q.line) ⊎ ((p.line ≡ q.line) × (p.column < q.column))

-- the first row is printed before the second, or at one place with a lesser number
abbrev pub IsRowBefore : LinkRow → LinkRow → Type 0
IsRowBefore a b =
    IsPlaceBefore a.place b.place ⊎ ((a.place ≡ b.place) × (a.reference.index < b.reference.index))

-- the places stand within the text
abbrev pub AreWithin : List ℕ → List ℕ → Type 0
AreWithin text places = (p : ℕ) → IsMember places p → p ≤ length text

-- as printed, the first place of a text stands before the second
abbrev pub IsPrintedBefore : List ℕ → ℕ → ℕ → Type 0
IsPrintedBefore text p q = IsPlaceBefore (place_of text p) (place_of text q)
