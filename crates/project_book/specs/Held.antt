-- What a project holds, and what an edit does to it.
use Rattle.std.specs.Prelude.{◌≡◌, ℕ, ◌≤◌, Bool, true, false, List, [], length, map, Some, Result, Ok, Err}
use Rattle.element_store.specs.declared.numbers.FileNo.{FileNo}
use Rattle.library_texts.specs.declared.file.LibraryFile.{LibraryFile}
use Rattle.book_model.specs.declared.edit.Edit.{Edit}
use Rattle.book_model.specs.declared.edit.Edit.TheVariants.{Put}
use Rattle.book_model.specs.Book.{Book, Edited, edited, bytes_in, put_in}
use Rattle.book_model.specs.Files.{LibraryTexts, ProjectFile}
use Rattle.book_model.specs.Proper.{IsWithin}
use Rattle.project_book.specs.declared.faults.Applied.{Applied}
use Rattle.project_book.specs.declared.faults.Applied.TheVariants.{Changed, NotThere}
use Rattle.project_book.specs.declared.faults.ApplyFault.{ApplyFault}
use Rattle.project_book.specs.declared.faults.ApplyFault.TheVariants.{Limit, NoMemory, Broken}
use Rattle.project_book.specs.Named.{book_of, library_in, IsNumberUnder}

-- the files of a project, and its mark: whether want of memory broke it
pub record Held : Type 0 where
  pub files : List ProjectFile
  pub broken : Bool

-- the book is within its limits, and these are the bytes of its texts; the library has few files
pub record IsSized (files : List ProjectFile) (bytes : ℕ) : Type 0 where
  pub bytes_are : bytes ≡ bytes_in (book_of files)
  pub within : IsWithin (book_of files)
  pub few : length (library_in files) ≤ 64

-- the texts of files of the library under their names
abbrev pub texts_of : List LibraryFile → LibraryTexts
texts_of library = map (λ f. (f.name.now, f.text.now)) library

-- OPENED. An empty book over these texts, and no mark is set.
pub record IsOpenedOver (texts : LibraryTexts) (held : Held) : Type 0 where
  pub library_is : library_in held.files ≡ texts
  pub empty : book_of held.files ≡ []
  pub whole : held.broken ≡ false

-- and over the texts of these files
abbrev pub IsOpened : List LibraryFile → Held → Type 0
IsOpened library held = IsOpenedOver (texts_of library) held

-- whether a put of so many bytes under a name has room: then these are the bytes of all texts; or the number that it
-- would pass
abbrev pub IsRoomFor : Book → List ℕ → ℕ → Result ℕ ℕ → Type 0
IsRoomFor book name size (Ok bytes) =
    (text : List ℕ) → length text ≡ size
    → (bytes ≡ bytes_in (put_in book name text))
    × (edited book (Put name text) ≡ Edited.Changed (put_in book name text))
IsRoomFor book name size (Err number) =
    (text : List ℕ) → length text ≡ size → edited book (Put name text) ≡ Edited.Limit number

-- APPLIED. An edit does to the book what it should and leaves the library, or is refused; want of memory breaks the
-- project, and a broken one answers so before all else.
abbrev pub IsApplied : Held → Held → Edit → Result Applied ApplyFault → Type 0
IsApplied before after e (Ok Changed) =
    (before.broken ≡ false)
    × (edited (book_of before.files) e ≡ Edited.Changed (book_of after.files))
    × (after.broken ≡ false)
    × (library_in after.files ≡ library_in before.files)
IsApplied before after e (Ok NotThere) =
    (before.broken ≡ false) × (edited (book_of before.files) e ≡ Edited.NotThere) × (after ≡ before)
IsApplied before after e (Err (Limit number)) =
    (before.broken ≡ false) × (edited (book_of before.files) e ≡ Edited.Limit number) × (after ≡ before)
IsApplied before after e (Err NoMemory) = (before.broken ≡ false) × (after.broken ≡ true)
IsApplied before after e (Err Broken) = (before.broken ≡ true) × (after ≡ before)

-- a put also tells the number of its file
abbrev pub IsPut : Held → Held → (List ℕ × List ℕ) → Result FileNo ApplyFault → Type 0
IsPut before after (name, text) (Ok file) =
    IsApplied before after (Put name text) (Ok Changed) × IsNumberUnder after.files name (Some file)
IsPut before after (name, text) (Err fault) = IsApplied before after (Put name text) (Err fault)
