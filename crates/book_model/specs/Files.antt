-- The files of a project: those of its library, and then those of its book in order of first arrival.
use Rattle.std.specs.Prelude.{◌≡◌, ℕ, suc, Bool, true, false, ◌&&◌, cond, not, nat_eq, List, [], ◌∷◌, ◌++◌, map, slice_get, Option, Some, None}
use Rattle.std.specs.Option.{option_map, option_map_or}
use Rattle.std.specs.Cmp.Lexicographic.{pointwise, slice_cmp}
use Rattle.std.specs.Ordering.{nat_cmp, is_lt}
use Rattle.element_store.specs.declared.numbers.FileNo.{FileNo}
use Rattle.element_store.specs.declared.outcome.Language.{Language}
use Rattle.element_store.specs.declared.models.StoredFile.{StoredFile}
use Rattle.element_store.specs.Model.{Data}
use Rattle.link_model.specs.Outside.{model_in}
use Rattle.book_model.specs.Book.{Book}
use Rattle.book_model.specs.Readings.{Reading, language_of, IsReading, model_by}
use Rattle.book_model.specs.Sorting.{sorted_by}

-- the library: names, each with its text
abbrev pub LibraryTexts : Type 0
LibraryTexts = List (List ℕ × List ℕ)

-- a name of the library or of the book, with its text, if one is present
pub record Entry : Type 0 where
  pub name : List ℕ
  pub library : Bool
  pub text : Option (List ℕ)

-- a file's number is the place of its entry
abbrev pub entries_of : Book → LibraryTexts → List Entry
entries_of book library =
    map (λ e. record { name = e.0; library = true; text = Some e.1 }) library
    ++ map (λ e. record { name = e.0; library = false; text = e.1 }) book

-- a present text, and what it is read as
pub record Content : Type 0 where
  pub text : List ℕ
  pub reading : Reading

-- a file of a project, with its content if its text is present
pub record ProjectFile : Type 0 where
  pub name : List ℕ
  pub library : Bool
  pub content : Option Content

-- a text that is present is read, in the language of its file
abbrev pub IsContentOf : FileNo → Language → Option (List ℕ) → Option Content → Type 0
IsContentOf file language None None = Unit {0}
IsContentOf file language (Some text) (Some c) = (c.text ≡ text) × IsReading file language text c.reading
IsContentOf file language None (Some c) = ⊥
IsContentOf file language (Some text) None = ⊥

-- the file is that of the entry, with the number
pub record IsFileOf (number : FileNo) (e : Entry) (f : ProjectFile) : Type 0 where
  pub name : f.name ≡ e.name
  pub library : f.library ≡ e.library
  pub content : IsContentOf number (language_of e.name) e.text f.content

-- one file for each entry, where the first has the number n
abbrev pub AreFilesFrom : ℕ → List Entry → List ProjectFile → Type 0
AreFilesFrom n [] [] = Unit {0}
AreFilesFrom n (e ∷ es) (f ∷ fs) = IsFileOf (record { 0 = n }) e f × AreFilesFrom (suc n) es fs
AreFilesFrom n [] (f ∷ fs) = ⊥
AreFilesFrom n (e ∷ es) [] = ⊥

-- THE FILES of a book over a library
abbrev pub AreFilesOf : Book → LibraryTexts → List ProjectFile → Type 0
AreFilesOf book library files = AreFilesFrom 0 (entries_of book library) files

-- the files as links see them: with their models alone
abbrev pub stored_file : FileNo → ProjectFile → StoredFile
stored_file number f = record {
  name = f.name;
  library = f.library;
  model = option_map (λ c. model_by number (language_of f.name) c.reading) f.content;
}

-- those of files, where the first has the number n
abbrev pub stored_from : ℕ → List ProjectFile → List StoredFile
stored_from n [] = []
stored_from n (f ∷ fs) = stored_file (record { 0 = n }) f ∷ stored_from (suc n) fs

-- all files as links see them
abbrev pub stored : List ProjectFile → List StoredFile
stored files = stored_from 0 files

-- the name of the file with that number
abbrev pub name_at : List ProjectFile → FileNo → List ℕ
name_at files number = option_map_or (λ f. f.name) (slice_get files number.0) []

-- the text of a file, if one is present
abbrev pub text_of : ProjectFile → List ℕ
text_of f = option_map_or (λ c. c.text) f.content []

-- the text of the file with that number
abbrev pub text_at : List ProjectFile → FileNo → List ℕ
text_at files number = option_map_or text_of (slice_get files number.0) []

-- the model of the file with that number
abbrev pub model_at : List ProjectFile → FileNo → Data
model_at files number = model_in (slice_get (stored files) number.0)

-- the file is the book's under the name: a name of the library isn't one of the book
abbrev pub is_under : List ℕ → ProjectFile → Bool
is_under name f = not f.library && pointwise nat_eq name f.name

-- what the book holds under the name
abbrev pub content_under : List ProjectFile → List ℕ → Option Content
content_under [] name = None
content_under (f ∷ fs) name = cond (is_under name f) f.content (content_under fs name)

-- the number of the file under the name; a name that is new has the number after the last one
abbrev pub number_under : List ProjectFile → List ℕ → ℕ
number_under [] name = 0
number_under (f ∷ fs) name = cond (is_under name f) 0 (suc (number_under fs name))

-- the files with this under the name; a name that is there keeps its place, and a new one goes last
abbrev pub with_content : List ProjectFile → List ℕ → Option Content → List ProjectFile
with_content [] name c = record { name = name; library = false; content = c } ∷ []
with_content (f ∷ fs) name c =
    cond (is_under name f) (record f { content = c } ∷ fs) (f ∷ with_content fs name c)

-- a file of the book whose text is present
pub record Present : Type 0 where
  pub name : List ℕ
  pub content : Content

-- the file of a name, if it is the book's and has a content
abbrev pub present_by : List ℕ → Bool → Option Content → List Present
present_by name false (Some c) = record { name = name; content = c } ∷ []
present_by name library content = []

-- the files of the book whose texts are present
abbrev pub present : List ProjectFile → List Present
present [] = []
present (f ∷ fs) = present_by f.name f.library f.content ++ present fs

-- the name of the first file is below that of the second
abbrev pub name_before : Present → Present → Bool
name_before f g = is_lt (slice_cmp nat_cmp f.name g.name)

-- the present files in byte order
abbrev pub ranked : List ProjectFile → List Present
ranked files = sorted_by name_before (present files)
