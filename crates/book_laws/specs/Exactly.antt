-- There is one, and one alone.
use Rattle.std.specs.Prelude.{◌≡◌, ℕ, List}
use Rattle.linker_base.specs.Members.{IsMember}
use Rattle.element_store.specs.declared.numbers.RefNo.{RefNo}
use Rattle.element_store.specs.declared.models.StoredFile.{StoredFile}
use Rattle.link_model.specs.Outside.{keys_of}
use Rattle.book_model.specs.Outcomes.{IsOutcome, outcome_of}
use Rattle.book_model.specs.Answers.{Command, AreAnswers}
use Rattle.book_model.specs.Book.{Book}
use Rattle.book_model.specs.Files.{AreFilesOf, LibraryTexts, ProjectFile}

-- there are files of the book over the library, and others are the same
pub record HasOneListOfFiles (book : Book) (library : LibraryTexts) : Type 0 where
  pub files : List ProjectFile
  pub are : AreFilesOf book library files
  pub alone : (others : List ProjectFile) → AreFilesOf book library others → others ≡ files

-- there are answers of the commands, and others are the same
pub record HasOneAnswer (library : LibraryTexts) (book : Book) (commands : List Command) : Type 0 where
  pub answers : List ℕ
  pub are : AreAnswers library book commands answers
  pub alone : (others : List ℕ) → AreAnswers library book commands others → others ≡ answers

-- the reference, if it stands in the files, has its entry in the least linking or is cyclic
abbrev pub HasOutcome : List StoredFile → RefNo → Type 0
HasOutcome files r = IsMember (keys_of files) (record { 0 = r }) → IsOutcome files r (outcome_of files r)
