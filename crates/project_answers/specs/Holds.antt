-- What a project holds, as a session sees it.
use Rattle.std.specs.Prelude.{◌≡◌, ℕ, Bool, true, List, [], Option, Some, None, Result, Ok, Err}
use Rattle.session_streams.specs.Moves.{Move, Gave, IsSound}
use Rattle.sysml_session.specs.Answered.{Holding, IsGiven}
use Rattle.sysml_session.specs.declared.answering.AnswerFault.{AnswerFault}
use Rattle.sysml_session.specs.declared.answering.AnswerFault.TheVariants.{Limit, WriteFault, NoMemory}
use Rattle.element_store.specs.declared.numbers.FileNo.{FileNo}
use Rattle.element_store.specs.declared.models.StoredFile.{StoredFile}
use Rattle.element_store.specs.Stored.{with_model}
use Rattle.book_model.specs.Files.{Content, ProjectFile, content_under, number_under, stored}
use Rattle.project_files.specs.Kept.{content_at}
use Rattle.project_book.specs.Held.{Held}
use Rattle.project_book.specs.Named.{book_of, library_in, HaveMoved}

-- the book of its files over its library, and its mark
abbrev pub holding_of : Held → Holding
holding_of held = record { library = library_in held.files; book = book_of held.files; broken = held.broken }

-- a piece was given, or a front of it; or memory was wanting before
abbrev pub IsTold : Move → List ℕ → Result (Unit {0}) AnswerFault → Type 0
IsTold output piece (Ok u) = IsGiven output piece (Ok u)
IsTold output piece (Err WriteFault) = IsGiven output piece (Err WriteFault)
IsTold output piece (Err NoMemory) = Gave output [] × IsSound output
IsTold output piece (Err (Limit number)) = ⊥

-- the text under the name is present, in the file of that number; or none is
abbrev pub IsPresentAt : List ProjectFile → List ℕ → Option FileNo → Type 0
IsPresentAt files name (Some file) =
    (c : Content) × (content_under files name ≡ Some c) × (content_at files file ≡ Some c)
IsPresentAt files name None = content_under files name ≡ None

-- whose edits were followed: the files, and whether all their references are linked
pub record Followed : Type 0 where
  pub files : List StoredFile
  pub is_linked : Bool

-- all references of the files are linked
abbrev pub all_linked : List StoredFile → Followed
all_linked files = record { files = files; is_linked = true }

-- the files are as before, but maybe for the content of the file of that number, which may be new
pub record HaveMovedAt (file : FileNo) (before after : List ProjectFile) : Type 0 where
  pub name : List ℕ
  pub place : number_under before name ≡ file.0
  pub moved : HaveMoved before after name

-- the files were followed up to the going of the text at that number, and may have moved there since
pub record FollowedBefore (followed : List StoredFile) (now : List ProjectFile) (file : FileNo) : Type 0 where
  pub before : List ProjectFile
  pub followed_is : followed ≡ with_model (stored before) file.0 None
  pub moved : HaveMovedAt file before now

-- what a desk holds: its project, the files whose edits were followed, and whether these are those of the project
pub record Desked : Type 0 where
  pub held : Held
  pub follows : Followed
  pub is_following : Bool

-- files that are followed are those of the project
abbrev pub IsFresh : Desked → Type 0
IsFresh d = d.is_following ≡ true → d.follows.files ≡ stored d.held.files
