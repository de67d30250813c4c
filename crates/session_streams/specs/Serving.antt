-- What serving a session did, by its ending.
use Rattle.std.specs.Prelude.{◌≡◌, ℕ, ◌≤◌, true, false, List, ◌++◌, length, take, Some}
use Rattle.book_model.specs.Book.{Book}
use Rattle.book_model.specs.Files.{LibraryTexts}
use Rattle.session_course.specs.Commands.{Command}
use Rattle.session_course.specs.Cut.{book_left}
use Rattle.session_course.specs.Answers.{AreAnswers}
use Rattle.session_course.specs.Stops.{Stop, Course, course_ending, course_commands, AreCourseAnswers, course_book, Ending}
use Rattle.session_streams.specs.Moves.{Move, Gave, IsSound, Fails}

module _ (library : LibraryTexts) (from left : Book) (bytes : List ℕ) where
  -- nothing failed: the answers of the course were given, its book is left, and it ends so
  pub record IsWhole (output : Move) (ending : Ending) : Type 0 where
    pub course : Course true from bytes
    pub ends : ending ≡ course_ending course
    pub answers : List ℕ
    pub are : AreCourseAnswers course library answers
    pub given : Gave output answers
    pub book : left ≡ course_book course

  -- The input failed: the bytes taken are an input of their own that hasn't ended, and its course comes to no stop but
  -- that they end. The answers of that course were given, and its book is left.
  pub record IsBroken (input output : Move) : Type 0 where
    pub taken : List ℕ
    pub rest : List ℕ
    pub whole : bytes ≡ taken ++ rest
    pub told : input.after.told ≡ Some rest
    pub course : Course false from taken
    pub stop : course.stop ≡ Stop.CutShort
    pub answers : List ℕ
    pub are : AreCourseAnswers course library answers
    pub given : Gave output answers
    pub book : left ≡ course_book course

-- Some first commands of the input's course are done and answered, and at most one more is on its way: a front of its
-- answer was given.
pub record IsPart (library : LibraryTexts) (from : Book) (bytes : List ℕ) (output : Move) : Type 0 where
  pub done : List Command
  pub next : List Command
  pub one : length next ≤ 1
  pub first : (c : Course true from bytes) → (more : List Command) × (course_commands c ≡ (done ++ next) ++ more)
  pub answers : List ℕ
  pub are : AreAnswers library from done answers
  pub coming : List ℕ
  pub come : AreAnswers library (book_left from done) next coming
  pub size : ℕ
  pub given : Gave output (answers ++ take size coming)

module _ (library : LibraryTexts) (from left : Book) (bytes : List ℕ) where
  -- what a session over a book did, which book it left, and how it ended
  abbrev pub Served : Move → Move → Ending → Type 0
  Served input output Ending.Done = IsWhole library from left bytes output Ending.Done
  Served input output (Ending.Script at) = IsWhole library from left bytes output (Ending.Script at)
  Served input output (Ending.Limit number) = IsWhole library from left bytes output (Ending.Limit number)
  Served input output Ending.ReadFault = IsBroken library from left bytes input output
  Served input output Ending.WriteFault =
      (p : IsPart library from bytes output) × (left ≡ book_left from (p.done ++ p.next))
  Served input output Ending.NoMemory = IsPart library from bytes output

-- Why: a read fault comes where the input failed alone, a write fault where the output did, any other ending where
-- neither did.
abbrev pub ServedFor : Move → Move → Ending → Type 0
ServedFor input output Ending.Done = IsSound input × IsSound output
ServedFor input output (Ending.Script at) = IsSound input × IsSound output
ServedFor input output (Ending.Limit number) = IsSound input × IsSound output
ServedFor input output Ending.ReadFault = Fails input × IsSound output
ServedFor input output Ending.WriteFault = IsSound input × Fails output
ServedFor input output Ending.NoMemory = IsSound input × IsSound output
