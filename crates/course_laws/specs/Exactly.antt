-- There is one, and one alone.
use Rattle.std.specs.Prelude.{◌≡◌, ℕ, Bool, List}
use Rattle.book_model.specs.Book.{Book}
use Rattle.book_model.specs.Files.{LibraryTexts}
use Rattle.session_course.specs.Answers.{AreAnswers}
use Rattle.session_course.specs.Commands.{Command}
use Rattle.session_course.specs.Stops.{Course, course_commands}

-- there are answers of the commands, and others are the same
pub record HasOneAnswer (library : LibraryTexts) (from : Book) (cs : List Command) : Type 0 where
  pub answers : List ℕ
  pub are : AreAnswers library from cs answers
  pub alone : (others : List ℕ) → AreAnswers library from cs others → others ≡ answers

-- there are answers of the course, and others are the same
abbrev pub HasOneCourseAnswer : {ended : Bool} {from : Book} {bytes : List ℕ} → LibraryTexts
    → Course ended from bytes → Type 0
HasOneCourseAnswer {from = from} library c = HasOneAnswer library from (course_commands c)
