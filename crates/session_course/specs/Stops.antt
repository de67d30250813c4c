-- The stop of an input: the first row of the table that holds; and what is served until then.
use Rattle.std.specs.Prelude.{◌≡◌, ℕ, ◌+◌, ◌-◌, ◌<◌, Bool, List, [], ◌++◌, length, take}
use Rattle.linker_base.specs.declared.limits.TheConstants.{INPUT_BYTES, LINE_BYTES}
use Rattle.book_model.specs.Book.{Book}
use Rattle.book_model.specs.Files.{LibraryTexts}
use Rattle.session_course.specs.Commands.{Command}
use Rattle.session_course.specs.Cut.{IsReading, IsCut, EndsWithEnd, AreOpen, book_left}
use Rattle.session_course.specs.Refusals.{IsEndless, IsFormless, IsOversized, IsUnclosed, IsRefused}
use Rattle.session_course.specs.Answers.{AreAnswers}

-- why nothing is read after the cut: the rows of the table, in its order
pub data Stop : Type 0 where
  Ended : Stop
  LongLine : Stop
  NoForm : Stop
  LongText : (limit : ℕ) → Stop
  NoLineFeed : (at : ℕ) → Stop
  NoRoom : (number : ℕ) (earlier : List Command) → Stop
  LongInput : Stop
  CutShort : Stop

-- the row of a stop
abbrev pub row_of : Stop → ℕ
row_of Stop.Ended = 1
row_of Stop.LongLine = 2
row_of Stop.NoForm = 3
row_of (Stop.LongText limit) = 4
row_of (Stop.NoLineFeed at) = 5
row_of (Stop.NoRoom number earlier) = 6
row_of Stop.LongInput = 7
row_of Stop.CutShort = 8

-- how many bytes stand before the rest
abbrev pub place_of : List ℕ → List ℕ → ℕ
place_of bytes rest = length bytes - length rest

-- the bytes of the rest that lie within the first 4,294,967,296
abbrev pub next_bytes : List ℕ → List ℕ → List ℕ
next_bytes bytes rest = take (INPUT_BYTES - place_of bytes rest) rest

-- after these commands of the bytes, which leave the rest:
module _ (from : Book) (commands : List Command) (bytes rest : List ℕ) where
  -- the row of a stop holds
  abbrev pub Holds : Stop → Type 0
  Holds Stop.Ended = EndsWithEnd commands
  Holds Stop.LongLine = IsEndless (next_bytes bytes rest)
  Holds Stop.NoForm = IsFormless (next_bytes bytes rest)
  Holds (Stop.LongText limit) = IsOversized limit (next_bytes bytes rest)
  Holds (Stop.NoLineFeed at) = IsUnclosed at (next_bytes bytes rest)
  Holds (Stop.NoRoom number earlier) = IsRefused (book_left from commands) number earlier (next_bytes bytes rest)
  Holds Stop.LongInput = INPUT_BYTES < length bytes
  Holds Stop.CutShort = Unit {0}

  -- its row is the first that holds
  pub record IsStop (stop : Stop) : Type 0 where
    pub holds : Holds stop
    pub first : (other : Stop) → row_of other < row_of stop → Holds other → ⊥

-- the course of a session over a book and an input: its cut and its stop
pub record Course (ended : Bool) (from : Book) (bytes : List ℕ) : Type 0 where
  pub commands : List Command
  pub rest : List ℕ
  pub cut : IsCut ended from commands bytes rest
  pub stop : Stop
  pub stops : IsStop from commands bytes rest stop

-- how a session ends
pub data Ending : Type 0 where
  Done : Ending
  Script : (at : ℕ) → Ending
  Limit : (number : ℕ) → Ending
  ReadFault : Ending
  WriteFault : Ending
  NoMemory : Ending

-- the ending by a stop after so many bytes of an input that has so many
abbrev pub ending_at : ℕ → ℕ → Stop → Ending
ending_at place size Stop.Ended = Ending.Done
ending_at place size Stop.LongLine = Ending.Limit LINE_BYTES
ending_at place size Stop.NoForm = Ending.Script place
ending_at place size (Stop.LongText limit) = Ending.Limit limit
ending_at place size (Stop.NoLineFeed at) = Ending.Script (place + at)
ending_at place size (Stop.NoRoom number earlier) = Ending.Limit number
ending_at place size Stop.LongInput = Ending.Limit INPUT_BYTES
ending_at place size Stop.CutShort = Ending.Script size

-- what a refused command did before the stop
abbrev pub earlier_of : Stop → List Command
earlier_of Stop.Ended = []
earlier_of Stop.LongLine = []
earlier_of Stop.NoForm = []
earlier_of (Stop.LongText limit) = []
earlier_of (Stop.NoLineFeed at) = []
earlier_of (Stop.NoRoom number earlier) = earlier
earlier_of Stop.LongInput = []
earlier_of Stop.CutShort = []

module _ {ended : Bool} {from : Book} {bytes : List ℕ} (s : Course ended from bytes) where
  -- how a session over this course ends where nothing fails
  abbrev pub course_ending : Ending
  course_ending = ending_at (place_of bytes s.rest) (length bytes) s.stop

  -- the commands that it does
  abbrev pub course_commands : List Command
  course_commands = s.commands ++ earlier_of s.stop

  -- this is what it answers over a library
  abbrev pub AreCourseAnswers : LibraryTexts → List ℕ → Type 0
  AreCourseAnswers library answers = AreAnswers library from course_commands answers

  -- the book that it leaves
  abbrev pub course_book : Book
  course_book = book_left from course_commands

-- two courses are of the same commands, rest and stop
pub record AreSame {ended : Bool} {from : Book} {bytes : List ℕ} (a b : Course ended from bytes) : Type 0 where
  pub commands : a.commands ≡ b.commands
  pub rest : a.rest ≡ b.rest
  pub stop : a.stop ≡ b.stop

-- the input has a course, and any other is the same
pub record HasOneCourse (ended : Bool) (from : Book) (bytes : List ℕ) : Type 0 where
  pub course : Course ended from bytes
  pub alone : (other : Course ended from bytes) → AreSame other course

-- what a reader knows on its way: these commands are read, none of them is `end`, and the rest follows
pub record IsOpen (ended : Bool) (from : Book) (commands : List Command) (bytes rest : List ℕ) : Type 0 where
  pub reading : IsReading ended from commands bytes rest
  pub open_ : AreOpen commands

-- a row that holds whatever follows: 2 to 6
pub record IsForGood (from : Book) (commands : List Command) (bytes rest : List ℕ) (stop : Stop) : Type 0 where
  pub after : 1 < row_of stop
  pub before : row_of stop < 7
  pub holds : Holds from commands bytes rest stop

-- the session is done exactly where its commands end with `end`
pub record IsDoneByEnd {ended : Bool} {from : Book} {bytes : List ℕ} (c : Course ended from bytes) : Type 0 where
  pub read : course_ending c ≡ Ending.Done → EndsWithEnd c.commands
  pub done : EndsWithEnd c.commands → course_ending c ≡ Ending.Done
