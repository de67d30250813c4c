-- Since each text has one outcome, commands have one list of answers.
use Rattle.std.proofs.Common.{ℕ, Bool, List, inl, inr}
use Rattle.element_store.specs.declared.numbers.FileNo.{FileNo}
use Rattle.element_store.specs.declared.outcome.Language.{Language}
use Rattle.text_laws.proofs.OutcomeLaws.{one_model, model_or_fault, one_fault}
use Rattle.text_laws.proofs.SomeOutcome.{some_outcome}
use Rattle.text_laws.specs.Outcomes.{HasOutcome}
use Rattle.book_model.specs.Book.{Book}
use Rattle.book_model.specs.Files.{LibraryTexts}
use Rattle.book_model.specs.Laws.{OneReading}
use Rattle.book_model.specs.Readings.{Reading, IsReading}
use Rattle.book_model.proofs.FileLaws.{one_reading}
use Rattle.session_course.specs.Answers.{SomeReading}
use Rattle.session_course.specs.Commands.{Command}
use Rattle.session_course.specs.Stops.{Course, course_commands}
use Rattle.session_course.proofs.AnswerLaws.{one_answers, answers_some}
use Rattle.course_laws.specs.Exactly.{HasOneAnswer, HasOneCourseAnswer}

-- a text has one reading at most
read_once : OneReading
read_once = one_reading (record { model = one_model; either = model_or_fault; fault = one_fault })

reading_by : (file : FileNo) (language : Language) (text : List ℕ) → HasOutcome file language text → (r : Reading) × IsReading file language text r
reading_by file language text (inl h) = (Reading.Model h.0, h.1)
reading_by file language text (inr h) = (Reading.Fault h.0, (h.2, h.1))

-- and it has one
read_some : SomeReading
read_some file language text = reading_by file language text (some_outcome file language text)

-- commands have one list of answers
pub answers_once : (library : LibraryTexts) (from : Book) (cs : List Command) → HasOneAnswer library from cs
answers_once library from cs =
    let some = answers_some read_some library from cs in
    record { answers = some.0; are = some.1; alone = λ others are. one_answers read_once library from cs others some.0 are some.1 }

-- and so has a course
pub course_answers_once : (library : LibraryTexts) (ended : Bool) (from : Book) (bytes : List ℕ) (c : Course ended from bytes)
    → HasOneCourseAnswer library c
course_answers_once library ended from bytes c = answers_once library from (course_commands c)
