-- What the commands of a session answer.
use Rattle.std.specs.Prelude.{◌≡◌, ℕ, List, [], ◌∷◌, ◌++◌, codes}
use Rattle.book_model.specs.Answers as asked
use Rattle.book_model.specs.Book.{Book}
use Rattle.book_model.specs.Files.{LibraryTexts}
use Rattle.book_model.specs.Readings.{Reading, IsReading}
use Rattle.element_store.specs.declared.numbers.FileNo.{FileNo}
use Rattle.element_store.specs.declared.outcome.Language.{Language}
use Rattle.session_course.specs.Commands.{Command, book_after}

-- a command over a book answers so: as the book says, and `end` by its own word
abbrev pub IsAnswer : LibraryTexts → Book → Command → List ℕ → Type 0
IsAnswer library book (Command.Do c) answer = asked.IsAnswer library book c answer
IsAnswer library book Command.End answer = answer ≡ codes "end\n"

-- the answers of commands, one after the other, each over the book that those before it leave
abbrev pub AreAnswers : LibraryTexts → Book → List Command → List ℕ → Type 0
AreAnswers library book [] answers = answers ≡ []
AreAnswers library book (c ∷ cs) answers =
    (first more : List ℕ)
    × IsAnswer library book c first
    × AreAnswers library (book_after book c) cs more
    × (answers ≡ first ++ more)

-- each text has a reading: a model or a fault
abbrev pub SomeReading : Type 0
SomeReading = (file : FileNo) (language : Language) (text : List ℕ)
    → (r : Reading) × IsReading file language text r

-- there are answers of the commands
abbrev pub HasAnswers : LibraryTexts → Book → List Command → Type 0
HasAnswers library book cs = (answers : List ℕ) × AreAnswers library book cs answers
