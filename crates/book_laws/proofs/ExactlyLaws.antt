-- Since each text has one outcome, a book has one list of files, and commands have one list of answers.
use Rattle.std.proofs.Common.{ℕ, suc, List, [], ◌∷◌, ◌++◌, refl, sym, subst, inl, inr}
use Rattle.std.specs.Prelude.{Option, Some, None}
use Rattle.element_store.specs.declared.numbers.FileNo.{FileNo}
use Rattle.element_store.specs.declared.numbers.RefNo.{RefNo}
use Rattle.element_store.specs.declared.outcome.Language.{Language}
use Rattle.element_store.specs.declared.outcome.Language.TheVariants.{Sysml}
use Rattle.book_model.specs.declared.asked_name.AskedName.{AskedName}
use Rattle.book_model.specs.AskedNames.{AskFor}
use Rattle.element_store.specs.Condition.{IsModel}
use Rattle.element_store.specs.Stored.{AreFiles}
use Rattle.linker_base.specs.Members.{IsMember}
use Rattle.link_model.specs.Outside.{keys_of}
use Rattle.text_laws.proofs.BuiltModel.{built_is_model}
use Rattle.text_laws.proofs.OutcomeLaws.{one_model, model_or_fault, one_fault}
use Rattle.text_laws.proofs.SomeOutcome.{some_outcome}
use Rattle.text_laws.specs.Outcomes.{HasOutcome}
use Rattle.book_model.specs.Answers.{Command, book_after, put_answer, drop_answer, links_answer, check_answer, find_answer, implied_answer, print_answer, Answers, AreAnswers}
use Rattle.book_model.specs.Book.{Book, text_in}
use Rattle.book_model.specs.Files.{LibraryTexts, Entry, entries_of, Content, ProjectFile, IsContentOf, AreFilesFrom, AreFilesOf, stored}
use Rattle.book_model.specs.Laws.{OneReading, TextsHaveModels, IsSmall}
use Rattle.book_model.specs.Outcomes.{IsOutcome, outcome_of}
use Rattle.book_model.specs.Queries.{file_query, links_query, reports, faults_query, implied_query, print_query}
use Rattle.book_model.specs.Readings.{Reading, IsReading, language_of}
use Rattle.book_model.proofs.AskedLaws.{some_asked}
use Rattle.book_model.proofs.FileLaws.{one_reading, one_files, one_answers}
use Rattle.book_model.proofs.OutcomeLaws.{outcome_is}
use Rattle.book_model.proofs.StoredLaws.{stored_are_files}
use Rattle.book_laws.specs.Exactly.{HasOneListOfFiles, HasOneAnswer}

-- a text has one reading
read_once : OneReading
read_once = one_reading (record { model = one_model; either = model_or_fault; fault = one_fault })

-- an outcome is a reading
reading_by : (file : FileNo) (language : Language) (text : List ℕ) → HasOutcome file language text → (r : Reading) × IsReading file language text r
reading_by file language text (inl h) = (Reading.Model h.0, h.1)
reading_by file language text (inr h) = (Reading.Fault h.0, (h.2, h.1))

-- a text that is present is read
content_of : (file : FileNo) (language : Language) (text : Option (List ℕ)) → (c : Option Content) × IsContentOf file language text c
content_of file language None = (None, tt)
content_of file language (Some text) =
    let read = reading_by file language text (some_outcome file language text) in
    (Some (record { text = text; reading = read.0 }), (refl, read.1))

-- each entry has a file
files_from : (n : ℕ) (es : List Entry) → (fs : List ProjectFile) × AreFilesFrom n es fs
files_from n [] = ([], tt)
files_from n (e ∷ es) =
    let c = content_of (record { 0 = n }) (language_of e.name) e.text in
    let more = files_from (suc n) es in
    (record { name = e.name; library = e.library; content = c.0 } ∷ more.0, (record { name = refl; library = refl; content = c.1 }, more.1))

-- a book over a library has one list of files
pub files_once : (book : Book) (library : LibraryTexts) → HasOneListOfFiles book library
files_once book library =
    let some = files_from 0 (entries_of book library) in
    record { files = some.0; are = some.1; alone = λ others are. one_files read_once book library others some.0 are some.1 }

-- words ask for something, or for nothing
asked_from : (words : List ℕ) → (name : Option AskedName) × AskFor words name
asked_from words =
    let read = reading_by (record { 0 = 0 }) Sysml words (some_outcome (record { 0 = 0 }) Sysml words) in
    some_asked (record { 0 = 0 }) words read.0 read.1

-- over its files a command has an answer
answer_by : (book : Book) (files : List ProjectFile) (c : Command) → (answer : List ℕ) × Answers book files c answer
answer_by book files (Command.Put name text) = (put_answer name (file_query files name), refl)
answer_by book files (Command.Drop name) = (drop_answer name (text_in book name), refl)
answer_by book files (Command.Links name) = (links_answer files name (links_query files name), refl)
answer_by book files (Command.Print name) = (print_answer name (print_query files name), refl)
answer_by book files Command.Check = (check_answer files (reports files) (faults_query files), refl)
answer_by book files (Command.Find words) = let name = asked_from words in (find_answer files name.0, (name.0, name.1, refl))
answer_by book files Command.Implied = (implied_answer files (implied_query files), refl)

-- each command has an answer
answers_from : (library : LibraryTexts) (book : Book) (cs : List Command) → (answers : List ℕ) × AreAnswers library book cs answers
answers_from library book [] = ([], refl)
answers_from library book (c ∷ cs) =
    let files = files_once (book_after book c) library in
    let answer = answer_by book files.files c in
    let first = answer.0 in
    let more = answers_from library (book_after book c) cs in
    (first ++ more.0, (first, more.0, record { files = files.files; are = files.are; stands = answer.1 }, more.1, refl))

-- commands have one list of answers
pub answers_once : (library : LibraryTexts) (book : Book) (cs : List Command) → HasOneAnswer library book cs
answers_once library book cs =
    let some = answers_from library book cs in
    record { answers = some.0; are = some.1; alone = λ others are. one_answers read_once library book cs others some.0 are some.1 }

-- the models of texts are models
texts_have_models : TextsHaveModels
texts_have_models file language text d short p = subst IsModel (sym p.model) (built_is_model file language text p.tokens p.tree short p.read p.within)

-- the files of a small book are files as links want them
pub book_files : (book : Book) (library : LibraryTexts) (files : List ProjectFile) → IsSmall book library → AreFilesOf book library files
    → AreFiles (stored files)
book_files = stored_are_files texts_have_models

-- so their references have outcomes
pub book_outcome : (book : Book) (library : LibraryTexts) (files : List ProjectFile) (r : RefNo) → IsSmall book library → AreFilesOf book library files
    → IsMember (keys_of (stored files)) (record { 0 = r }) → IsOutcome (stored files) r (outcome_of (stored files) r)
book_outcome book library files r small are member = outcome_is (stored files) r (book_files book library files small are) member
