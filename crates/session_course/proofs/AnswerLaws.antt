-- Commands have one list of answers.
use Rattle.std.proofs.Common.{◌≡◌, ◌∙◌, ℕ, suc, List, [], ◌∷◌, ◌++◌, refl, sym, ap, subst, append_assoc}
use Rattle.std.specs.Prelude.{codes, map, Option, Some, None}
use Rattle.element_store.specs.declared.numbers.FileNo.{FileNo}
use Rattle.element_store.specs.declared.outcome.Language.{Language}
use Rattle.element_store.specs.declared.outcome.Language.TheVariants.{Sysml}
use Rattle.book_model.specs.declared.asked_name.AskedName.{AskedName}
use Rattle.book_model.specs.AskedNames.{AskFor}
use Rattle.book_model.specs.Answers as asked
use Rattle.book_model.specs.Answers.{Command as Asked}
use Rattle.book_model.specs.Book.{Book, text_in}
use Rattle.book_model.specs.Files.{LibraryTexts, Entry, entries_of, Content, ProjectFile, IsContentOf, AreFilesFrom}
use Rattle.book_model.specs.Laws.{OneReading}
use Rattle.book_model.specs.Queries.{file_query, links_query, reports, faults_query, implied_query, print_query}
use Rattle.book_model.specs.Readings.{language_of}
use Rattle.book_model.proofs.AskedLaws.{some_asked}
use Rattle.book_model.proofs.FileLaws as files
use Rattle.session_course.specs.Answers.{IsAnswer, AreAnswers, SomeReading, HasAnswers}
use Rattle.session_course.specs.Commands.{Command, book_after}
use Rattle.session_course.specs.Cut.{book_left}

-- a command has one answer at most
pub one_answer : OneReading → (library : LibraryTexts) (book : Book) (c : Command) (a b : List ℕ) → IsAnswer library book c a
    → IsAnswer library book c b → a ≡ b
one_answer h library book (Command.Do c) a b p q = files.one_answer h library book c a b p q
one_answer h library book Command.End a b p q = p ∙ sym q

-- and so have commands one after the other
pub one_answers : OneReading → (library : LibraryTexts) (book : Book) (cs : List Command) (a b : List ℕ) → AreAnswers library book cs a
    → AreAnswers library book cs b → a ≡ b
one_answers h library book [] a b p q = p ∙ sym q
one_answers h library book (c ∷ cs) a b (f, m, is, are, whole) (g, n, is', are', whole') =
    let first : f ≡ g = one_answer h library book c f g is is' in
    let more : m ≡ n = one_answers h library (book_after book c) cs m n are are' in
    whole ∙ ((λ j. first j ++ more j) ∙ sym whole')

-- a text that is present is read
content_of : SomeReading → (file : FileNo) (language : Language) (text : Option (List ℕ)) → (c : Option Content) × IsContentOf file language text c
content_of h file language None = (None, tt)
content_of h file language (Some text) =
    let read = h file language text in (Some (record { text = text; reading = read.0 }), (refl, read.1))

-- so a book has files
files_from : SomeReading → (n : ℕ) (es : List Entry) → (fs : List ProjectFile) × AreFilesFrom n es fs
files_from h n [] = ([], tt)
files_from h n (e ∷ es) =
    let c = content_of h (record { 0 = n }) (language_of e.name) e.text in
    let more = files_from h (suc n) es in
    (record { name = e.name; library = e.library; content = c.0 } ∷ more.0, (record { name = refl; library = refl; content = c.1 }, more.1))

-- so words ask for something, or for nothing
asked_some : SomeReading → (words : List ℕ) → (name : Option AskedName) × AskFor words name
asked_some h words = let read = h (record { 0 = 0 }) Sysml words in some_asked (record { 0 = 0 }) words read.0 read.1

-- over its files a command has an answer
answer_by : SomeReading → (book : Book) (files : List ProjectFile) (c : Asked) → (answer : List ℕ) × asked.Answers book files c answer
answer_by h book files (Asked.Put name text) = (asked.put_answer name (file_query files name), refl)
answer_by h book files (Asked.Drop name) = (asked.drop_answer name (text_in book name), refl)
answer_by h book files (Asked.Links name) = (asked.links_answer files name (links_query files name), refl)
answer_by h book files Asked.Check = (asked.check_answer files (reports files) (faults_query files), refl)
answer_by h book files (Asked.Find words) =
    let name = asked_some h words in (asked.find_answer files name.0, (name.0, name.1, refl))
answer_by h book files Asked.Implied = (asked.implied_answer files (implied_query files), refl)
answer_by h book files (Asked.Print name) = (asked.print_answer name (print_query files name), refl)

-- a command has an answer
pub answer_some : SomeReading → (library : LibraryTexts) (book : Book) (c : Command) → (answer : List ℕ) × IsAnswer library book c answer
answer_some h library book (Command.Do c) =
    let found = files_from h 0 (entries_of (asked.book_after book c) library) in
    let answer = answer_by h book found.0 c in
    (answer.0, record { files = found.0; are = found.1; stands = answer.1 })
answer_some h library book Command.End = (codes "end\n", refl)

-- and so have commands one after the other
pub answers_some : SomeReading → (library : LibraryTexts) (book : Book) (cs : List Command) → HasAnswers library book cs
answers_some h library book [] = ([], refl)
answers_some h library book (c ∷ cs) =
    let first = answer_some h library book c in
    let more = answers_some h library (book_after book c) cs in
    (first.0 ++ more.0, (first.0, more.0, first.1, more.1, refl))

-- the answers of commands, and of those after them
pub answers_append : (library : LibraryTexts) (book : Book) (cs ds : List Command) (a b : List ℕ) → AreAnswers library book cs a
    → AreAnswers library (book_left book cs) ds b → AreAnswers library book (cs ++ ds) (a ++ b)
answers_append library book [] ds a b p q = subst_answers (sym (ap (λ xs. xs ++ b) p)) q
  where
    subst_answers : {x y : List ℕ} → x ≡ y → AreAnswers library book ds x → AreAnswers library book ds y
    subst_answers e r = subst (λ xs. AreAnswers library book ds xs) e r
answers_append library book (c ∷ cs) ds a b (f, m, is, are, whole) q =
    (f, m ++ b, is, answers_append library (book_after book c) cs ds m b are q, ap (λ xs. xs ++ b) whole ∙ append_assoc f m b)

-- commands that are asked of the book alone have its answers
pub answers_asked : (library : LibraryTexts) (book : Book) (cs : List Asked) (a : List ℕ) → asked.AreAnswers library book cs a
    → AreAnswers library book (map Command.Do cs) a
answers_asked library book [] a p = p
answers_asked library book (c ∷ cs) a (f, m, is, are, whole) = (f, m, is, answers_asked library (asked.book_after book c) cs m are, whole)
