-- What is asked of a book, and the lines that are answered.
use Rattle.std.specs.Prelude.{◌≡◌, ℕ, ◌+◌, List, [], ◌∷◌, ◌++◌, length, codes, Option, Some, None}
use Rattle.std.specs.Fmt.{decimal}
use Rattle.std.specs.List.{flat_map}
use Rattle.std.specs.Option.{option_map_or}
use Rattle.element_store.specs.declared.outcome.Language.TheVariants.{Sysml}
use Rattle.implied_model.specs.Implied.{Implication}
use Rattle.book_model.specs.declared.asked_name.AskedName.{AskedName}
use Rattle.book_model.specs.declared.edit.Edit.{Edit}
use Rattle.book_model.specs.declared.edit.Edit.TheVariants as edit
use Rattle.book_model.specs.declared.rows.LinkRow.{LinkRow}
use Rattle.book_model.specs.declared.rows.FaultRow.{FaultRow}
use Rattle.book_model.specs.declared.rows.FileReport.{FileReport}
use Rattle.book_model.specs.declared.rows.FileReport.TheVariants.{In, Refused}
use Rattle.book_model.specs.declared.rows.Printed.{Printed}
use Rattle.book_model.specs.declared.rows.Printed.TheVariants as printed
use Rattle.book_model.specs.AskedNames.{AskFor}
use Rattle.book_model.specs.Book.{Book, text_in, edited, left_by, number_of}
use Rattle.book_model.specs.Files.{LibraryTexts, ProjectFile, AreFilesOf}
use Rattle.book_model.specs.Queries.{file_query, links_query, reports, faults_query, find_query, implied_query, print_query}
use Rattle.book_model.specs.Printed.{report_text, row_text, fault_row_text, outcome_text, implication_text, refusal_text}
use Rattle.book_model.specs.Spelling.{written_name}

-- put a text under a name; drop the text under a name; list the links of a file; list what is wrong with all files;
-- find the qualified name that words ask for; list the implied specialisations of all files; print a file
pub data Command : Type 0 where
  Put : (name text : List ℕ) → Command
  Drop : (name : List ℕ) → Command
  Links : (name : List ℕ) → Command
  Check : Command
  Find : (words : List ℕ) → Command
  Implied : Command
  Print : (name : List ℕ) → Command

-- the edit of a command, if it has one
abbrev pub edit_of : Command → Option Edit
edit_of (Command.Put name text) = Some (edit.Put name text)
edit_of (Command.Drop name) = Some (edit.Drop name)
edit_of other = None

-- the book after a command
abbrev pub book_after : Book → Command → Book
book_after book c = option_map_or (λ e. left_by book (edited book e)) (edit_of c) book

-- the number with which the edit of a command is refused over the book
abbrev pub refusal_of : Book → Command → Option ℕ
refusal_of book c = option_map_or (λ e. number_of (edited book e)) (edit_of c) None

-- a line that begins with a command and its name, with its LF
abbrev pub line : List ℕ → List ℕ → List ℕ → List ℕ
line command name rest = command ++ codes " " ++ name ++ codes " " ++ rest ++ codes "\n"

-- no text is present under the name
abbrev pub no_file : List ℕ
no_file = codes "no file"

-- PUT. The numbers of elements and references, or the refusal.
abbrev pub put_answer : List ℕ → Option FileReport → List ℕ
put_answer name None = line (codes "put") name no_file
put_answer name (Some report) = line (codes "put") name (report_text report)

-- DROP. Whether a text stood under the name.
abbrev pub drop_answer : List ℕ → Option (List ℕ) → List ℕ
drop_answer name None = line (codes "drop") name no_file
drop_answer name (Some text) = line (codes "drop") name (codes "done")

-- LINKS. The rows of the file and their number, or that no text is present under the name.
abbrev pub links_answer : List ProjectFile → List ℕ → Option (List LinkRow) → List ℕ
links_answer files name None = line (codes "links") name no_file
links_answer files name (Some rows) =
    flat_map (λ row. row_text files row ++ codes "\n") rows ++ line (codes "links") name (decimal (length rows))

-- CHECK. What is wrong, and the numbers of present files, of their references and of these rows.
abbrev pub references_in : List FileReport → ℕ
references_in [] = 0
references_in (In elements references ∷ more) = references + references_in more
references_in (Refused fault place ∷ more) = references_in more

-- the rows of what is wrong, and the counts
abbrev pub check_answer : List ProjectFile → List FileReport → List FaultRow → List ℕ
check_answer files present rows =
    flat_map (λ row. fault_row_text files row ++ codes "\n") rows
    ++ codes "check files " ++ decimal (length present) ++ codes " references " ++ decimal (references_in present)
    ++ codes " faults " ++ decimal (length rows) ++ codes "\n"

-- FIND. The name as it is spelt in SysML, and what it finds; or that the words are no name.
abbrev pub find_answer : List ProjectFile → Option AskedName → List ℕ
find_answer files None = codes "find bad name\n"
find_answer files (Some name) =
    codes "find " ++ written_name Sysml name.absolute name.path [] ++ codes " -> "
    ++ outcome_text files (find_query files name.path) ++ codes "\n"

-- IMPLIED. The implied specialisations of all files, and their number.
abbrev pub implied_answer : List ProjectFile → List Implication → List ℕ
implied_answer files rows =
    flat_map (λ row. implication_text files row ++ codes "\n") rows
    ++ codes "implied " ++ decimal (length rows) ++ codes "\n"

-- PRINT. The number of bytes of the file's canonical text, and the text; or its fault, or that no text is present.
abbrev pub print_answer : List ℕ → Option Printed → List ℕ
print_answer name None = line (codes "print") name no_file
print_answer name (Some (printed.Text text)) = line (codes "print") name (decimal (length text)) ++ text
print_answer name (Some (printed.Refused fault place)) = line (codes "print") name (refusal_text fault place)

-- THE ANSWER of a command over a book, by the files of the book that it leaves
abbrev pub Answers : Book → List ProjectFile → Command → List ℕ → Type 0
Answers book files (Command.Put name text) answer = answer ≡ put_answer name (file_query files name)
Answers book files (Command.Drop name) answer = answer ≡ drop_answer name (text_in book name)
Answers book files (Command.Links name) answer = answer ≡ links_answer files name (links_query files name)
Answers book files Command.Check answer = answer ≡ check_answer files (reports files) (faults_query files)
Answers book files (Command.Find words) answer =
    (name : Option AskedName) × AskFor words name × (answer ≡ find_answer files name)
Answers book files Command.Implied answer = answer ≡ implied_answer files (implied_query files)
Answers book files (Command.Print name) answer = answer ≡ print_answer name (print_query files name)

-- the answer of a command over a library, whatever files the book has
pub record IsAnswer (library : LibraryTexts) (book : Book) (c : Command) (answer : List ℕ) : Type 0 where
  pub files : List ProjectFile
  pub are : AreFilesOf (book_after book c) library files
  pub stands : Answers book files c answer

-- the answers of commands, one after the other, each over the book that those before it leave
abbrev pub AreAnswers : LibraryTexts → Book → List Command → List ℕ → Type 0
AreAnswers library book [] answers = answers ≡ []
AreAnswers library book (c ∷ cs) answers =
    (first more : List ℕ)
    × IsAnswer library book c first
    × AreAnswers library (book_after book c) cs more
    × (answers ≡ first ++ more)
