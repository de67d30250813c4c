-- What the queries of a project answer, by the files of its book; names are those of the book, and numbers stand in
-- the models of the files.
use Rattle.std.specs.Prelude.{ℕ, List, [], get_or, map, slice_get, Option}
use Rattle.std.specs.Option.{option_map, option_map_or}
use Rattle.element_store.specs.declared.numbers.FileNo.{FileNo}
use Rattle.element_store.specs.declared.numbers.ElementNo.{ElementNo}
use Rattle.element_store.specs.declared.numbers.MemberNo.{MemberNo}
use Rattle.element_store.specs.declared.numbers.RefNo.{RefNo}
use Rattle.element_store.specs.declared.outcome.Outcome.{Outcome}
use Rattle.element_store.specs.declared.records.Reference.{Reference}
use Rattle.element_store.specs.Model.{Data}
use Rattle.implied_model.specs.Implied.{Implication, implications}
use Rattle.book_model.specs.declared.rows.Place.{Place}
use Rattle.book_model.specs.declared.rows.LinkRow.{LinkRow}
use Rattle.book_model.specs.declared.rows.FaultRow.{FaultRow}
use Rattle.book_model.specs.declared.rows.FileReport.{FileReport}
use Rattle.book_model.specs.declared.rows.Printed.{Printed}
use Rattle.book_model.specs.Files.{ProjectFile, stored, text_at, model_at, content_under, ranked}
use Rattle.book_model.specs.Labels.{label_of}
use Rattle.book_model.specs.Outcomes.{outcome_of, found_of, linked_world}
use Rattle.book_model.specs.Places.{place_of}
use Rattle.book_model.specs.Rows.{Outcomes, rows_of, faults_in, printed_of, report_of}
use Rattle.book_model.specs.Spelling.{written_name}

-- what becomes of the references of these files
abbrev pub links_over : List ProjectFile → Outcomes
links_over files = outcome_of (stored files)

-- FILE and LINKS, of the file under a name, or none where no text is present: what the book holds
abbrev pub file_query : List ProjectFile → List ℕ → Option FileReport
file_query files name = option_map report_of (content_under files name)

-- the rows of that file
abbrev pub links_query : List ProjectFile → List ℕ → Option (List LinkRow)
links_query files name = option_map (rows_of (links_over files)) (content_under files name)

-- PRINT, of the file under a name, or none where no text is present: its canonical text, or its fault
abbrev pub print_query : List ProjectFile → List ℕ → Option Printed
print_query files name = option_map printed_of (content_under files name)

-- FIND: what becomes of a qualified name that is asked for from outside
abbrev pub find_query : List ProjectFile → List (List ℕ) → Outcome
find_query files path = found_of (stored files) path

-- IMPLIED: the types of the book's files that specialise their base by implication, where no link is to come any more;
-- files in byte order of their names, types in the order of their numbers
abbrev pub implied_query : List ProjectFile → List Implication
implied_query files = implications (stored files) (linked_world (stored files))

-- NAMES, REPORTS and FAULTS of the present files, in byte order of their names: the names
abbrev pub names_query : List ProjectFile → List (List ℕ)
names_query files = map (λ f. f.name) (ranked files)

-- what each of them holds
abbrev pub reports : List ProjectFile → List FileReport
reports files = map (λ f. report_of f.content) (ranked files)

-- what is wrong with them
abbrev pub faults_query : List ProjectFile → List FaultRow
faults_query files = faults_in (links_over files) files

-- PLACES: the place of a byte of a file
abbrev pub place_in : List ProjectFile → FileNo → ℕ → Place
place_in files file at = place_of (text_at files file) at

-- the place of a member
abbrev pub member_place : List ProjectFile → MemberNo → Place
member_place files m = place_in files m.file (get_or (model_at files m.file).member_places m.index 0)

-- the place of a reference
abbrev pub reference_place : List ProjectFile → RefNo → Place
reference_place files r = place_in files r.file (get_or (model_at files r.file).reference_places r.index 0)

-- LABEL of an element, spelt in the language of its file
abbrev pub label : List ProjectFile → ElementNo → List ℕ
label files e = label_of (model_at files e.file) e.index

-- TEXT OF a reference: the name that it is written as, spelt in the language of its file
abbrev pub written_in : Data → Reference → List ℕ
written_in d r = written_name d.language r.absolute r.path r.chain

-- the written name of the reference with that number
abbrev pub text_of_reference : List ProjectFile → RefNo → List ℕ
text_of_reference files r =
    let d = model_at files r.file in option_map_or (written_in d) (slice_get d.references r.index) []
