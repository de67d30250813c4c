-- Rows: the references of a file with what became of them, and what is wrong with the files of a book. Whatever made
-- the outcomes, a row shows the one that it is given.
use Rattle.std.specs.Prelude.{ℕ, ◌-◌, suc, Bool, true, false, ◌&&◌, ◌||◌, not, nat_eq, nat_lt, List, [], ◌∷◌, length, map}
use Rattle.std.specs.List.{flat_map}
use Rattle.element_store.specs.declared.numbers.FileNo.{FileNo}
use Rattle.element_store.specs.declared.numbers.RefNo.{RefNo}
use Rattle.element_store.specs.declared.outcome.Outcome.{Outcome}
use Rattle.element_store.specs.declared.outcome.Outcome.TheVariants.{Linked}
use Rattle.element_store.specs.declared.records.Reference.{Reference}
use Rattle.element_store.specs.Numbers.{those_where}
use Rattle.element_store.specs.Model.{Data}
use Rattle.book_model.specs.declared.rows.LinkRow.{LinkRow}
use Rattle.book_model.specs.declared.rows.FaultRow.{FaultRow}
use Rattle.book_model.specs.declared.rows.FaultRow.TheVariants.{File, Link}
use Rattle.book_model.specs.declared.rows.FileReport.{FileReport}
use Rattle.book_model.specs.declared.rows.FileReport.TheVariants.{In, Refused}
use Rattle.book_model.specs.declared.rows.Printed.{Printed}
use Rattle.book_model.specs.declared.rows.Printed.TheVariants as printed
use Rattle.print_model.specs.Heads.{printed_text}
use Rattle.book_model.specs.Readings.{Reading, fault_place}
use Rattle.book_model.specs.Files.{Content, ProjectFile, ranked}
use Rattle.book_model.specs.Places.{place_of}
use Rattle.book_model.specs.Sorting.{sorted_by}

-- an outcome for each reference
abbrev pub Outcomes : Type 0
Outcomes = RefNo → Outcome

-- a reference with its number and its place
pub record Standing : Type 0 where
  pub number : ℕ
  pub place : ℕ
  pub reference : Reference

-- those of a file, where the first has the number n
abbrev pub standing_from : ℕ → List Reference → List ℕ → List Standing
standing_from n (r ∷ rs) (p ∷ ps) = record { number = n; place = p; reference = r } ∷ standing_from (suc n) rs ps
standing_from n rs ps = []

-- the references of a file in the order of their numbers
abbrev pub standing : Data → List Standing
standing d = standing_from 0 d.references d.reference_places

-- in rising order of places, and then of numbers
abbrev pub stands_earlier : Standing → Standing → Bool
stands_earlier a b = nat_lt a.place b.place || (nat_eq a.place b.place && nat_lt a.number b.number)

-- the references of a file in that order
abbrev pub rising : Data → List Standing
rising d = sorted_by stands_earlier (standing d)

-- the row of a reference
abbrev pub link_row : Outcomes → List ℕ → FileNo → Standing → LinkRow
link_row outcomes text file s = record {
  reference = record { file = file; index = s.number };
  role = s.reference.role;
  place = place_of text s.place;
  outcome = outcomes (record { file = file; index = s.number });
}

-- LINKS. The rows of a file: one for each of its references.
abbrev pub rows_in : Outcomes → List ℕ → Data → List LinkRow
rows_in outcomes text d = map (link_row outcomes text d.file) (rising d)

-- a file with a fault has no rows
abbrev pub rows_by : Outcomes → List ℕ → Reading → List LinkRow
rows_by outcomes text (Reading.Model d) = rows_in outcomes text d
rows_by outcomes text (Reading.Fault fault) = []

-- the rows of a content
abbrev pub rows_of : Outcomes → Content → List LinkRow
rows_of outcomes c = rows_by outcomes c.text c.reading

-- the reference is linked
abbrev pub is_linked : Outcome → Bool
is_linked (Linked steps e) = true
is_linked other = false

-- FAULTS. The fault of a file, or its rows whose outcome isn't Linked; files in byte order of their names.
abbrev pub faults_by : Outcomes → List ℕ → List ℕ → Reading → List FaultRow
faults_by outcomes name text (Reading.Model d) =
    map (Link name) (those_where (λ row. not (is_linked row.outcome)) (rows_in outcomes text d))
faults_by outcomes name text (Reading.Fault fault) = File name fault (place_of text (fault_place fault)) ∷ []

-- what is wrong with the present files
abbrev pub faults_in : Outcomes → List ProjectFile → List FaultRow
faults_in outcomes files = flat_map (λ f. faults_by outcomes f.name f.content.text f.content.reading) (ranked files)

-- FILE. The numbers of a file's elements, without the root, and of its references; or its fault.
abbrev pub report_by : List ℕ → Reading → FileReport
report_by text (Reading.Model d) = In (length d.elements - 1) (length d.references)
report_by text (Reading.Fault fault) = Refused fault (place_of text (fault_place fault))

-- the report of a content
abbrev pub report_of : Content → FileReport
report_of c = report_by c.text c.reading

-- PRINT. The canonical text of a file's model; or its fault.
abbrev pub printed_by : List ℕ → Reading → Printed
printed_by text (Reading.Model d) = printed.Text (printed_text d)
printed_by text (Reading.Fault fault) = printed.Refused fault (place_of text (fault_place fault))

-- what printing a content gives
abbrev pub printed_of : Content → Printed
printed_of c = printed_by c.text c.reading
