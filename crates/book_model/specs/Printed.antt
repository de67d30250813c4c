-- How places, roles, faults, outcomes and rows are printed.
use Rattle.std.specs.Prelude.{ℕ, List, ◌++◌, codes}
use Rattle.std.specs.Fmt.{decimal}
use Rattle.element_store.specs.declared.numbers.FileNo.{FileNo}
use Rattle.element_store.specs.declared.numbers.ElementNo.{ElementNo}
use Rattle.element_store.specs.declared.outcome.Outcome.{Outcome}
use Rattle.element_store.specs.declared.outcome.Outcome.TheVariants.{Linked, Absent, Ambiguous, Hidden, Cyclic}
use Rattle.element_store.specs.declared.outcome.Role.{Role}
use Rattle.element_store.specs.declared.outcome.Role.TheVariants as role
use Rattle.implied_model.specs.Implied.{Implication}
use Rattle.text_model.specs.declared.fault.FileFault.{FileFault}
use Rattle.text_model.specs.declared.fault.FileFault.TheVariants as fault
use Rattle.book_model.specs.declared.rows.Place.{Place}
use Rattle.book_model.specs.declared.rows.LinkRow.{LinkRow}
use Rattle.book_model.specs.declared.rows.FaultRow.{FaultRow}
use Rattle.book_model.specs.declared.rows.FaultRow.TheVariants.{File, Link}
use Rattle.book_model.specs.declared.rows.FileReport.{FileReport}
use Rattle.book_model.specs.declared.rows.FileReport.TheVariants.{In, Refused}
use Rattle.book_model.specs.Files.{ProjectFile, name_at}
use Rattle.book_model.specs.Queries.{member_place, reference_place, label, text_of_reference}

-- a place, as `LINE:COLUMN`
abbrev pub place_text : Place → List ℕ
place_text p = decimal p.line ++ codes ":" ++ decimal p.column

-- the word of a role
abbrev pub role_text : Role → List ℕ
role_text role.Subclass = codes "subclass"
role_text role.Typing = codes "typing"
role_text role.Subsetting = codes "subset"
role_text role.Redefinition = codes "redefine"
role_text role.ReferenceSubsetting = codes "reference"
role_text role.Import = codes "import"
role_text role.Alias = codes "alias"
role_text role.About = codes "about"
role_text role.Value = codes "value"
role_text role.Bound = codes "bound"

-- the name of a fault
abbrev pub fault_text : FileFault → List ℕ
fault_text (fault.Encoding place) = codes "Encoding"
fault_text (fault.Token place) = codes "Token"
fault_text (fault.TooDeep place) = codes "TooDeep"
fault_text (fault.Syntax place) = codes "Syntax"
fault_text (fault.Limit place) = codes "Limit"
fault_text fault.NoMemory = codes "NoMemory"

-- a place of a file, as `FILE:LINE:COLUMN`
abbrev pub spot_text : List ProjectFile → FileNo → Place → List ℕ
spot_text files f p = name_at files f ++ codes ":" ++ place_text p

-- an element, as `FILE LABEL`
abbrev pub element_text : List ProjectFile → ElementNo → List ℕ
element_text files e = name_at files e.file ++ codes " " ++ label files e

-- an outcome: where it leads, or the segment that is refused and why, or the reference on which it hangs
abbrev pub outcome_text : List ProjectFile → Outcome → List ℕ
outcome_text files (Linked steps e) = codes "linked " ++ element_text files e
outcome_text files (Absent segment) = codes "absent " ++ decimal segment
outcome_text files (Ambiguous segment a b) =
    codes "ambiguous " ++ decimal segment ++ codes " " ++ spot_text files a.file (member_place files a)
    ++ codes " " ++ spot_text files b.file (member_place files b)
outcome_text files (Hidden segment m) =
    codes "hidden " ++ decimal segment ++ codes " " ++ spot_text files m.file (member_place files m)
outcome_text files (Cyclic r) = codes "cyclic " ++ spot_text files r.file (reference_place files r)

-- a row, as `PLACE ROLE TEXT -> OUTCOME`
abbrev pub row_text : List ProjectFile → LinkRow → List ℕ
row_text files row =
    place_text row.place ++ codes " " ++ role_text row.role ++ codes " " ++ text_of_reference files row.reference
    ++ codes " -> " ++ outcome_text files row.outcome

-- an implied specialisation, as `FILE:PLACE LABEL -> FILE LABEL`; the place is that of the member that owns the type
abbrev pub implication_text : List ProjectFile → Implication → List ℕ
implication_text files i =
    spot_text files i.member.file (member_place files i.member) ++ codes " " ++ label files i.of
    ++ codes " -> " ++ element_text files i.base

-- a file with a fault, as `refused PLACE FAULT`
abbrev pub refusal_text : FileFault → Place → List ℕ
refusal_text fault place = codes "refused " ++ place_text place ++ codes " " ++ fault_text fault

-- a report, as `elements E references R` or the refusal
abbrev pub report_text : FileReport → List ℕ
report_text (In elements references) =
    codes "elements " ++ decimal elements ++ codes " references " ++ decimal references
report_text (Refused fault place) = refusal_text fault place

-- what is wrong, as `NAME:PLACE refused FAULT`, or as `NAME:` and the row
abbrev pub fault_row_text : List ProjectFile → FaultRow → List ℕ
fault_row_text files (File name fault place) =
    name ++ codes ":" ++ place_text place ++ codes " refused " ++ fault_text fault
fault_row_text files (Link name row) = name ++ codes ":" ++ row_text files row
