-- The lines of answers, in the parts in which they are written.
use Rattle.std.specs.Fmt.{decimal}
use Rattle.std.specs.Prelude.{ℕ, ◌+◌, List, [], ◌∷◌, ◌++◌, length, codes, Option, Some, None}
use Rattle.book_model.specs.declared.rows.FileReport.{FileReport}
use Rattle.book_model.specs.declared.rows.Printed.{Printed}
use Rattle.book_model.specs.declared.rows.Printed.TheVariants as printed
use Rattle.book_model.specs.Printed.{refusal_text, report_text}
use Rattle.book_model.specs.Answers.{no_file, references_in}
use Rattle.project_book.specs.declared.faults.Applied.{Applied}
use Rattle.project_book.specs.declared.faults.Applied.TheVariants.{Changed, NotThere}
use Rattle.project_answers.specs.declared.lines.Counts.{Counts}

-- the command and the name
abbrev pub head_of : List ℕ → List ℕ → List ℕ
head_of command name = command ++ codes " " ++ name ++ codes " "

-- what a put says behind them
abbrev pub put_rest : Option FileReport → List ℕ
put_rest (Some report) = report_text report
put_rest None = no_file

-- what a drop says behind them
abbrev pub drop_rest : Applied → List ℕ
drop_rest Changed = codes "done"
drop_rest NotThere = no_file

-- what a print says behind them
abbrev pub print_rest : Option Printed → List ℕ
print_rest (Some (printed.Text text)) = decimal (length text)
print_rest (Some (printed.Refused fault place)) = refusal_text fault place
print_rest None = no_file

-- and what stands behind its line
abbrev pub text_behind : Option Printed → List ℕ
text_behind (Some (printed.Text text)) = text
text_behind (Some (printed.Refused fault place)) = []
text_behind None = []

-- the last line of a check
abbrev pub counts_text : Counts → List ℕ
counts_text c =
    codes "check files " ++ decimal c.files ++ codes " references " ++ decimal c.references
    ++ codes " faults " ++ decimal c.faults ++ codes "\n"

-- the counts with one file more, if it is present
abbrev pub counts_with : Counts → Option FileReport → Counts
counts_with c None = c
counts_with c (Some report) =
    record c { files = c.files + 1; references = c.references + references_in (report ∷ []) }
