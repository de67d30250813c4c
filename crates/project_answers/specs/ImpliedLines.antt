-- The lines of implied specialisations.
use Rattle.std.specs.Prelude.{ℕ, List, ◌++◌, codes}
use Rattle.std.specs.Fmt.{decimal}
use Rattle.std.specs.List.{flat_map}
use Rattle.book_model.specs.Files.{ProjectFile}
use Rattle.book_model.specs.Live.{IsLiveElement, IsLiveMember}
use Rattle.book_model.specs.Printed.{implication_text}
use Rattle.implied_rules.specs.declared.rows.ImpliedRow.{ImpliedRow}
use Rattle.implied_rules.specs.Implied.{said_by}
use Rattle.project_answers.specs.Parts.{sum_of}

-- the elements and the member of a row stand
abbrev pub IsLiveImplied : List ProjectFile → ImpliedRow → Type 0
IsLiveImplied files row = IsLiveElement files row.of × IsLiveMember files row.member × IsLiveElement files row.base

-- the line of a row
abbrev pub implied_line : List ProjectFile → ImpliedRow → List ℕ
implied_line files row = implication_text files (said_by row) ++ codes "\n"

-- which counts once
abbrev pub one_each : ImpliedRow → ℕ
one_each row = 1

-- the lines of rows
abbrev pub implied_lines : List ProjectFile → List ImpliedRow → List ℕ
implied_lines files rows = flat_map (implied_line files) rows

-- and how many they are
abbrev pub implied_counts : List ImpliedRow → ℕ
implied_counts rows = sum_of one_each rows

-- the last line
abbrev pub implied_end : ℕ → List ℕ
implied_end count = codes "implied " ++ decimal count ++ codes "\n"
