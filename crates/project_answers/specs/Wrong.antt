-- The present files by their numbers, and what is wrong with them.
use Rattle.std.specs.Prelude.{ℕ, List, [], ◌++◌, codes, length, slice_get}
use Rattle.std.specs.List.{flat_map}
use Rattle.std.specs.Option.{option_map_or}
use Rattle.element_store.specs.declared.numbers.FileNo.{FileNo}
use Rattle.book_model.specs.declared.rows.FaultRow.{FaultRow}
use Rattle.book_model.specs.Files.{ProjectFile, Present, present_by}
use Rattle.book_model.specs.Printed.{fault_row_text}
use Rattle.book_model.specs.Queries.{links_over}
use Rattle.book_model.specs.Rows.{faults_by}

-- the file with that number, if it is the book's and its text is present
abbrev pub present_at : List ProjectFile → FileNo → List Present
present_at files n = option_map_or (λ f. present_by f.name f.library f.content) (slice_get files n.0) []

-- those of these numbers
abbrev pub presents : List ProjectFile → List FileNo → List Present
presents files numbers = flat_map (present_at files) numbers

-- what is wrong with a present file
abbrev pub wrong_with : List ProjectFile → Present → List FaultRow
wrong_with files p = faults_by (links_over files) p.name p.content.text p.content.reading

-- the lines of such rows
abbrev pub wrong_lines : List ProjectFile → List FaultRow → List ℕ
wrong_lines files rows = flat_map (λ row. fault_row_text files row ++ codes "\n") rows

-- what is wrong with the file of that number
abbrev pub wrong_at : List ProjectFile → FileNo → List FaultRow
wrong_at files n = flat_map (wrong_with files) (present_at files n)

-- the lines of what is wrong with it
abbrev pub wrong_lines_at : List ProjectFile → FileNo → List ℕ
wrong_lines_at files n = wrong_lines files (wrong_at files n)

-- and how many they are
abbrev pub wrong_count_at : List ProjectFile → FileNo → ℕ
wrong_count_at files n = length (wrong_at files n)

-- the lines of what is wrong with the files of these numbers
abbrev pub lines_at : List ProjectFile → List FileNo → List ℕ
lines_at files numbers = flat_map (wrong_lines_at files) numbers
