-- The rows of a file one by one, and their lines.
use Rattle.std.specs.Prelude.{ℕ, Bool, true, cond, not, List, [], ◌++◌, codes, slice_get}
use Rattle.std.specs.List.{flat_map}
use Rattle.std.specs.Option.{option_map_or}
use Rattle.element_store.specs.declared.numbers.FileNo.{FileNo}
use Rattle.element_store.specs.declared.numbers.RefNo.{RefNo}
use Rattle.element_store.specs.declared.outcome.Role.{Role}
use Rattle.element_store.specs.declared.outcome.Role.TheVariants.{Subclass}
use Rattle.book_model.specs.declared.rows.LinkRow.{LinkRow}
use Rattle.book_model.specs.Files.{ProjectFile, model_at, name_at, stored}
use Rattle.book_model.specs.Outcomes.{outcome_of}
use Rattle.book_model.specs.Printed.{row_text}
use Rattle.book_model.specs.Queries.{reference_place}
use Rattle.book_model.specs.Rows.{is_linked}
use Rattle.project_answers.specs.declared.rows.Listing.{Listing}
use Rattle.project_answers.specs.declared.rows.Listing.TheVariants.{All, Faults}
use Rattle.project_answers.specs.declared.spots.Spot.{Spot}
use Rattle.project_answers.specs.Parts.{sum_of}
use Rattle.project_answers.specs.Spots.{rising_spots}

-- the role of a reference
abbrev pub role_at : List ProjectFile → RefNo → Role
role_at files r = option_map_or (λ x. x.role) (slice_get (model_at files r.file).references r.index) Subclass

-- the row of a reference
abbrev pub row_at : List ProjectFile → RefNo → LinkRow
row_at files r = record {
  reference = r;
  role = role_at files r;
  place = reference_place files r;
  outcome = outcome_of (stored files) r;
}

-- the row is listed: among all, or among those that aren't linked
abbrev pub is_listed : Listing → LinkRow → Bool
is_listed All row = true
is_listed Faults row = not (is_linked row.outcome)

-- what stands before a row: nothing, or the name of its file
abbrev pub before_row : Listing → List ProjectFile → LinkRow → List ℕ
before_row All files row = []
before_row Faults files row = name_at files row.reference.file ++ codes ":"

-- the line of a row, if it is listed
abbrev pub line_of : Listing → List ProjectFile → LinkRow → List ℕ
line_of listing files row =
    cond (is_listed listing row) (before_row listing files row ++ row_text files row ++ codes "\n") []

-- whether a row counts
abbrev pub count_of : Listing → LinkRow → ℕ
count_of listing row = cond (is_listed listing row) 1 0

-- the row of the reference at a spot of a file
abbrev pub reference_at : FileNo → Spot → RefNo
reference_at file spot = record { file = file; index = spot.number }

-- the line of the row at a spot
abbrev pub spot_line : Listing → List ProjectFile → FileNo → Spot → List ℕ
spot_line listing files file spot = line_of listing files (row_at files (reference_at file spot))

-- and whether it counts
abbrev pub spot_count : Listing → List ProjectFile → FileNo → Spot → ℕ
spot_count listing files file spot = count_of listing (row_at files (reference_at file spot))

-- the lines of the rows at spots
abbrev pub lines_of : Listing → List ProjectFile → FileNo → List Spot → List ℕ
lines_of listing files file spots = flat_map (spot_line listing files file) spots

-- and how many they are
abbrev pub counts_of : Listing → List ProjectFile → FileNo → List Spot → ℕ
counts_of listing files file spots = sum_of (spot_count listing files file) spots

-- the lines of the rows of a file
abbrev pub file_lines : Listing → List ProjectFile → FileNo → List ℕ
file_lines listing files file = lines_of listing files file (rising_spots (model_at files file))

-- and how many they are
abbrev pub file_counts : Listing → List ProjectFile → FileNo → ℕ
file_counts listing files file = counts_of listing files file (rising_spots (model_at files file))
