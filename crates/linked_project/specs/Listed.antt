-- Lists of answers, file by file and row by row.
use Rattle.std.specs.Prelude.{ℕ, cond, List, [], ◌∷◌, map}
use Rattle.std.specs.List.{flat_map}
use Rattle.element_store.specs.declared.numbers.FileNo.{FileNo}
use Rattle.book_model.specs.declared.rows.FaultRow.{FaultRow}
use Rattle.book_model.specs.declared.rows.FaultRow.TheVariants.{File, Link}
use Rattle.book_model.specs.declared.rows.LinkRow.{LinkRow}
use Rattle.book_model.specs.Files.{ProjectFile, model_at, name_at}
use Rattle.book_model.specs.Live.{IsLiveReference, NamesLive}
use Rattle.book_model.specs.Rows.{is_linked}
use Rattle.project_answers.specs.declared.spots.Spot.{Spot}
use Rattle.project_answers.specs.RowLines.{reference_at, row_at}
use Rattle.project_answers.specs.Spots.{rising_spots}
use Rattle.project_answers.specs.Wrong.{present_at}

-- the row of the reference at a spot of a file
abbrev pub spot_row : List ProjectFile → FileNo → Spot → LinkRow
spot_row files file spot = row_at files (reference_at file spot)

-- the rows of a file, in rising place
abbrev pub rows_at : List ProjectFile → FileNo → List LinkRow
rows_at files file = map (spot_row files file) (rising_spots (model_at files file))

-- a row of the file of that name, unless it is linked
abbrev pub wrong_row : List ℕ → LinkRow → List FaultRow
wrong_row name row = cond (is_linked row.outcome) [] (Link name row ∷ [])

-- the row at a spot of a file, unless it is linked
abbrev pub wrong_spot : List ProjectFile → FileNo → Spot → List FaultRow
wrong_spot files file spot = wrong_row (name_at files file) (spot_row files file spot)

-- the rows of a file that aren't linked, in rising place
abbrev pub wrong_rows_at : List ProjectFile → FileNo → List FaultRow
wrong_rows_at files file = flat_map (wrong_spot files file) (rising_spots (model_at files file))

-- the reference of a row stands, and so does what its outcome names
abbrev pub IsLiveRow : List ProjectFile → LinkRow → Type 0
IsLiveRow files row = IsLiveReference files row.reference × NamesLive files row.outcome

-- that of what is wrong does
abbrev pub IsLiveFault : List ProjectFile → FaultRow → Type 0
IsLiveFault files (File name fault place) = Unit {0}
IsLiveFault files (Link name row) = IsLiveRow files row

-- the name of a file, if its text is present
abbrev pub present_names : List ProjectFile → FileNo → List (List ℕ)
present_names files file = map (λ p. p.name) (present_at files file)
