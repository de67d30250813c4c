-- Where the lines of a text end.
use Rattle.std.specs.Prelude.{◌≡◌, ℕ, zero, suc, ◌+◌, ◌-◌, ◌<◌, ◌≤◌, List, length, slice_index}
use Rattle.memchr.specs.Find.{is_byte, places}
use Rattle.book_model.specs.Places.{line_at, column_at}

-- the places of the LF bytes
abbrev pub ends_of : List ℕ → List ℕ
ends_of text = places (is_byte 10) text

-- where so many lines end before a place, its column is counted from the end of the last one, or from the start
abbrev pub IsColumn : List ℕ → ℕ → ℕ → Type 0
IsColumn text at zero = column_at text at ≡ at + 1
IsColumn text at (suc last) =
    (slice_index (ends_of text) last < at) × (column_at text at ≡ at - slice_index (ends_of text) last)

-- so many lines end before the place
pub record EndBefore (text : List ℕ) (at lines : ℕ) : Type 0 where
  pub few : lines ≤ length (ends_of text)
  pub line : line_at text at ≡ lines + 1
  pub column : IsColumn text at lines
