-- Places of a text as they are printed: lines and columns, in bytes, from 1 on.
use Rattle.std.specs.Prelude.{ℕ, ◌+◌, nat_eq, not, List, take, reverse, count_by}
use Rattle.std.specs.List.{prefix_len}
use Rattle.book_model.specs.declared.rows.Place.{Place}

-- the line of a place: 1, and the LF bytes before it
abbrev pub line_at : List ℕ → ℕ → ℕ
line_at text place = 1 + count_by (λ b. nat_eq b 10) (take place text)

-- the column of a place: 1, and the bytes since the last LF or the start
abbrev pub column_at : List ℕ → ℕ → ℕ
column_at text place = 1 + prefix_len (λ b. not (nat_eq b 10)) (reverse (take place text))

-- the line and the column of a place
abbrev pub place_of : List ℕ → ℕ → Place
place_of text place = record { line = line_at text place; column = column_at text place }
