-- The buffer of a reader, and what is pending in it.
use Rattle.std.specs.Prelude.{◌≡◌, ℕ, ◌-◌, ◌≤◌, List, [], ◌++◌, length, take, drop, Option, Some, None, Result, Ok, Err}
use Rattle.outside_core.specs.Streams.{TakenSoFar}
use Rattle.script_commands.specs.declared.piece.Piece.{Piece}
use Rattle.script_commands.specs.declared.piece.TheConstants.{PIECE}

-- a buffer of one piece, with its bounds in it
pub record IsPiece (p : Piece) : Type 0 where
  pub size : length p.bytes.items ≡ PIECE
  pub order : p.at ≤ p.end
  pub within : p.end ≤ PIECE

-- the bytes that are pending
abbrev pub pending_of : Piece → List ℕ
pending_of p = take (p.end - p.at) (drop p.at p.bytes.items)

-- nothing is left, where that is told
abbrev pub IsAtEnd : Option (List ℕ) → Type 0
IsAtEnd None = Unit {0}
IsAtEnd (Some bytes) = bytes ≡ []

-- Ok n took n bytes after those that are pending, and 0 only at the end; a failure took nothing
abbrev pub TookMore : {E : Type 0} → Piece → Piece → Option (List ℕ) → Option (List ℕ) → Result ℕ E → Type 0
TookMore before after left now (Ok n) =
    (more : List ℕ) × (length more ≡ n) × (pending_of after ≡ pending_of before ++ more)
    × TakenSoFar left now more × (n ≡ 0 → IsAtEnd now)
TookMore before after left now (Err e) = (pending_of after ≡ pending_of before) × TakenSoFar left now []
