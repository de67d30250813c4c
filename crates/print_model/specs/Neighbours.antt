-- Printed tokens with the white space behind each, and that their text is cut at them.
use Rattle.std.specs.Prelude.{ℕ, List, [], ◌∷◌, ◌++◌}
use Rattle.element_store.specs.declared.outcome.Language.{Language}
use Rattle.token_core.specs.declared.token.PieceKind.TheVariants.{Space, Token as Kept}
use Rattle.token_core.specs.Pieces.{IsLongest}
use Rattle.token_core.specs.Lex.{Piece}
use Rattle.print_model.specs.Printed.{Printed}
use Rattle.print_model.specs.Layout.{Line, gap, indent}

-- a token with the white space behind it
pub record Put : Type 0 where
  pub token : Printed
  pub space : List ℕ

-- their bytes
abbrev pub bytes_in : List Put → List ℕ
bytes_in [] = []
bytes_in (p ∷ ps) = p.token.bytes ++ (p.space ++ bytes_in ps)

-- white space as a piece, where there is any
abbrev pub space_piece : List ℕ → List Piece
space_piece [] = []
space_piece (b ∷ bs) = record { kind = Space; bytes = b ∷ bs } ∷ []

-- their pieces
abbrev pub pieces_in : List Put → List Piece
pieces_in [] = []
pieces_in (p ∷ ps) = record { kind = Kept p.token.kind; bytes = p.token.bytes } ∷ (space_piece p.space ++ pieces_in ps)

-- white space is none, or a piece of its own
abbrev pub IsGap : Language → List ℕ → List ℕ → Type 0
IsGap l [] more = Unit {0}
IsGap l (b ∷ bs) more = IsLongest l Space (b ∷ bs) more

-- each token and each white space is the longest piece where what follows follows
abbrev pub ArePut : Language → List Put → Type 0
ArePut l [] = Unit {0}
ArePut l (p ∷ ps) = IsLongest l (Kept p.token.kind) p.token.bytes (p.space ++ bytes_in ps)
    × (IsGap l p.space (bytes_in ps) × ArePut l ps)

-- the tokens of lines, each with the space behind it: before the next token, or the end of the line and the next line's
-- indentation
abbrev pub puts_in : List Printed → List ℕ → List Put
puts_in [] after = []
puts_in (p ∷ []) after = record { token = p; space = after } ∷ []
puts_in (p ∷ q ∷ ps) after = record { token = p; space = gap p q } ∷ puts_in (q ∷ ps) after

-- what stands behind the last token of a line
abbrev pub after_line : List Line → List ℕ
after_line [] = 10 ∷ []
after_line (l ∷ ls) = 10 ∷ indent l.level

-- the tokens of lines
abbrev pub puts_of : List Line → List Put
puts_of [] = []
puts_of (l ∷ ls) = puts_in l.tokens (after_line ls) ++ puts_of ls
