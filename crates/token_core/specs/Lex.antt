-- A text as the pieces that it is made of, its tokens, and the faults of a text that has none; after KerML's lexical
-- structure (8.2.2).
use Rattle.std.specs.Prelude.{◌≡◌, ℕ, ◌+◌, ◌-◌, ◌<◌, ◌≤◌, ◌==◌, ◌&&◌, Bool, false, cond, List, [], ◌∷◌, ◌++◌}
use Rattle.std.specs.Prelude.{length, get_or, codes, Option, Some, None, Result, Ok, Err, IsUtf8}
use Rattle.std.specs.List.{list_any}
use Rattle.std.specs.Str.{bytes_eq, IsValidUpTo}
use Rattle.element_store.specs.declared.outcome.Language.{Language}
use Rattle.token_core.specs.declared.token.TokenKind.{TokenKind}
use Rattle.token_core.specs.declared.token.TokenKind.TheVariants.{Sign}
use Rattle.token_core.specs.declared.token.PieceKind.{PieceKind}
use Rattle.token_core.specs.declared.token.PieceKind.TheVariants.{Space, LineNote, BlockNote, Token as Kept}
use Rattle.token_core.specs.declared.token.Token.{Token}
use Rattle.token_core.specs.declared.token.TheConstants.{NESTING}
use Rattle.token_core.specs.declared.token.LexFault.{LexFault}
use Rattle.token_core.specs.declared.token.LexFault.TheVariants.{Encoding, Token as BadToken, TooDeep, NoMemory}
use Rattle.token_core.specs.Pieces.{IsLongest, NoPiece}
use Rattle.token_core.specs.Words.{parted, signs}

pub record Piece : Type 0 where
  pub kind : PieceKind
  pub bytes : List ℕ

-- the text begins with these pieces, each the longest at its place, and goes on with the rest
abbrev pub Cut : Language → List Piece → List ℕ → List ℕ → Type 0
Cut language [] text rest = text ≡ rest
Cut language (p ∷ ps) text rest =
    (more : List ℕ) × (text ≡ p.bytes ++ more) × IsLongest language p.kind p.bytes more × Cut language ps more rest

-- how many bytes pieces have together
abbrev pub size_of : List Piece → ℕ
size_of [] = 0
size_of (p ∷ ps) = length p.bytes + size_of ps

-- the token that a piece of so many bytes at this place is, if it is one
abbrev pub token_at : PieceKind → ℕ → ℕ → List Token
token_at Space at size = []
token_at LineNote at size = []
token_at BlockNote at size = []
token_at (Kept kind) at size = record { kind = kind; from = at; upto = at + size } ∷ []

-- the tokens among pieces that begin at a place
abbrev pub tokens_from : ℕ → List Piece → List Token
tokens_from at [] = []
tokens_from at (p ∷ ps) = token_at p.kind at (length p.bytes) ++ tokens_from (at + length p.bytes) ps

-- the text is made of pieces, of which these are the tokens
abbrev pub Lex : Language → List ℕ → List Token → Type 0
Lex language text tokens = (ps : List Piece) × Cut language ps text [] × (tokens ≡ tokens_from 0 ps)

-- the first place, after whole pieces, at which no piece begins
abbrev pub IsTokenPlace : Language → List ℕ → ℕ → Type 0
IsTokenPlace language text place =
    (ps : List Piece)
    × (rest : List ℕ)
    × Cut language ps text rest
    × (0 < length rest)
    × NoPiece language rest
    × (place + length rest ≡ length text)

-- the sign of this number is spelt as one of those that blanks part in the text
abbrev pub is_spelt_among : List ℕ → ℕ → Bool
is_spelt_among text n = list_any (bytes_eq (get_or signs n [])) (parted text)

abbrev pub is_opening : TokenKind → Bool
is_opening (Sign n) = is_spelt_among (codes "{ [ (") n
is_opening _ = false

abbrev pub is_closing : TokenKind → Bool
is_closing (Sign n) = is_spelt_among (codes "} ] )") n
is_closing _ = false

abbrev pub nesting_after : ℕ → TokenKind → ℕ
nesting_after nesting kind = cond (is_opening kind) (nesting + 1) (cond (is_closing kind) (nesting - 1) nesting)

-- the place of the bracket that would raise the nesting past the greatest that is allowed, from this nesting on
abbrev pub too_deep : ℕ → List Token → Option ℕ
too_deep nesting [] = None
too_deep nesting (t ∷ ts) =
    cond (is_opening t.kind && (nesting == NESTING)) (Some t.from) (too_deep (nesting_after nesting t.kind) ts)

-- what the lexer answers of a text: its tokens, or the first of the faults that it has
abbrev pub Lexes : Language → List ℕ → Result (List Token) LexFault → Type 0
Lexes language text (Ok tokens) = IsUtf8 text × Lex language text tokens × (too_deep 0 tokens ≡ None)
Lexes language text (Err (Encoding place)) = IsValidUpTo text place
Lexes language text (Err (BadToken place)) = IsUtf8 text × IsTokenPlace language text place
Lexes language text (Err (TooDeep place)) =
    IsUtf8 text × ((tokens : List Token) × Lex language text tokens × (too_deep 0 tokens ≡ Some place))
Lexes language text (Err NoMemory) = Unit {0}

-- from here up to there each token has a byte at least, and begins where the one before it ends, or later
abbrev pub StandApart : ℕ → List Token → ℕ → Type 0
StandApart here [] there = here ≤ there
StandApart here (t ∷ ts) there = (here ≤ t.from) × (t.from < t.upto) × StandApart t.upto ts there
