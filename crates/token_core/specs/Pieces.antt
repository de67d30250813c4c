-- The forms of a piece of text, after KerML's lexical structure: notes and comments (8.2.2.2), names (8.2.2.3), numeric
-- values (8.2.2.4), string values (8.2.2.5), reserved words (8.2.2.6), symbols (8.2.2.7).
use Rattle.std.specs.Prelude.{◌≡◌, ◌⊎◌, ℕ, ◌≤◌, Bool, true, false, List, [], ◌∷◌, ◌++◌, length, Some, None}
use Rattle.element_store.specs.declared.outcome.Language.{Language}
use Rattle.token_core.specs.declared.token.TokenKind.TheVariants.{Name, Integer, Quote, Comment, Sign, Word}
use Rattle.token_core.specs.declared.token.PieceKind.{PieceKind}
use Rattle.token_core.specs.declared.token.PieceKind.TheVariants.{Space, LineNote, BlockNote, Token}
use Rattle.token_core.specs.Bytes.{backslash, name_quote, slash, star, text_quote, IsRun, BeginsOther}
use Rattle.token_core.specs.Bytes.{is_space, is_digit, is_letter, is_word, is_in_line, is_plain, is_escape}
use Rattle.token_core.specs.Words.{signs, words, place_in}

-- at least one byte, and each passes
abbrev pub IsSomeRun : (ℕ → Bool) → List ℕ → Type 0
IsSomeRun p [] = ⊥
IsSomeRun p (b ∷ bs) = (p b ≡ true) × IsRun p bs

-- a letter or `_`, then letters, digits and `_`
abbrev pub IsBasicName : List ℕ → Type 0
IsBasicName [] = ⊥
IsBasicName (b ∷ bs) = (is_letter b ≡ true) × IsRun is_word bs

-- the bytes end with the first `*/` in them
abbrev pub IsUpToClose : List ℕ → Type 0
IsUpToClose [] = ⊥
IsUpToClose (b ∷ bs) = ((b ≡ star) × (bs ≡ slash ∷ [])) ⊎ ((b ≡ star → BeginsOther slash bs) × IsUpToClose bs)

-- plain bytes and escapes, and then the closing quote; `escaped` where a backslash stands before the bytes
abbrev pub IsUpToQuote : ℕ → Bool → List ℕ → Type 0
IsUpToQuote quote escaped [] = ⊥
IsUpToQuote quote true (b ∷ bs) = (is_escape b ≡ true) × IsUpToQuote quote false bs
IsUpToQuote quote false (b ∷ bs) =
    ((b ≡ quote) × (bs ≡ []))
    ⊎ (((b ≡ backslash) × IsUpToQuote quote true bs) ⊎ ((is_plain quote b ≡ true) × IsUpToQuote quote false bs))

abbrev pub IsQuoted : ℕ → List ℕ → Type 0
IsQuoted quote [] = ⊥
IsQuoted quote (b ∷ bs) = (b ≡ quote) × IsUpToQuote quote false bs

-- `/` is a sign only where neither `/` nor `*` follows
abbrev pub MayFollowSign : List ℕ → List ℕ → Type 0
MayFollowSign bytes more = bytes ≡ slash ∷ [] → BeginsOther slash more × BeginsOther star more

-- the bytes are a piece of this kind where these follow
abbrev pub IsPiece : Language → PieceKind → List ℕ → List ℕ → Type 0
IsPiece language Space bytes more = IsSomeRun is_space bytes
IsPiece language LineNote [] more = ⊥
IsPiece language LineNote (a ∷ []) more = ⊥
IsPiece language LineNote (a ∷ b ∷ bytes) more =
    (a ≡ slash) × (b ≡ slash) × BeginsOther star (bytes ++ more) × IsRun is_in_line bytes
IsPiece language BlockNote [] more = ⊥
IsPiece language BlockNote (a ∷ []) more = ⊥
IsPiece language BlockNote (a ∷ b ∷ []) more = ⊥
IsPiece language BlockNote (a ∷ b ∷ c ∷ bytes) more = (a ≡ slash) × (b ≡ slash) × (c ≡ star) × IsUpToClose bytes
IsPiece language (Token Comment) [] more = ⊥
IsPiece language (Token Comment) (a ∷ []) more = ⊥
IsPiece language (Token Comment) (a ∷ b ∷ bytes) more = (a ≡ slash) × (b ≡ star) × IsUpToClose bytes
IsPiece language (Token Name) bytes more =
    (IsBasicName bytes × (place_in (words language) bytes ≡ None)) ⊎ IsQuoted name_quote bytes
IsPiece language (Token (Word n)) bytes more = IsBasicName bytes × (place_in (words language) bytes ≡ Some n)
IsPiece language (Token Quote) bytes more = IsQuoted text_quote bytes
IsPiece language (Token Integer) bytes more = IsSomeRun is_digit bytes
IsPiece language (Token (Sign n)) bytes more = (place_in signs bytes ≡ Some n) × MayFollowSign bytes more

-- a piece of this kind, and no longer piece of any kind begins at its place
pub record IsLongest (language : Language) (kind : PieceKind) (bytes more : List ℕ) : Type 0 where
  pub piece : IsPiece language kind bytes more
  pub longest :
      (k : PieceKind) (bs rest : List ℕ)
      → bs ++ rest ≡ bytes ++ more → IsPiece language k bs rest → length bs ≤ length bytes

-- no piece begins the text
abbrev pub NoPiece : Language → List ℕ → Type 0
NoPiece language text = (k : PieceKind) (bs rest : List ℕ) → bs ++ rest ≡ text → IsPiece language k bs rest → ⊥
