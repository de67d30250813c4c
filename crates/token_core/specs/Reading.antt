-- What a token of a text stands for, after KerML's notes and comments (8.2.2.2), names (8.2.2.3), numeric values
-- (8.2.2.4), string values (8.2.2.5).
use Rattle.std.specs.Prelude.{◌≡◌, ℕ, ◌+◌, ◌-◌, ◌*◌, ◌^◌, ◌<◌, ◌≤◌, nat_le, Bool, true, false, not, ◌==◌, ◌&&◌, ◌||◌}
use Rattle.std.specs.Prelude.{cond, List, [], ◌∷◌, ◌++◌, length, drop, codes, slice_range, IsUtf8, Option, SomeIff, ℤ, pos}
use Rattle.linker_base.specs.Members.{IsMember}
use Rattle.element_store.specs.declared.outcome.Language.{Language}
use Rattle.token_core.specs.declared.token.TokenKind.{TokenKind}
use Rattle.token_core.specs.declared.token.PieceKind.TheVariants.{Token as Kept}
use Rattle.token_core.specs.declared.token.Token.{Token}
use Rattle.token_core.specs.Bytes.{backslash, backspace, blank, byte, delete, form_feed, line_feed, name_quote, tab}
use Rattle.token_core.specs.Bytes.{text_quote, IsRun, escape_meaning}
use Rattle.token_core.specs.Pieces.{IsPiece}

abbrev pub bytes_of : List ℕ → Token → List ℕ
bytes_of text t = slice_range text t.from t.upto

-- a token of this kind stands in the text, which is UTF-8
pub record IsTokenOf (kind : TokenKind) (text : List ℕ) (t : Token) : Type 0 where
  pub utf8 : IsUtf8 text
  pub ordered : t.from ≤ t.upto
  pub within : t.upto ≤ length text
  pub same : t.kind ≡ kind
  pub language : Language
  pub piece : IsPiece language (Kept kind) (bytes_of text t) (drop t.upto text)

-- each of these stands in the text as a token of its kind
abbrev pub AreTokensOf : List ℕ → List Token → Type 0
AreTokensOf text tokens = (t : Token) → IsMember tokens t → IsTokenOf t.kind text t

-- the bytes up to the closing quote, each escape read as the byte for which it stands; `escaped` behind a backslash
abbrev pub decoded : ℕ → Bool → List ℕ → List ℕ
decoded quote escaped [] = []
decoded quote true (b ∷ bs) = escape_meaning b ∷ decoded quote false bs
decoded quote false (b ∷ bs) =
    cond (b == quote) [] (cond (b == backslash) (decoded quote true bs) (b ∷ decoded quote false bs))

-- a quoted name stands for what its quotes enclose, a basic name for itself
abbrev pub name_meaning : List ℕ → List ℕ
name_meaning [] = []
name_meaning (b ∷ bs) = cond (b == name_quote) (decoded name_quote false bs) (b ∷ bs)

abbrev pub string_meaning : List ℕ → List ℕ
string_meaning [] = []
string_meaning (b ∷ bs) = decoded text_quote false bs

-- a comment stands for what is between its `/*` and `*/`
abbrev pub comment_meaning : List ℕ → List ℕ
comment_meaning bytes = slice_range bytes 2 (length bytes - 2)

-- the bytes as a comment
abbrev pub commented : List ℕ → List ℕ
commented bytes = codes "/*" ++ bytes ++ codes "*/"

-- the number for which decimal digits stand after those of n
abbrev pub number_from : ℕ → List ℕ → ℕ
number_from n [] = n
number_from n (b ∷ bs) = number_from (n * 10 + (b - byte "0")) bs

-- the number for which the digits stand, where it is below 2 to the 63rd, and none otherwise
abbrev pub IsIntegerOf : Option ℤ → List ℕ → Type 0
IsIntegerOf result digits = SomeIff result (number_from 0 digits < 2 ^ 63) (pos (number_from 0 digits))

-- may stand between quotes, as it is or by an escape
abbrev pub is_spellable : ℕ → Bool
is_spellable b =
    not (b == delete)
    && (nat_le blank b || ((b == backspace) || ((b == tab) || ((b == line_feed) || (b == form_feed)))))

-- a name or a text that quotes can enclose
pub record IsSpellable (bytes : List ℕ) : Type 0 where
  pub utf8 : IsUtf8 bytes
  pub each : IsRun is_spellable bytes
