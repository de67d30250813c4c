-- Bytes by their names, and classes of bytes, after KerML's lexical structure: white space (8.2.2.1), names (8.2.2.3),
-- string values (8.2.2.5).
use Rattle.std.specs.Prelude.{◌≡◌, ℕ, nat_le, Bool, true, not, ◌==◌, ◌&&◌, ◌||◌, cond, List, [], ◌∷◌, get_or, codes}
use Prim.Native.String.{String}

-- the byte of a text of one ASCII character
abbrev pub byte : String → ℕ
byte text = get_or (codes text) 0 0

-- the bytes that no text shows
abbrev pub backspace : ℕ
backspace = 8

abbrev pub tab : ℕ
tab = 9

abbrev pub line_feed : ℕ
line_feed = 10

abbrev pub form_feed : ℕ
form_feed = 12

abbrev pub carriage_return : ℕ
carriage_return = 13

abbrev pub blank : ℕ
blank = 32

abbrev pub delete : ℕ
delete = 127

-- the quote of names, `'`
abbrev pub name_quote : ℕ
name_quote = 39

-- the quote of strings, `"`
abbrev pub text_quote : ℕ
text_quote = 34

abbrev pub backslash : ℕ
backslash = 92

abbrev pub slash : ℕ
slash = 47

abbrev pub star : ℕ
star = 42

abbrev pub is_between : ℕ → ℕ → ℕ → Bool
is_between low high b = nat_le low b && nat_le b high

abbrev pub is_space : ℕ → Bool
is_space b = (b == blank) || ((b == tab) || ((b == line_feed) || ((b == form_feed) || (b == carriage_return))))

abbrev pub is_digit : ℕ → Bool
is_digit b = is_between (byte "0") (byte "9") b

-- an ASCII letter or `_`
abbrev pub is_letter : ℕ → Bool
is_letter b = is_between (byte "A") (byte "Z") b || (is_between (byte "a") (byte "z") b || (b == byte "_"))

abbrev pub is_word : ℕ → Bool
is_word b = is_letter b || is_digit b

abbrev pub is_in_line : ℕ → Bool
is_in_line b = not (b == line_feed) && not (b == carriage_return)

-- may stand between these quotes as it is
abbrev pub is_plain : ℕ → ℕ → Bool
is_plain quote b = nat_le blank b && (not (b == delete) && (not (b == quote) && not (b == backslash)))

-- stands after a backslash
abbrev pub is_escape : ℕ → Bool
is_escape b =
    (b == name_quote)
    || ((b == text_quote)
    || ((b == byte "b") || ((b == byte "f") || ((b == byte "t") || ((b == byte "n") || (b == backslash))))))

-- the byte for which a backslash with this byte stands
abbrev pub escape_meaning : ℕ → ℕ
escape_meaning b =
    cond (b == byte "b") backspace (
    cond (b == byte "f") form_feed (cond (b == byte "t") tab (cond (b == byte "n") line_feed b)))

-- each byte passes
abbrev pub IsRun : (ℕ → Bool) → List ℕ → Type 0
IsRun p [] = Unit {0}
IsRun p (b ∷ bs) = (p b ≡ true) × IsRun p bs

-- the bytes do not begin with this one
abbrev pub BeginsOther : ℕ → List ℕ → Type 0
BeginsOther b [] = Unit {0}
BeginsOther b (c ∷ bs) = c ≡ b → ⊥
