-- The space between two tokens, lines and their indentation.
use Rattle.std.specs.Prelude.{ℕ, zero, suc, Bool, ◌||◌, cond, is_some, List, [], ◌∷◌, ◌++◌, codes}
use Rattle.std.specs.List.{flat_map}
use Rattle.token_core.specs.Words.{parted, place_in}
use Rattle.print_model.specs.Printed.{Printed}

-- the bytes are one of the signs that blanks part in a list
abbrev pub is_among : List ℕ → List ℕ → Bool
is_among list bytes = is_some (place_in (parted list) bytes)

-- one space, but none behind `[` and `(`, before `;` `,` `]` and `)`, and on neither side of `::`, `.` and `..`
abbrev pub gap : Printed → Printed → List ℕ
gap p q = cond (p.tight || (is_among (codes "[ ( $ :: . ..") p.bytes || is_among (codes "; , ] ) :: . ..") q.bytes)) []
    (32 ∷ [])

-- the bytes of tokens in one line
abbrev pub set : List Printed → List ℕ
set [] = []
set (p ∷ []) = p.bytes
set (p ∷ q ∷ ps) = p.bytes ++ (gap p q ++ set (q ∷ ps))

-- a line: how many bodies it stands in, and its tokens
pub record Line : Type 0 where
  pub level : ℕ
  pub tokens : List Printed

-- four blanks for each body
abbrev pub indent : ℕ → List ℕ
indent zero = []
indent (suc n) = codes "    " ++ indent n

-- the bytes of a line, with its line feed
abbrev pub line_bytes : Line → List ℕ
line_bytes l = indent l.level ++ (set l.tokens ++ 10 ∷ [])

-- the bytes of lines
abbrev pub text_of : List Line → List ℕ
text_of ls = flat_map line_bytes ls
