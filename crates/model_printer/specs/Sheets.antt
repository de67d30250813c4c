-- What a writer has written: the bytes, and whether a space may follow them.
use Rattle.std.specs.Prelude.{ℕ, Bool, true, false, not, ◌==◌, ◌&&◌, ◌||◌, cond, List, [], ◌∷◌, ◌++◌, codes}
use Rattle.print_model.specs.Printed.{Printed}
use Rattle.print_model.specs.Layout.{is_among, indent}

-- the bytes so far, and whether a space may stand behind the last token
pub record Sheet : Type 0 where
  pub bytes : List ℕ
  pub spaced : Bool

-- a blank, where it holds
abbrev pub blank_if : Bool → List ℕ
blank_if b = cond b (32 ∷ []) []

-- no space stands before a token with these bytes
abbrev pub closes : List ℕ → Bool
closes bytes = is_among (codes "; , ] ) :: . ..") bytes

-- no space stands behind a token with these bytes
abbrev pub opens : List ℕ → Bool
opens bytes = is_among (codes "[ ( $ :: . ..") bytes

-- a token more, behind its space
unfoldable pub put : Sheet → List ℕ → Bool → Sheet
put s bytes tight = record {
  bytes = s.bytes ++ (blank_if (s.spaced && not (closes bytes)) ++ bytes);
  spaced = not (tight || opens bytes);
}

-- tokens more, in one line
abbrev pub puts : Sheet → List Printed → Sheet
puts s [] = s
puts s (p ∷ ps) = puts (put s p.bytes p.tight) ps

-- a line begins
unfoldable pub begun : Sheet → ℕ → Sheet
begun s level = record { bytes = s.bytes ++ indent level; spaced = false }

-- a line ends
unfoldable pub ended : Sheet → Sheet
ended s = record { bytes = s.bytes ++ 10 ∷ []; spaced = false }

-- the first byte of a token that is no sign
abbrev pub is_inner : ℕ → Bool
is_inner b =
    not (
    (b == 59) || ((b == 44) || ((b == 93) || ((b == 41) || ((b == 58)
    || ((b == 46) || ((b == 91) || ((b == 40) || (b == 36)))))))))

-- a space stands on both sides of such bytes: they are none of the signs without one
abbrev pub is_plain : List ℕ → Bool
is_plain [] = true
is_plain (b ∷ bs) = is_inner b
