-- What tokens leave of a sheet: where a space stands, and that tokens can be put one part after another.
use Rattle.std.proofs.Common.{◌≡◌, ◌∙◌, ℕ, zero, suc, ◌+◌, Bool, true, false, List, [], ◌∷◌, ◌++◌, refl, sym, ap, add-one, append_assoc}
use Rattle.std.specs.Prelude.{Option, Some, None, cond, not, ◌&&◌, ◌||◌, is_some, codes}
use Rattle.std.specs.List.{list_all}
use Rattle.token_core.specs.Words.{parted, place_in}
use Rattle.token_core.proofs.Signs.{place_has}
use Rattle.print_model.specs.Printed.{Printed}
use Rattle.print_model.specs.Layout.{indent}
use Rattle.model_printer.specs.Sheets.{Sheet, blank_if, closes, opens, put, puts, begun, is_plain}

-- the bytes are not plain
abbrev is_sharp : List ℕ → Bool
is_sharp bytes = not (is_plain bytes)

-- plain bytes are none of a list whose words are not plain
none_among : (list : List (List ℕ)) (bytes : List ℕ) → list_all is_sharp list ≡ true → is_plain bytes ≡ true
    → (o : Option ℕ) → place_in list bytes ≡ o → is_some o ≡ false
none_among list bytes all e None at = refl
none_among list bytes all e (Some n) at =
    let t : is_sharp bytes ≡ true = place_has is_sharp list bytes n all at in
    let f : is_sharp bytes ≡ false = ap not e in absurd (cc)

-- a space stands before plain bytes, if one may
pub plain_closes : (bytes : List ℕ) → is_plain bytes ≡ true → closes bytes ≡ false
plain_closes bytes e = none_among (parted (codes "; , ] ) :: . ..")) bytes refl e (place_in (parted (codes "; , ] ) :: . ..")) bytes) refl

-- and one may stand behind them
pub plain_opens : (bytes : List ℕ) → is_plain bytes ≡ true → opens bytes ≡ false
plain_opens bytes e = none_among (parted (codes "[ ( $ :: . ..")) bytes refl e (place_in (parted (codes "[ ( $ :: . ..")) bytes) refl

-- a token behind its space
pub put_is : (s : Sheet) (bytes new : List ℕ) (takes leaves tight : Bool) → takes ≡ not (closes bytes) → leaves ≡ not (tight || opens bytes)
    → new ≡ (s.bytes ++ blank_if (s.spaced && takes)) ++ bytes
    → record { bytes = new; spaced = leaves } ≡ put s bytes tight
unfolding put
put_is s bytes new takes leaves tight before behind e =
    ap (λ (xs : List ℕ). record { bytes = xs; spaced = leaves }) (e ∙ append_assoc s.bytes (blank_if (s.spaced && takes)) bytes
    ∙ ap (λ b. s.bytes ++ (blank_if (s.spaced && b) ++ bytes)) before)
    ∙ ap (λ (b : Bool). record { bytes = s.bytes ++ (blank_if (s.spaced && not (closes bytes)) ++ bytes); spaced = b }) behind

-- a plain token
pub put_plain : (s : Sheet) (bytes new : List ℕ) → is_plain bytes ≡ true → new ≡ (s.bytes ++ blank_if (s.spaced && true)) ++ bytes
    → record { bytes = new; spaced = true } ≡ put s bytes false
put_plain s bytes new plain e =
    put_is s bytes new true true false (sym (ap not (plain_closes bytes plain))) (sym (ap not (plain_opens bytes plain))) e

-- tokens one part after another
pub puts_append : (s : Sheet) (xs ys : List Printed) → puts s (xs ++ ys) ≡ puts (puts s xs) ys
puts_append s [] ys = refl
puts_append s (x ∷ xs) ys = puts_append (put s x.bytes x.tight) xs ys

-- tokens by a test
pub puts_cond : (s : Sheet) (b : Bool) (xs ys : List Printed) → puts s (cond b xs ys) ≡ cond b (puts s xs) (puts s ys)
puts_cond s true xs ys = refl
puts_cond s false xs ys = refl

-- the bytes of a sheet that has grown by a space
pub spaced_bytes : (s m : Sheet) (takes : Bool) → m ≡ record { bytes = s.bytes ++ blank_if (s.spaced && takes); spaced = s.spaced }
    → m.bytes ≡ s.bytes ++ blank_if (s.spaced && takes)
spaced_bytes s m takes e = ap (λ (x : Sheet). x.bytes) e

-- a line that has begun
pub line_begun : (s : Sheet) (new : List ℕ) (level : ℕ) → new ≡ s.bytes ++ indent level → record { bytes = new; spaced = false } ≡ begun s level
unfolding begun
line_begun s new level e = ap (λ (xs : List ℕ). record { bytes = xs; spaced = false }) e

-- one body more
pub indent_more : (old before new : List ℕ) (level : ℕ) → before ≡ old ++ indent level → new ≡ before ++ codes "    " → new ≡ old ++ indent (level + 1)
indent_more old before new level e n =
    n ∙ ap (λ xs. xs ++ codes "    ") e ∙ append_assoc old (indent level) (codes "    ")
    ∙ ap (λ xs. old ++ xs) (blanks_behind level ∙ ap indent (sym (add-one level)))
  where
    blanks_behind : (n : ℕ) → indent n ++ codes "    " ≡ indent (suc n)
    blanks_behind zero = refl
    blanks_behind (suc n) = ap (λ xs. codes "    " ++ xs) (blanks_behind n)
