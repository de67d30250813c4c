-- Names, strings and numbers begin as no sign does.
use Rattle.std.proofs.Common.{◌≡◌, ℕ, ◌+◌, ◌%◌, ◌<◌, ◌^◌, Bool, true, false, List, [], ◌∷◌, ◌++◌, refl, arith, w64, of_z, to_z}
use Rattle.std.proofs.lemmas.Int.{ints}
use Rattle.std.specs.Prelude.{cond, ◌&&◌, is_none, ℤ, pos, negsuc}
use Rattle.std.specs.Fmt.{decimal, signed_decimal}
use Rattle.std.proofs.lemmas.Fmt.{decimal_by_steps}
use Rattle.std.specs.Int.RustNames.{FitsSigned}
use Rattle.std.proofs.lemmas.Bool.Decides.{nat_tests}
use Rattle.linker_base.proofs.Cases.{both_true}
use Rattle.element_store.specs.declared.outcome.Language.{Language}
use Rattle.token_core.specs.Bytes.{is_letter}
use Rattle.token_core.specs.Words.{words, place_in}
use Rattle.token_core.specs.Spelling.{is_basic_name, name_spelling, quoted}
use Rattle.model_printer.specs.Sheets.{is_inner, is_plain}

letter_inner : (b : ℕ) → is_letter b ≡ true → is_inner b ≡ true
letter_inner b e = grind (arith, nat_tests)

basic_plain : (bytes : List ℕ) → is_basic_name bytes ≡ true → is_plain bytes ≡ true
basic_plain [] e = refl
basic_plain (b ∷ bs) e = letter_inner b (both_true _ _ e).0

-- a name begins with a letter or its quote
pub name_plain : (l : Language) (bytes : List ℕ) → is_plain (name_spelling l bytes) ≡ true
name_plain l bytes = by_test (is_basic_name bytes && is_none (place_in (words l) bytes)) refl
  where
    by_test : (b : Bool) → is_basic_name bytes && is_none (place_in (words l) bytes) ≡ b → is_plain (cond b bytes (quoted 39 bytes)) ≡ true
    by_test true e = basic_plain bytes (both_true _ _ e).0
    by_test false e = refl

digit_inner : (n : ℕ) → n < 10 → is_inner (48 + n) ≡ true
digit_inner n e = grind (arith, nat_tests)

plain_more : (ds : List ℕ) (b : ℕ) → is_plain ds ≡ true → is_inner b ≡ true → is_plain (ds ++ b ∷ []) ≡ true
plain_more [] b h e = e
plain_more (c ∷ ds) b h e = h

decimal_plain : (n : ℕ) → n < 2 ^ 64 → is_plain (decimal n) ≡ true
decimal_plain n small = decimal_by_steps (λ n ds. is_plain ds ≡ true) digit_inner
    (λ n ds le h. plain_more ds (48 + n % 10) h (digit_inner (n % 10) (omega arith))) n small

-- a number begins with a digit or `-`
pub number_plain : (z : ℤ) → FitsSigned w64 z → is_plain (signed_decimal z) ≡ true
number_plain (pos n) fits = decimal_plain n (omega (arith, fits.sfits))
number_plain (negsuc n) fits = refl

-- a signed number through its bits
pub signed_back : (z : ℤ) → FitsSigned w64 z → to_z w64 (of_z w64 z) ≡ z
signed_back z fits = omega (arith, ints)
