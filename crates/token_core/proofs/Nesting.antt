-- The numbers of the brackets, by evaluation over the list of signs.
use Rattle.std.proofs.Common.{◌≡◌, ℕ, ◌<◌, ◌≤◌, Bool, false, List, [], map, get_or, refl, sym, ap, ◌∙◌, inl, inr, arith, zero-add}
use Rattle.std.specs.Prelude.{◌==◌, ◌||◌, codes}
use Rattle.std.specs.List.{range_with_len, list_any}
use Rattle.std.specs.Str.{bytes_eq}
use Rattle.std.proofs.lemmas.Bool.{cases_lt}
use Rattle.std.proofs.lemmas.Bool.Decides.{nat_tests}
use Rattle.std.proofs.lemmas.List.{get_or_past}
use Rattle.std.proofs.lemmas.List.FromFn.{get_or-map-range_with_len}
use Rattle.token_core.specs.declared.token.TokenKind.TheVariants.{Sign}
use Rattle.token_core.specs.Words.{parted, signs}
use Rattle.token_core.specs.Lex.{is_spelt_among, is_opening, is_closing}
use Rattle.token_core.proofs.Lists.{sign_count}

-- two tests of a number that agree on each below a bound
agree : (p q : ℕ → Bool) (bound : ℕ) → map p (range_with_len 0 bound) ≡ map q (range_with_len 0 bound) → (n : ℕ) → n < bound → p n ≡ q n
agree p q bound e n lt =
    sym (get_or-map-range_with_len p 0 bound n n false lt (zero-add n))
    ∙ (ap (λ l. get_or l n false) e ∙ get_or-map-range_with_len q 0 bound n n false lt (zero-add n))

-- a number past the list has no spelling
past : (text : List ℕ) (n : ℕ) → 43 ≤ n → list_any (bytes_eq []) (parted text) ≡ false → is_spelt_among text n ≡ false
past text n high none =
    ap (λ (w : List ℕ). list_any (bytes_eq w) (parted text)) (get_or_past signs n [] (omega (arith, sign_count))) ∙ none

abbrev pub opening : ℕ → Bool
opening n = (n == 0) || ((n == 2) || (n == 4))

abbrev pub closing : ℕ → Bool
closing n = (n == 1) || ((n == 3) || (n == 5))

openings : map (is_spelt_among (codes "{ [ (")) (range_with_len 0 43) ≡ map opening (range_with_len 0 43)
unfolding signs
openings = refl

closings : map (is_spelt_among (codes "} ] )")) (range_with_len 0 43) ≡ map closing (range_with_len 0 43)
unfolding signs
closings = refl

high_opening : (n : ℕ) → 43 ≤ n → opening n ≡ false
high_opening n h = grind (arith, nat_tests)

high_closing : (n : ℕ) → 43 ≤ n → closing n ≡ false
high_closing n h = grind (arith, nat_tests)

opening_is : (n : ℕ) → is_spelt_among (codes "{ [ (") n ≡ opening n
opening_is n = elim (cases_lt n 43) [
  | inl low ↦ agree (is_spelt_among (codes "{ [ (")) opening 43 openings n low
  | inr high ↦ past (codes "{ [ (") n high refl ∙ sym (high_opening n high)
]

closing_is : (n : ℕ) → is_spelt_among (codes "} ] )") n ≡ closing n
closing_is n = elim (cases_lt n 43) [
  | inl low ↦ agree (is_spelt_among (codes "} ] )")) closing 43 closings n low
  | inr high ↦ past (codes "} ] )") n high refl ∙ sym (high_closing n high)
]

-- the opening brackets are the signs 0, 2 and 4
pub opening_sign : (n : ℕ) (b : Bool) → b ≡ opening n → b ≡ is_opening (Sign n)
opening_sign n b e = e ∙ sym (opening_is n)

-- the closing brackets are the signs 1, 3 and 5
pub closing_sign : (n : ℕ) (b : Bool) → b ≡ closing n → b ≡ is_closing (Sign n)
closing_sign n b e = e ∙ sym (closing_is n)
