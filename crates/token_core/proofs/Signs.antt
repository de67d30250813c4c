-- What all signs have in common.
use Rattle.std.proofs.Common.{◌≡◌, ℕ, Bool, true, false, List, [], ◌∷◌, refl, subst, inl, inr, get_or}
use Rattle.std.specs.Prelude.{Some, ◌||◌, ◌==◌}
use Rattle.std.specs.List.{list_all}
use Rattle.std.specs.Str.{bytes_eq}
use Rattle.std.proofs.lemmas.Slice.Eq.{bytes_eq-Decides}
use Rattle.std.proofs.lemmas.List.Folds.{list_all_at}
use Rattle.std.proofs.lemmas.List.Quantifiers.{position-Some}
use Rattle.linker_base.proofs.Cases.{bool_cases}
use Rattle.token_core.specs.declared.pieces.ByteClass.{ByteClass}
use Rattle.token_core.specs.declared.pieces.ByteClass.TheVariants.{Other}
use Rattle.token_core.specs.Words.{signs, place_in}
use Rattle.token_core.specs.Scan.{class_of}

-- the bytes at a place of a list are those that stand there
pub place_bytes : (list : List (List ℕ)) (bytes : List ℕ) (n : ℕ) → place_in list bytes ≡ Some n → get_or list n bytes ≡ bytes
place_bytes list bytes n e = (bytes_eq-Decides (get_or list n bytes) bytes).0 ((position-Some (λ w. bytes_eq w bytes) list n bytes e).1)

-- what each of a list has, the bytes at a place have
pub place_has : (p : List ℕ → Bool) (list : List (List ℕ)) (bytes : List ℕ) (n : ℕ) → list_all p list ≡ true → place_in list bytes ≡ Some n → p bytes ≡ true
place_has p list bytes n all e =
    let at = (position-Some (λ w. bytes_eq w bytes) list n bytes e).0 in
    let same = place_bytes list bytes n e in
    elim (bool_cases (p (get_or list n bytes))) [
      | inl hit ↦ subst (λ w. p w ≡ true) same hit
      | inr miss ↦ let h : list_all p list ≡ false = list_all_at p list n bytes at miss in absurd (cc)
    ]

abbrev pub is_other : ByteClass → Bool
is_other Other = true
is_other _ = false

-- a sign is `/`, or one to three bytes that no other form begins with
abbrev pub is_sign_form : List ℕ → Bool
is_sign_form [] = false
is_sign_form (b ∷ []) = (b == 47) || is_other (class_of b)
is_sign_form (b ∷ c ∷ []) = is_other (class_of b)
is_sign_form (b ∷ c ∷ d ∷ []) = is_other (class_of b)
is_sign_form (b ∷ c ∷ d ∷ e ∷ bs) = false

pub signs_have_form : list_all is_sign_form signs ≡ true
unfolding signs
signs_have_form = refl

pub sign_form : (bytes : List ℕ) (n : ℕ) → place_in signs bytes ≡ Some n → is_sign_form bytes ≡ true
sign_form bytes n e = place_has is_sign_form signs bytes n signs_have_form e
