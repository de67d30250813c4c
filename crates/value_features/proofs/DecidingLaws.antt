-- Steps of the walk over redefinitions.
use Rattle.std.proofs.Common.{◌≡◌, ◌∙◌, ℕ, zero, suc, ◌+◌, ◌<◌, Bool, true, false, cond, not, ◌||◌, List, [], ◌∷◌, ◌++◌, refl, sym, ap, arith, length}
use Rattle.std.specs.Prelude.{reverse, Option, None, Some}
use Rattle.std.proofs.lemmas.List.{reverse-append, reverse-reverse}
use Rattle.std.specs.Option.{option_map}
use Rattle.element_store.specs.declared.numbers.ElementNo.{ElementNo}
use Rattle.element_store.specs.BaseRules.{first_of as this_or}
use Rattle.link_model.specs.Keys.{same_element, is_in}
use Rattle.link_model.specs.Readers.{LinkWorld}
use Rattle.value_model.specs.Meant as meant
use Rattle.value_model.specs.Meant.{feature_at, redefined, walk, own_at, first_own}
use Rattle.value_features.specs.declared.own.Decider.{Decider}
use Rattle.value_features.specs.Deciders.{as_decider, first_from, Steps}

or_swap : (a b c : Bool) → (a || (b || c)) ≡ (b || (a || c))
or_swap true true c = refl
or_swap true false c = refl
or_swap false true c = refl
or_swap false false c = refl

is_in_end : (q : ElementNo) (xs : List ElementNo) (x : ElementNo) → is_in q (xs ++ x ∷ []) ≡ is_in q (x ∷ xs)
is_in_end q [] x = refl
is_in_end q (y ∷ xs) x = ap (λ b. same_element q y || b) (is_in_end q xs x) ∙ or_swap (same_element q y) (same_element q x) (is_in q xs)

module _ (w : LinkWorld) where
  -- the walk asks only whether a feature was seen
  walk_same : (n : ℕ) (xs ys todo : List ElementNo) → ((q : ElementNo) → is_in q xs ≡ is_in q ys) → walk w n xs todo ≡ walk w n ys todo
  unfolding walk
  walk_same zero xs ys todo h = refl
  walk_same (suc n) xs ys [] h = refl
  walk_same (suc n) xs ys (g ∷ todo) h =
      by_cases (is_in g xs || not (feature_at w g)) (is_in g ys || not (feature_at w g)) (ap (λ b. b || not (feature_at w g)) (h g))
      (walk_same n xs ys todo h)
      (ap (λ r. g ∷ r) (walk_same n (g ∷ xs) (g ∷ ys) (redefined w g ++ todo) (λ q. ap (λ b. same_element q g || b) (h q))))
    where
      by_cases : (a b : Bool) → a ≡ b → walk w n xs todo ≡ walk w n ys todo
          → g ∷ walk w n (g ∷ xs) (redefined w g ++ todo) ≡ g ∷ walk w n (g ∷ ys) (redefined w g ++ todo)
          → cond a [] (g ∷ []) ++ walk w n (cond a xs (g ∷ xs)) (cond a [] (redefined w g) ++ todo)
          ≡ cond b [] (g ∷ []) ++ walk w n (cond b ys (g ∷ ys)) (cond b [] (redefined w g) ++ todo)
      by_cases true true e p q = p
      by_cases false false e p q = q
      by_cases true false e p q = cc
      by_cases false true e p q = cc

  walk_passed : (n : ℕ) (seen todo : List ElementNo) (g : ElementNo) → (is_in g seen || not (feature_at w g)) ≡ true
      → walk w (suc n) seen (g ∷ todo) ≡ walk w n seen todo
  unfolding walk
  walk_passed n seen todo g e = rw e refl

  walk_taken : (n : ℕ) (seen todo : List ElementNo) (g : ElementNo) → (is_in g seen || not (feature_at w g)) ≡ false
      → walk w (suc n) seen (g ∷ todo) ≡ g ∷ walk w n (g ∷ seen) (redefined w g ++ todo)
  unfolding walk
  walk_taken n seen todo g e = rw e refl

  walk_ended : (n : ℕ) (seen : List ElementNo) → walk w n seen [] ≡ []
  unfolding walk
  walk_ended zero seen = refl
  walk_ended (suc n) seen = refl

  -- the stack turned
  turned : {A : Type 0} (xs : List A) (x : A) → reverse (xs ++ x ∷ []) ≡ x ∷ reverse xs
  turned xs x = reverse-append xs (x ∷ [])

  pub step_passed : (seen stack : List ElementNo) (g : ElementNo) → (is_in g seen || not (feature_at w g)) ≡ true
      → Steps w seen (stack ++ g ∷ []) seen stack None
  step_passed seen stack g e n =
      ap (λ todo. first_own w (walk w (suc n) seen todo)) (turned stack g) ∙ ap (first_own w) (walk_passed n seen (reverse stack) g e)

  pub step_taken : (seen stack : List ElementNo) (g : ElementNo) (found : Option Decider) → (is_in g seen || not (feature_at w g)) ≡ false
      → option_map as_decider found ≡ own_at w g
      → Steps w seen (stack ++ g ∷ []) (seen ++ g ∷ []) (stack ++ reverse (redefined w g)) found
  step_taken seen stack g found e is n =
      ap (λ todo. first_own w (walk w (suc n) seen todo)) (turned stack g)
      ∙ ap (first_own w) (walk_taken n seen (reverse stack) g e)
      ∙ ap (λ o. this_or o (first_own w (walk w n (g ∷ seen) (redefined w g ++ reverse stack)))) (sym is)
      ∙ ap (λ r. this_or (option_map as_decider found) (first_own w r))
      (walk_same n (g ∷ seen) (seen ++ g ∷ []) (redefined w g ++ reverse stack) (λ q. sym (is_in_end q seen g)))
      ∙ ap (λ todo. this_or (option_map as_decider found) (first_own w (walk w n (seen ++ g ∷ []) todo))) (both_turned stack (redefined w g))
    where
      both_turned : (xs ys : List ElementNo) → ys ++ reverse xs ≡ reverse (xs ++ reverse ys)
      both_turned xs ys = sym (reverse-append xs (reverse ys) ∙ ap (λ zs. zs ++ reverse xs) (reverse-reverse ys))

  pub ended : (n : ℕ) (seen : List ElementNo) → first_from w n seen [] ≡ None
  ended n seen = ap (first_own w) (walk_ended n seen)

  -- so many steps are left, and what is found from here on is what is looked for
  abbrev pub IsLeft : ℕ → ℕ → Option meant.Decider → List ElementNo → List ElementNo → Type 0
  IsLeft bound i all seen stack = (n : ℕ) × (n + i ≡ bound) × (first_from w n seen stack ≡ all)

  pub walk_on : (bound i : ℕ) (all : Option meant.Decider) (seen stack popped more rest : List ElementNo) (next : ElementNo) (found : Option Decider)
      → IsLeft bound i all seen stack → i < bound → stack ≡ popped ++ next ∷ [] → Steps w seen (popped ++ next ∷ []) more rest found → found ≡ None
      → IsLeft bound (i + 1) all more rest
  walk_on bound i all seen stack popped more rest next found (zero, e, h) lt is steps none = absurd (omega (arith, e, lt))
  walk_on bound i all seen stack popped more rest next found (suc n, e, h) lt is steps none = (
    n,
    omega (arith, e),
    ap (λ o. this_or (option_map as_decider o) (first_from w n more rest)) (sym none)
        ∙ sym (steps n) ∙ ap (first_from w (suc n) seen) (sym is) ∙ h,
  )

  pub walk_found : (bound i : ℕ) (all : Option meant.Decider) (seen stack popped more rest : List ElementNo) (next : ElementNo) (found : Option Decider)
      (d : Decider) → IsLeft bound i all seen stack → i < bound → stack ≡ popped ++ next ∷ [] → Steps w seen (popped ++ next ∷ []) more rest found
      → found ≡ Some d → Some (as_decider d) ≡ all
  walk_found bound i all seen stack popped more rest next found d (zero, e, h) lt is steps some = absurd (omega (arith, e, lt))
  walk_found bound i all seen stack popped more rest next found d (suc n, e, h) lt is steps some =
      ap (λ o. this_or (option_map as_decider o) (first_from w n more rest)) (sym some)
      ∙ sym (steps n) ∙ ap (first_from w (suc n) seen) (sym is) ∙ h

  pub walk_empty : (bound i : ℕ) (all : Option meant.Decider) (seen stack : List ElementNo) → IsLeft bound i all seen stack → stack ≡ [] → None ≡ all
  walk_empty bound i all seen stack (n, e, h) none = sym (ended n seen) ∙ ap (first_from w n seen) (sym none) ∙ h

pub no_items : {A : Type 0} (xs : List A) → length xs ≡ 0 → xs ≡ []
no_items [] h = refl
no_items (x ∷ xs) h = absurd (omega arith)
