-- A linked outcome, an element at a time.
use Rattle.std.proofs.Common.{◌≡◌, ◌∙◌, ℕ, ◌+◌, ◌<◌, ◌≤◌, List, [], ◌∷◌, ◌++◌, length, drop, get_or, refl, sym, ap, subst, arith}
use Rattle.std.specs.Prelude.{zero, suc}
use Rattle.element_store.specs.declared.numbers.ElementNo.{ElementNo}
use Rattle.element_store.specs.declared.outcome.Outcome.{Outcome}
use Rattle.element_store.specs.declared.outcome.Outcome.TheVariants.{Linked, Absent}
use Rattle.link_model.specs.Asking.{linked, linked_with}

drop_suc : {A : Type 0} (xs : List A) (i : ℕ) (h d : A) → i < length xs → h ≡ get_or xs i d → drop i xs ≡ h ∷ drop (suc i) xs
drop_suc [] i h d lt is = absurd (omega (arith, lt))
drop_suc (x ∷ xs) zero h d lt is = ap (λ z. z ∷ xs) (sym is)
drop_suc (x ∷ xs) (suc i) h d lt is = drop_suc xs i h d (omega (arith, lt)) is

pub drop_here : {A : Type 0} (xs : List A) (i : ℕ) (h d : A) → i < length xs → h ≡ get_or xs i d → drop i xs ≡ h ∷ drop (i + 1) xs
drop_here xs i h d lt is = let up : suc i ≡ i + 1 = omega arith in drop_suc xs i h d lt is ∙ ap (λ k. h ∷ drop k xs) up

pub drop_past : {A : Type 0} (xs : List A) (i : ℕ) → length xs ≤ i → drop i xs ≡ []
drop_past [] zero le = refl
drop_past [] (suc i) le = refl
drop_past (x ∷ xs) zero le = absurd (omega (arith, le))
drop_past (x ∷ xs) (suc i) le = drop_past xs i (omega (arith, le))

pub linked_first : (es : List ElementNo) (i : ℕ) (h d : ElementNo) → i < length es → h ≡ get_or es i d → linked_with [] h (drop (i + 1) es)
    ≡ linked (drop i es)
linked_first es i h d lt is = ap linked (sym (drop_here es i h d lt is))

pub linked_next : (steps : List ElementNo) (e : ElementNo) (es : List ElementNo) (i : ℕ) (h d : ElementNo) → i < length es → h ≡ get_or es i d
    → linked_with (steps ++ e ∷ []) h (drop (i + 1) es) ≡ linked_with steps e (drop i es)
linked_next steps e es i h d lt is = ap (linked_with steps e) (sym (drop_here es i h d lt is))

pub linked_end : (steps : List ElementNo) (e : ElementNo) (es : List ElementNo) (i : ℕ) → length es ≤ i → Linked steps e ≡ linked_with steps e (drop i es)
linked_end steps e es i le = ap (linked_with steps e) (sym (drop_past es i le))

pub linked_none : (es : List ElementNo) (i : ℕ) → length es ≤ i → Absent 1 ≡ linked (drop i es)
linked_none es i le = ap linked (sym (drop_past es i le))
