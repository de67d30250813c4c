-- What a sort gives is the definition's sorted list.
use Rattle.std.proofs.Common.{◌≡◌, ◌<◌, ◌≤◌, ◌+◌, ◌⊎◌, inl, inr, ℕ, zero, suc, List, [], ◌∷◌, length, get_or, leb, refl, ap, sym, subst, ◌∙◌, arith}
use Rattle.std.specs.Prelude.{Bool, true, false, nat_le, cond}
use Rattle.std.specs.List.Sorted.{IsNonDecreasingBy, IsPermutation}
use Rattle.std.proofs.lemmas.Bool.Decides.{leb_tells}
use Rattle.std.proofs.lemmas.List.Recursion.{is_sum_by}
use Rattle.std.proofs.lemmas.List.Sorted.{sum_by-IsPermutation}
use Rattle.std.specs.Prelude.{Option, Some, None, slice_get}
use Rattle.std.specs.Option.{option_copied, option_map_or, option_to_list}
use Rattle.std.specs.Slice.{IsItemAt}
use Rattle.std.specs.Ordering.{nat_cmp}
use Rattle.std.specs.List.Sorted.{IsSorted}
use Rattle.std.proofs.Common.{Bor}
use Rattle.std.proofs.lemmas.List.Sorted.{IsNonDecreasingBy-from_sort}
use Rattle.std.proofs.lemmas.Option.{slice_get_past, slice_get_read}
use Rattle.text_model.specs.Numbering.{place_over, put_in, sorted}

-- one for a number up to v
abbrev one : ℕ → ℕ → ℕ
one v p = cond (nat_le p v) 1 0

-- how many are up to v
abbrev count : ℕ → List ℕ → ℕ
count v [] = 0
count v (p ∷ ps) = one v p + count v ps

-- no number is less than p
abbrev Above : ℕ → List ℕ → Type 0
Above p [] = Unit {0}
Above p (q ∷ qs) = (p ≤ q) × Above p qs

-- no number is less than one before it
abbrev Rises : List ℕ → Type 0
Rises [] = Unit {0}
Rises (p ∷ ps) = Above p ps × Rises ps

-- a number up to v counts
one_up : (v p : ℕ) → p ≤ v → one v p ≡ 1
one_up v p h = by_cases (leb_tells p v) where
  by_cases : ((leb p v ≡ true) × (p ≤ v)) ⊎ ((leb p v ≡ false) × (v < p)) → one v p ≡ 1
  by_cases (inl e) = ap (λ b. cond b 1 0) e.0
  by_cases (inr e) = absurd (omega (arith, h, e.1))

-- one above v doesn't
one_down : (v p : ℕ) → v < p → one v p ≡ 0
one_down v p h = by_cases (leb_tells p v) where
  by_cases : ((leb p v ≡ true) × (p ≤ v)) ⊎ ((leb p v ≡ false) × (v < p)) → one v p ≡ 0
  by_cases (inl e) = absurd (omega (arith, h, e.1))
  by_cases (inr e) = ap (λ b. cond b 1 0) e.0

-- either of two lists has so many
count_cond : (b : Bool) (v n : ℕ) (xs ys : List ℕ) → count v xs ≡ n → count v ys ≡ n → count v (cond b xs ys) ≡ n
count_cond true v n xs ys d e = d
count_cond false v n xs ys d e = e

-- one more number counts once, wherever it is put
count_put : (v p : ℕ) (qs : List ℕ) → count v (put_in p qs) ≡ one v p + count v qs
count_put v p [] = refl
count_put v p (q ∷ qs) = count_cond (nat_le p q) v (one v p + count v (q ∷ qs)) (p ∷ q ∷ qs) (q ∷ put_in p qs) refl
    (let rest : count v (put_in p qs) ≡ one v p + count v qs = count_put v p qs in ap (λ n. one v q + n) rest ∙ swapped (one v q) (one v p) (count v qs)) where
      swapped : (a b c : ℕ) → a + (b + c) ≡ b + (a + c)
      swapped a b c = omega arith

-- in rising order there are as many
count_sorted : (v : ℕ) (ps : List ℕ) → count v (sorted ps) ≡ count v ps
count_sorted v [] = refl
count_sorted v (p ∷ ps) = count_put v p (sorted ps) ∙ ap (λ n. one v p + n) (count_sorted v ps)

-- a lesser number is below all of them too
above_less : (p q : ℕ) (qs : List ℕ) → p ≤ q → Above q qs → Above p qs
above_less p q [] h a = tt
above_less p q (r ∷ qs) h a = (omega (arith, h, a.0), above_less p q qs h a.1)

-- either of two lists has no number that is less
above_cond : (b : Bool) (r : ℕ) (xs ys : List ℕ) → Above r xs → Above r ys → Above r (cond b xs ys)
above_cond true r xs ys d e = d
above_cond false r xs ys d e = e

-- nor has a list into which a greater number is put
above_put : (r p : ℕ) (qs : List ℕ) → r ≤ p → Above r qs → Above r (put_in p qs)
above_put r p [] h a = (h, tt)
above_put r p (q ∷ qs) h a = above_cond (nat_le p q) r (p ∷ q ∷ qs) (q ∷ put_in p qs) (h, a) (a.0, above_put r p qs h a.1)

-- a rising list still rises
rises_put : (p : ℕ) (qs : List ℕ) → Rises qs → Rises (put_in p qs)
rises_put p [] r = (tt, tt)
rises_put p (q ∷ qs) r = by_cases (leb_tells p q) (rises_put p qs r.1) where
  by_cases : ((leb p q ≡ true) × (p ≤ q)) ⊎ ((leb p q ≡ false) × (q < p)) → Rises (put_in p qs) → Rises (put_in p (q ∷ qs))
  by_cases (inl e) rest = subst (λ b. Rises (cond b (p ∷ q ∷ qs) (q ∷ put_in p qs))) (sym e.0) ((e.1, above_less p q qs e.1 r.0), r)
  by_cases (inr e) rest = let low : q ≤ p = omega (arith, e.1) in
      subst (λ b. Rises (cond b (p ∷ q ∷ qs) (q ∷ put_in p qs))) (sym e.0) (above_put q p qs low r.0, rest)

-- the places in rising order rise
rises_sorted : (ps : List ℕ) → Rises (sorted ps)
rises_sorted [] = tt
rises_sorted (p ∷ ps) = rises_put p (sorted ps) (rises_sorted ps)

-- above p none is up to a lesser number
none_up : (v p : ℕ) (ps : List ℕ) → v < p → Above p ps → count v ps ≡ 0
none_up v p [] h a = refl
none_up v p (q ∷ ps) h a = let lower : v < q = omega (arith, h, a.0) in
    ap (λ n. n + count v ps) (one_down v q lower) ∙ (let rest : count v ps ≡ 0 = none_up v p ps h a.1 in omega (arith, rest))

-- the head of a rising list isn't past that of one with the same counts
not_past : (p q : ℕ) (ps qs : List ℕ) → Rises (q ∷ qs) → count p (p ∷ ps) ≡ count p (q ∷ qs) → p < q → ⊥
not_past p q ps qs r same h =
    let here : one p p ≡ 1 = one_up p p (omega arith) in
    let there : one p q ≡ 0 = one_down p q h in
    let rest : count p qs ≡ 0 = none_up p q qs h r.0 in
    omega (arith, here, there, rest, same)

-- one is less, or the other, or they are the same
less_or : (p q : ℕ) → (p < q) ⊎ ((q < p) ⊎ (p ≡ q))
less_or zero zero = inr (inr refl)
less_or zero (suc q) = inl (omega arith)
less_or (suc p) zero = inr (inl (omega arith))
less_or (suc p) (suc q) = raised (less_or p q) where
  raised : (p < q) ⊎ ((q < p) ⊎ (p ≡ q)) → (suc p < suc q) ⊎ ((suc q < suc p) ⊎ (suc p ≡ suc q))
  raised (inl h) = inl (omega (arith, h))
  raised (inr (inl h)) = inr (inl (omega (arith, h)))
  raised (inr (inr e)) = inr (inr (ap suc e))

-- rising lists with the same counts are the same
pub same_rising : (ps qs : List ℕ) → Rises ps → Rises qs → ((v : ℕ) → count v ps ≡ count v qs) → ps ≡ qs
same_rising [] [] r s same = refl
same_rising [] (q ∷ qs) r s same = let here : one q q ≡ 1 = one_up q q (omega arith) in
    let e : 0 ≡ one q q + count q qs = same q in absurd (omega (arith, here, e))
same_rising (p ∷ ps) [] r s same = let here : one p p ≡ 1 = one_up p p (omega arith) in
    let e : one p p + count p ps ≡ 0 = same p in absurd (omega (arith, here, e))
same_rising (p ∷ ps) (q ∷ qs) r s same = by_cases (less_or p q) (λ e. same_rising ps qs r.1 s.1 e) where
  by_cases : (p < q) ⊎ ((q < p) ⊎ (p ≡ q)) → (((v : ℕ) → count v ps ≡ count v qs) → ps ≡ qs) → p ∷ ps ≡ q ∷ qs
  by_cases (inl h) rest = absurd (not_past p q ps qs s (same p) h)
  by_cases (inr (inl h)) rest = absurd (not_past q p qs ps r (sym (same q)) h)
  by_cases (inr (inr e)) rest = ap (λ x. x ∷ ps) e ∙ ap (λ xs. q ∷ xs) (rest (λ v. less v (same v) (ap (one v) e))) where
    less : (v : ℕ) → one v p + count v ps ≡ one v q + count v qs → one v p ≡ one v q → count v ps ≡ count v qs
    less v a b = omega (arith, a, b)

-- from std's words

-- no number is less, from what each index says
above_from : (p : ℕ) (qs : List ℕ) → ((j d : ℕ) → j < length qs → p ≤ get_or qs j d) → Above p qs
above_from p [] h = tt
above_from p (q ∷ qs) h = (h 0 0 (omega arith), above_from p qs (λ j d below. h (suc j) d (omega (arith, below))))

-- a list that does not fall rises
rises_from : (ps : List ℕ) → IsNonDecreasingBy (λ x. x) ps → Rises ps
rises_from [] h = tt
rises_from (p ∷ ps) h = (
  above_from p ps (λ j d below. h 0 (suc j) d (omega arith) (omega (arith, below))),
  rises_from ps (λ i j d le below. h (suc i) (suc j) d (omega (arith, le)) (omega (arith, below))),
)

-- what a sort leaves is the definition's list
pub sorted_is : (ps qs : List ℕ) → IsPermutation ps qs → IsNonDecreasingBy (λ x. x) qs → qs ≡ sorted ps
sorted_is ps qs same up = same_rising qs (sorted ps) (rises_from qs up) (rises_sorted ps)
    (λ v. is_sum_by (count v) (one v) refl (λ _ _. refl) qs ∙ (sum_by-IsPermutation (one v) ps qs same
    ∙ (sym (is_sum_by (count v) (one v) refl (λ _ _. refl) ps) ∙ sym (count_sorted v ps))))

-- the number that a sort leaves at a place

-- either of two lists is so long
cond_long : (b : Bool) (n : ℕ) (xs ys : List ℕ) → length xs ≡ n → length ys ≡ n → length (cond b xs ys) ≡ n
cond_long true n xs ys d e = d
cond_long false n xs ys d e = e

-- one more number, wherever it is put
length_put : (p : ℕ) (qs : List ℕ) → length (put_in p qs) ≡ suc (length qs)
length_put p [] = refl
length_put p (q ∷ qs) = cond_long (nat_le p q) (suc (length (q ∷ qs))) (p ∷ q ∷ qs) (q ∷ put_in p qs) refl (ap suc (length_put p qs))

-- the places in rising order are as many
length_sorted : (ps : List ℕ) → length (sorted ps) ≡ length ps
length_sorted [] = refl
length_sorted (p ∷ ps) = length_put p (sorted ps) ∙ ap suc (length_sorted ps)

-- one place or none, as a list
as_list : (o : Option ℕ) → option_to_list o ≡ option_map_or (λ p. p ∷ []) o []
as_list None = refl
as_list (Some p) = refl

-- of at most n places none stands above
pub none_over : (n : ℕ) (ps : List ℕ) → length ps ≤ n → [] ≡ place_over n ps
none_over n ps short = let long : length (sorted ps) ≤ n = omega (arith, short, length_sorted ps) in
    sym (ap (λ o. option_map_or (λ p. p ∷ []) o []) (slice_get_past (sorted ps) n long))

-- a number that is looked up is the one at its place
item_copied : (ns : List ℕ) (i : ℕ) (o : Option (Bor ℕ)) → IsItemAt ns i o → slice_get ns i ≡ option_copied o
item_copied ns i None h = slice_get_past ns i h.3
item_copied ns i (Some x) h = slice_get_read ns (length ns) i x.now refl h.3.0 h.1

-- what a sorted copy has at n is the first place above n
pub item_over : (n : ℕ) (ps qs : List ℕ) (o : Option (Bor ℕ)) → IsPermutation ps qs → IsSorted nat_cmp qs → IsItemAt qs n o
    → option_to_list (option_copied o) ≡ place_over n ps
item_over n ps qs o same up at = as_list (option_copied o)
    ∙ (ap (λ r. option_map_or (λ p. p ∷ []) r []) (sym (item_copied qs n o at))
    ∙ ap (λ rs. option_map_or (λ p. p ∷ []) (slice_get rs n) []) (sorted_is ps qs same (IsNonDecreasingBy-from_sort (λ x. x) qs up)))
