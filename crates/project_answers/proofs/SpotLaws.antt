-- Where references stand, in rising order.
use Rattle.std.proofs.Common.{◌≡◌, ◌∙◌, ◌+◌, ◌<◌, ◌≤◌, ℕ, zero, suc, Bool, true, false, nat_eq, List, [], ◌∷◌, ◌++◌, length, map, drop, get_or, refl, sym, ap, subst, inl, inr, arith, append_assoc, append-nil}
use Rattle.std.specs.Prelude.{◌⊎◌, ◌==◌, cond, nat_lt, slice_get, Some}
use Rattle.std.specs.Ordering.{nat_cmp, is_lt}
use Rattle.std.specs.declared.cmp.Ordering.TheVariants.{Less, Equal, Greater}
use Rattle.std.specs.List.{Contains, IsDistinct, AllByRecursion}
use Rattle.std.specs.List.Sorted.{IsPermutation, IsNonDecreasingBy, IsSortedByKey}
use Rattle.std.proofs.lemmas.List.Sorted.{Contains-permutation, IsPermutation-sym}
use Rattle.std.proofs.lemmas.Map.Keys.{IsDistinct-IsPermutation, apart_from_distinct}
use Rattle.std.proofs.lemmas.Bool.Decides.{nat_tests}
use Rattle.linker_base.specs.Members.{IsMember}
use Rattle.linker_base.specs.Orders.{AreInOrder}
use Rattle.linker_base.proofs.Cases.{some_same}
use Rattle.linker_base.proofs.OrderLaws.{order_pins}
use Rattle.element_store.specs.declared.records.Reference.{Reference}
use Rattle.element_store.specs.Model.{Data}
use Rattle.book_model.specs.Rows.{standing_from, standing, stands_earlier, rising}
use Rattle.book_model.specs.Laws.{StandsEarlier}
use Rattle.book_model.proofs.RowLaws.{references_rise}
use Rattle.book_model.proofs.SortingLaws.{sorted_told, order_told}
use Rattle.project_answers.specs.declared.spots.Spot.{Spot}
use Rattle.project_answers.specs.Spots.{spot_of, spots_of, rising_spots, IsEarlier}

-- ---- one reference after the other

-- the reference of a number is the next to be noted
next_from : (n k p : ℕ) (rs : List Reference) (ps : List ℕ) → k < length rs → slice_get ps k ≡ Some p
    → map spot_of (drop k (standing_from n rs ps)) ≡ record { place = p; number = n + k } ∷ map spot_of (drop (suc k) (standing_from n rs ps))
next_from n k p [] ps lt at = absurd (omega (arith, lt))
next_from n k p (r ∷ rs) [] lt at = absurd (cc)
next_from n zero p (r ∷ rs) (q ∷ ps) lt at =
    let place : q ≡ p = some_same q p at in
    let number : n ≡ n + 0 = omega arith in
    λ i. record { place = place i; number = number i } ∷ map spot_of (standing_from (suc n) rs ps)
next_from n (suc k) p (r ∷ rs) (q ∷ ps) lt at =
    let number : suc n + k ≡ n + suc k = omega arith in
    next_from (suc n) k p rs ps (omega (arith, lt)) at
    ∙ ap (λ j. record { place = p; number = j } ∷ map spot_of (drop (suc k) (standing_from (suc n) rs ps))) number

pub next_spot : (d : Data) (k p : ℕ) (done : List Spot) → k < length d.references → slice_get d.reference_places k ≡ Some p
    → done ++ map spot_of (drop k (standing d)) ≡ spots_of d
    → (done ++ record { place = p; number = k } ∷ []) ++ map spot_of (drop (k + 1) (standing d)) ≡ spots_of d
next_spot d k p done lt at so_far =
    let up : suc k ≡ k + 1 = omega arith in
    let from : 0 + k ≡ k = omega arith in
    append_assoc done (record { place = p; number = k } ∷ []) (map spot_of (drop (k + 1) (standing d)))
    ∙ (ap (λ j. done ++ record { place = p; number = k } ∷ map spot_of (drop j (standing d))) (sym up)
    ∙ (ap (λ j. done ++ record { place = p; number = j } ∷ map spot_of (drop (suc k) (standing d))) (sym from)
    ∙ (ap (λ xs. done ++ xs) (sym (next_from 0 k p d.references d.reference_places lt at)) ∙ so_far)))

-- behind the last there is none
none_from : (n k : ℕ) (rs : List Reference) (ps : List ℕ) → length rs ≤ k → drop k (standing_from n rs ps) ≡ []
none_from n zero [] ps le = refl
none_from n (suc k) [] ps le = refl
none_from n zero (r ∷ rs) ps le = absurd (omega (arith, le))
none_from n (suc k) (r ∷ rs) [] le = refl
none_from n (suc k) (r ∷ rs) (p ∷ ps) le = none_from (suc n) k rs ps (omega (arith, le))

pub all_spots : (d : Data) (k : ℕ) (done : List Spot) → length d.references ≤ k → done ++ map spot_of (drop k (standing d)) ≡ spots_of d → done ≡ spots_of d
all_spots d k done le so_far =
    sym (append-nil done) ∙ (ap (λ xs. done ++ map spot_of xs) (sym (none_from 0 k d.references d.reference_places le)) ∙ so_far)

-- ---- numbers rise, and stand once

-- two spots have one number
abbrev same_number : Spot → Spot → Bool
same_number p q = nat_eq p.number q.number

below_all : (n m place : ℕ) (rs : List Reference) (ps : List ℕ) → n < m
    → AllByRecursion (λ y. same_number (record { place = place; number = n }) y ≡ false) (map spot_of (standing_from m rs ps))
below_all n m place [] ps lt = tt
below_all n m place (r ∷ rs) [] lt = tt
below_all n m place (r ∷ rs) (p ∷ ps) lt = (grind (arith, nat_tests, lt), below_all n (suc m) place rs ps (omega (arith, lt)))

-- no number stands twice
spots_distinct : (n : ℕ) (rs : List Reference) (ps : List ℕ) → IsDistinct same_number (map spot_of (standing_from n rs ps))
unfolding IsDistinct
spots_distinct n [] ps = tt
spots_distinct n (r ∷ rs) [] = tt
spots_distinct n (r ∷ rs) (p ∷ ps) = (below_all n (suc n) p rs ps (omega arith), spots_distinct (suc n) rs ps)

-- the number of a spot is its place in the list
number_at : (n i : ℕ) (rs : List Reference) (ps : List ℕ) (s : Spot) → i < length (map spot_of (standing_from n rs ps))
    → (get_or (map spot_of (standing_from n rs ps)) i s).number ≡ n + i
number_at n i [] ps s lt = absurd (omega (arith, lt))
number_at n i (r ∷ rs) [] s lt = absurd (omega (arith, lt))
number_at n zero (r ∷ rs) (p ∷ ps) s lt = omega arith
number_at n (suc i) (r ∷ rs) (p ∷ ps) s lt = number_at (suc n) i rs ps s (omega (arith, lt)) ∙ omega arith

-- the test of an order of numbers
lt_false : (a b : ℕ) → b ≤ a → is_lt (nat_cmp a b) ≡ false
lt_false a b le =
    let far : nat_lt a b ≡ false = grind (arith, nat_tests, le) in
    ap (λ t. is_lt (cond t Less (cond (a == b) Equal Greater))) far ∙ by (a == b)
  where
    by : (t : Bool) → is_lt (cond t Equal Greater) ≡ false
    by true = refl
    by false = refl

-- numbers rise
pub numbers_rise : (d : Data) → IsSortedByKey (λ s. s.number) nat_cmp (spots_of d)
numbers_rise d k s from lt = lt_false (get_or (spots_of d) (k + 1) s).number (get_or (spots_of d) k s).number
    (omega (arith, number_at 0 k d.references d.reference_places s (omega (arith, lt)), number_at 0 (k + 1) d.references d.reference_places s lt))

-- ---- neighbours in order make a list in order

earlier_through : (p q r : Spot) → IsEarlier p q → IsEarlier q r → IsEarlier p r
earlier_through p q r (inl a) (inl b) = inl (omega (arith, a, b))
earlier_through p q r (inl a) (inr (e, lt)) = inl (omega (arith, a, e))
earlier_through p q r (inr (e, lt)) (inl b) = inl (omega (arith, e, b))
earlier_through p q r (inr (e, lt)) (inr (f, more)) = inr (omega (arith, e, f), omega (arith, lt, more))

one_way : (p q : Spot) → IsEarlier p q → IsEarlier q p → ⊥
one_way p q (inl a) (inl b) = omega (arith, a, b)
one_way p q (inl a) (inr b) = omega (arith, a, b.0)
one_way p q (inr a) (inl b) = omega (arith, a.0, b)
one_way p q (inr a) (inr b) = omega (arith, a.1, b.1)

rises_by : (ps : List Spot) → ((k : ℕ) (s : Spot) → suc k < length ps → IsEarlier (get_or ps k s) (get_or ps (suc k) s)) → AreInOrder IsEarlier ps
rises_by [] near = tt
rises_by (p ∷ []) near = ((λ y none. absurd none), tt)
rises_by (p ∷ q ∷ ps) near =
    let first : IsEarlier p q = near 0 p (omega arith) in
    let rest : AreInOrder IsEarlier (q ∷ ps) = rises_by (q ∷ ps) (λ k s lt. near (suc k) s (omega (arith, lt))) in
    ((λ y. elim [ inl e ↦ subst (IsEarlier p) e first | inr m ↦ earlier_through p q y first (rest.0 y m) ]), rest)

-- of two spots with different numbers, none of which stands out of order, the first is earlier
earlier_by : (p q : Spot) → p.place ≤ q.place → (p.place ≡ q.place → p.number ≤ q.number) → same_number p q ≡ false → IsEarlier p q
earlier_by p q le ties apart = by (number_cases p.place q.place) where
  number_cases : (f g : ℕ) → (f ≡ g) ⊎ (f ≡ g → ⊥)
  number_cases zero zero = inl refl
  number_cases zero (suc g) = inr (λ e. absurd (omega (arith, e)))
  number_cases (suc f) zero = inr (λ e. absurd (omega (arith, e)))
  number_cases (suc f) (suc g) = elim (number_cases f g) [ inl e ↦ inl (ap suc e) | inr n ↦ inr (λ e. n (omega (arith, e))) ]

  by : (p.place ≡ q.place) ⊎ (p.place ≡ q.place → ⊥) → IsEarlier p q
  by (inl e) = let few = ties e in inr (e, grind (arith, nat_tests, few, apart))
  by (inr n) = inl (omega (arith, le, n))

-- ---- what a sort gives

contains : {A : Type 0} (xs : List A) (x : A) → IsMember xs x → Contains xs x
contains [] x m = absurd m
contains (y ∷ xs) x (inl e) = (0, omega arith, e)
contains (y ∷ xs) x (inr m) = let c = contains xs x m in let lt = c.1 in (suc c.0, omega (arith, lt), c.2)

is_member : {A : Type 0} (xs : List A) (x : A) → Contains xs x → IsMember xs x
is_member [] x (k, lt, e) = absurd (omega (arith, lt))
is_member (y ∷ xs) x (zero, lt, e) = inl e
is_member (y ∷ xs) x (suc k, lt, e) = inr (is_member xs x (k, omega (arith, lt), e))

flips : (p q : Spot) → same_number p q ≡ same_number q p
flips p q = by (nat_eq p.number q.number) (nat_eq q.number p.number) refl refl where
  by : (a b : Bool) → nat_eq p.number q.number ≡ a → nat_eq q.number p.number ≡ b → a ≡ b
  by true true e f = refl
  by false false e f = refl
  by true false e f = grind (arith, nat_tests, e, f)
  by false true e f = grind (arith, nat_tests, e, f)

-- the spots after a sort by places that keeps the order of equals are the rising ones
pub sorted_spots : (d : Data) (old new : List Spot) → old ≡ spots_of d → IsPermutation old new → IsNonDecreasingBy (λ s. s.place) new
    → ((k : ℕ) (s : Spot) → k + 1 < length new → (get_or new k s).place ≡ (get_or new (k + 1) s).place
    → (get_or new k s).number ≤ (get_or new (k + 1) s).number)
    → new ≡ rising_spots d
sorted_spots d old new is moved places ties =
    let perm : IsPermutation (spots_of d) new = subst (λ xs. IsPermutation xs new) is moved in
    let distinct : IsDistinct same_number new =
    IsDistinct-IsPermutation same_number flips (spots_of d) new perm (spots_distinct 0 d.references d.reference_places) in
    let near : (k : ℕ) (s : Spot) → suc k < length new → IsEarlier (get_or new k s) (get_or new (suc k) s) = λ k s lt.
    let up : k + 1 ≡ suc k = omega arith in
    earlier_by (get_or new k s) (get_or new (suc k) s) (places k (suc k) s (omega arith) lt)
    (subst (λ j. (get_or new k s).place ≡ (get_or new j s).place → (get_or new k s).number ≤ (get_or new j s).number) up
    (ties k s (subst (λ j. j < length new) (sym up) lt)))
    (apart_from_distinct same_number new k (suc k) s distinct (omega arith) lt) in
    let told = sorted_told spot_of stands_earlier (standing d) in
    order_pins IsEarlier one_way new (rising_spots d) (rises_by new near)
    (order_told spot_of StandsEarlier IsEarlier (rising d) (λ a b m n h. h) (references_rise d).order)
    (record {
      left = λ x m. told.right x
          (is_member (spots_of d) x (Contains-permutation new (spots_of d) x (IsPermutation-sym (spots_of d) new perm) (contains new x m)));
      right = λ x m. is_member new x (Contains-permutation (spots_of d) new x perm (contains (spots_of d) x (told.left x m)));
    })
