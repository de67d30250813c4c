-- Rows stand in rising place, and each reference has one.
use Rattle.std.proofs.Common.{◌≡◌, ◌∙◌, ◌⊎◌, ℕ, ◌<◌, ◌≤◌, zero, suc, Bool, true, false, List, [], ◌∷◌, length, refl, sym, ap, subst, arith, inl, inr}
use Rattle.std.specs.Prelude.{map, nat_eq, nat_lt, ◌&&◌}
use Rattle.std.specs.Cmp.{IsStrictWeakOrder}
use Rattle.std.proofs.lemmas.Bool.Decides.{nat_tests}
use Rattle.linker_base.specs.Members.{IsMember, SameMembers, IsEachOnce}
use Rattle.linker_base.specs.Orders.{AreInOrder}
use Rattle.linker_base.proofs.Cases.{bool_cases}
use Rattle.element_store.specs.declared.records.Reference.{Reference}
use Rattle.element_store.specs.Numbers.{places_from}
use Rattle.element_store.specs.Model.{Data}
use Rattle.book_model.specs.declared.rows.LinkRow.{LinkRow}
use Rattle.book_model.specs.Laws.{StandsEarlier, AreRising, HasOneRowEach, IsRowBefore, AreWithin}
use Rattle.book_model.specs.Places.{place_of}
use Rattle.book_model.specs.Rows.{Outcomes, Standing, standing_from, standing, stands_earlier, rising, link_row, rows_in}
use Rattle.book_model.proofs.PlaceLaws.{printed_later}
use Rattle.book_model.proofs.SortingLaws.{sorted_same, sorted_told, sorted_once, sorted_order, sharper, order_told}

-- the test says what it says
earlier_told : (a b : Standing) → stands_earlier a b ≡ true → StandsEarlier a b
earlier_told a b h = elim (bool_cases (nat_lt a.place b.place)) [
  | inl lt ↦ inl (grind (arith, nat_tests, lt))
  | inr le ↦ let both : (nat_eq a.place b.place && nat_lt a.number b.number) ≡ true = rw le at h in elim (bool_cases (nat_eq a.place b.place)) [
    | inl eq ↦ let lt : nat_lt a.number b.number ≡ true = rw eq at both in inr (grind (arith, nat_tests, eq), grind (arith, nat_tests, lt))
    | inr far ↦ let bad : false ≡ true = rw far at both in cc
  ]
]

-- and is passed where that holds
earlier_shown : (a b : Standing) → StandsEarlier a b → stands_earlier a b ≡ true
earlier_shown a b (inl lt) = let t : nat_lt a.place b.place ≡ true = grind (arith, nat_tests, lt) in rw t refl
earlier_shown a b (inr h) =
    let eq : nat_eq a.place b.place ≡ true = grind (arith, nat_tests, h.0) in
    let lt : nat_lt a.number b.number ≡ true = grind (arith, nat_tests, h.1) in
    let far : nat_lt a.place b.place ≡ false = grind (arith, nat_tests, h.0) in
    rw (far, eq, lt) refl

-- of two references the first stands earlier, or it doesn't: then the second does, or they have one place and one number
not_earlier : (a b : Standing) → stands_earlier a b ≡ false → StandsEarlier b a ⊎ ((a.place ≡ b.place) × (a.number ≡ b.number))
not_earlier a b h = elim (cases_of a.place b.place) [
  | inl lt ↦ let bad : true ≡ false = sym (earlier_shown a b (inl lt)) ∙ h in cc
  | inr ge ↦ elim ge [
    | inl gt ↦ inl (inl gt)
    | inr eq ↦ elim (cases_of a.number b.number) [
      | inl lt ↦ let bad : true ≡ false = sym (earlier_shown a b (inr (eq, lt))) ∙ h in cc
      | inr ge ↦ elim ge [ inl gt ↦ inl (inr (sym eq, gt)) | inr same ↦ inr (eq, same) ]
    ]
  ]
] where
  cases_of : (m n : ℕ) → (m < n) ⊎ ((n < m) ⊎ (m ≡ n))
  cases_of zero zero = inr (inr refl)
  cases_of zero (suc n) = inl (omega arith)
  cases_of (suc m) zero = inr (inl (omega arith))
  cases_of (suc m) (suc n) = elim (cases_of m n) [
    | inl a ↦ inl
        (omega (arith, a))
    | inr b ↦ elim b [ inl c ↦ inr (inl (omega (arith, c))) | inr e ↦ inr (inr (ap suc e)) ]
  ]

-- a test that can't be passed is false
false_of : (b : Bool) → (b ≡ true → ⊥) → b ≡ false
false_of true h = absurd (h refl)
false_of false h = refl

-- of two references one alone stands earlier
one_way : (a b : Standing) → StandsEarlier a b → StandsEarlier b a → ⊥
one_way a b (inl p) (inl q) = omega (arith, p, q)
one_way a b (inl p) (inr q) = omega (arith, p, q.0)
one_way a b (inr p) (inl q) = omega (arith, p.0, q)
one_way a b (inr p) (inr q) = omega (arith, p.1, q.1)

-- if neither the first stands before the second nor that before the third, the first doesn't stand before the third
no_way : (a b c : Standing) → stands_earlier a b ≡ false → stands_earlier b c ≡ false → StandsEarlier a c → ⊥
no_way a b c h k e = step a b c (not_earlier a b h) (not_earlier b c k) e where
  step : (a b c : Standing) → StandsEarlier b a ⊎ ((a.place ≡ b.place) × (a.number ≡ b.number)) → StandsEarlier c b
      ⊎ ((b.place ≡ c.place) × (b.number ≡ c.number))
      → StandsEarlier a c → ⊥
  step a b c (inl (inl p)) (inl (inl q)) (inl e) = omega (arith, p, q, e)
  step a b c (inl (inl p)) (inl (inr q)) (inl e) = omega (arith, p, q.0, e)
  step a b c (inl (inr p)) (inl (inl q)) (inl e) = omega (arith, p.0, q, e)
  step a b c (inl (inr p)) (inl (inr q)) (inl e) = omega (arith, p.0, q.0, e)
  step a b c (inr p) (inl (inl q)) (inl e) = omega (arith, p.0, q, e)
  step a b c (inr p) (inl (inr q)) (inl e) = omega (arith, p.0, q.0, e)
  step a b c (inl (inl p)) (inr q) (inl e) = omega (arith, p, q.0, e)
  step a b c (inl (inr p)) (inr q) (inl e) = omega (arith, p.0, q.0, e)
  step a b c (inr p) (inr q) (inl e) = omega (arith, p.0, q.0, e)
  step a b c (inl (inl p)) (inl (inl q)) (inr e) = omega (arith, p, q, e.0)
  step a b c (inl (inl p)) (inl (inr q)) (inr e) = omega (arith, p, q.0, e.0)
  step a b c (inl (inr p)) (inl (inl q)) (inr e) = omega (arith, p.0, q, e.0)
  step a b c (inl (inr p)) (inl (inr q)) (inr e) = omega (arith, p.1, q.1, e.1)
  step a b c (inr p) (inl (inl q)) (inr e) = omega (arith, p.0, q, e.0)
  step a b c (inr p) (inl (inr q)) (inr e) = omega (arith, p.1, q.1, e.1)
  step a b c (inl (inl p)) (inr q) (inr e) = omega (arith, p, q.0, e.0)
  step a b c (inl (inr p)) (inr q) (inr e) = omega (arith, p.1, q.1, e.1)
  step a b c (inr p) (inr q) (inr e) = omega (arith, p.1, q.1, e.1)

-- the test is one of an order
earlier_is_order : IsStrictWeakOrder stands_earlier
earlier_is_order = record {
  one_way = λ a b h. false_of (stands_earlier b a) (λ k. one_way a b (earlier_told a b h) (earlier_told b a k));
  chain = λ a b c h k. false_of (stands_earlier a c) (λ e. no_way a b c h k (earlier_told a c e));
}

-- the numbers of references, where the first is n
numbers_above : (n : ℕ) (rs : List Reference) (ps : List ℕ) (k : ℕ) → IsMember (map (λ (s : Standing). s.number) (standing_from n rs ps)) k → n ≤ k
numbers_above n [] ps k m = absurd m
numbers_above n (r ∷ rs) [] k m = absurd m
numbers_above n (r ∷ rs) (p ∷ ps) k (inl e) = omega (arith, e)
numbers_above n (r ∷ rs) (p ∷ ps) k (inr m) = omega (arith, numbers_above (suc n) rs ps k m)

-- and stand once
numbers_once : (n : ℕ) (rs : List Reference) (ps : List ℕ) → IsEachOnce (map (λ (s : Standing). s.number) (standing_from n rs ps))
numbers_once n [] ps = tt
numbers_once n (r ∷ rs) [] = tt
numbers_once n (r ∷ rs) (p ∷ ps) = (λ m. omega (arith, numbers_above (suc n) rs ps n m), numbers_once (suc n) rs ps)

-- and are all of them where each has a place
numbers_are : (n : ℕ) (rs : List Reference) (ps : List ℕ) → length ps ≡ length rs
    → map (λ (s : Standing). s.number) (standing_from n rs ps) ≡ places_from n rs
numbers_are n [] ps e = refl
numbers_are n (r ∷ rs) [] e = absurd (omega (arith, e))
numbers_are n (r ∷ rs) (p ∷ ps) e = ap (λ ks. n ∷ ks) (numbers_are (suc n) rs ps (omega (arith, e)))

-- a reference stands at one of the places
place_among : (n : ℕ) (rs : List Reference) (ps : List ℕ) (s : Standing) → IsMember (standing_from n rs ps) s → IsMember ps s.place
place_among n [] ps s m = absurd m
place_among n (r ∷ rs) [] s m = absurd m
place_among n (r ∷ rs) (p ∷ ps) s (inl e) = inl (ap (λ (x : Standing). x.place) e)
place_among n (r ∷ rs) (p ∷ ps) s (inr m) = inr (place_among (suc n) rs ps s m)

-- references that aren't out of order and have different numbers are in order
earlier_sharp : (a b : Standing) → stands_earlier b a ≡ false → (a.number ≡ b.number → ⊥) → StandsEarlier a b
earlier_sharp a b h other = elim (not_earlier b a h) [ inl e ↦ e | inr same ↦ absurd (other (sym same.1)) ]

-- the references of a file in rising place
pub references_rise : (d : Data) → AreRising d (rising d)
references_rise d = record {
  same = sorted_same stands_earlier (standing d);
  order = sharper (λ (s : Standing). s.number) (λ a b. stands_earlier b a ≡ false) StandsEarlier (rising d) earlier_sharp
      (sorted_once (λ (s : Standing). s.number) stands_earlier (standing d) (numbers_once 0 d.references d.reference_places))
      (sorted_order stands_earlier earlier_is_order (standing d));
}

-- the numbers of rows are those of the references in rising place
row_numbers : (outcomes : Outcomes) (text : List ℕ) (d : Data) (ss : List Standing)
    → map (λ (s : Standing). s.number) ss ≡ map (λ (row : LinkRow). row.reference.index) (map (link_row outcomes text d.file) ss)
row_numbers outcomes text d [] = refl
row_numbers outcomes text d (s ∷ ss) = ap (λ ks. s.number ∷ ks) (row_numbers outcomes text d ss)

-- each reference has one row
pub one_row_each : (outcomes : Outcomes) (text : List ℕ) (d : Data) → length d.reference_places ≡ length d.references
    → HasOneRowEach d (rows_in outcomes text d)
one_row_each outcomes text d long =
    let are = row_numbers outcomes text d (rising d) in
    record {
      same = subst (λ ks. SameMembers ks (places_from 0 d.references)) are
          (subst (λ ks. SameMembers (map (λ (s : Standing). s.number) (rising d)) ks) (numbers_are 0 d.references d.reference_places long)
          (sorted_told (λ (s : Standing). s.number) stands_earlier (standing d)));
      once = subst IsEachOnce are (sorted_once (λ (s : Standing). s.number) stands_earlier (standing d) (numbers_once 0 d.references d.reference_places));
    }

-- a reference that stands earlier has an earlier row
row_before : (outcomes : Outcomes) (text : List ℕ) (d : Data) (a b : Standing) → b.place ≤ length text → StandsEarlier a b
    → IsRowBefore (link_row outcomes text d.file a) (link_row outcomes text d.file b)
row_before outcomes text d a b within (inl lt) = inl (printed_later text a.place b.place lt within)
row_before outcomes text d a b within (inr h) = inr (ap (place_of text) h.0, h.1)

-- the rows of a file rise as they are printed
pub rows_rise : (outcomes : Outcomes) (text : List ℕ) (d : Data) → AreWithin text d.reference_places → AreInOrder IsRowBefore (rows_in outcomes text d)
rows_rise outcomes text d within =
    let o = references_rise d in
    order_told (link_row outcomes text d.file) StandsEarlier IsRowBefore (rising d)
    (λ a b m n e. row_before outcomes text d a b (within b.place (place_among 0 d.references d.reference_places b (o.same.left b n))) e) o.order
