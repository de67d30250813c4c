-- What stands when a row changes: whoever didn't look at it is answered as before.
use Rattle.std.proofs.Common.{◌≡◌, ℕ, zero, suc, ◌+◌, ◌-◌, ◌<◌, ◌≤◌, Bool, true, false, cond, List, [], ◌∷◌, ◌++◌, length, get_or, refl, sym, ◌∙◌, ap, subst, inl, inr, arith}
use Rattle.std.proofs.lemmas.Bool.Decides.{nat_tests}
use Rattle.std.proofs.lemmas.List.{get_or-set_other, length-set}
use Rattle.std.specs.Prelude.{None, Some, Option, nat_eq, nat_lt, max, slice_set, ◌⊎◌}
use Rattle.linker_base.specs.Members.{IsMember, SameMembers}
use Rattle.linker_base.proofs.Cases.{bool_cases}
use Rattle.linker_base.proofs.MemberLaws.{member_left, member_right, member_cases}
use Rattle.demand_core.specs.Again.{HoldsAll, Changes, AreFresh, HasForgotten}
use Rattle.demand_core.specs.Computation.{World, Asked, done, read_step, read, look, then_step, ◌>>=◌, both}
use Rattle.demand_core.specs.Computed.{world, computed}
use Rattle.demand_core.specs.EngineState.{EngineState}
use Rattle.demand_core.specs.Forgotten.{is_held}
use Rattle.demand_core.specs.Least.{least}
use Rattle.demand_core.specs.Rules.{AgreeAt}
use Rattle.demand_core.specs.Tables.{Decided}
use Rattle.demand_core.specs.declared.looks.Fact.{Fact}
use Rattle.demand_core.specs.declared.looks.Fact.TheVariants.{Key, Outer}
use Rattle.demand_core.specs.declared.step.Step.{Step}
use Rattle.demand_core.specs.declared.step.Step.TheVariants.{Done, Waits}
use Rattle.demand_core.proofs.AgainLaws.{held_key}
use Rattle.demand_core.proofs.ComputedLaws.{alike_computed}
use Rattle.rules_example.specs.Example.{answer_of, greater, first_answer, rule, row_of, example_meaning, example_lawful, number_below, below_number, regular_rule}
use Rattle.rules_example.specs.Numbers.{numbers, same_number, number_is_exact}
use Rattle.rules_example.specs.Order.{in_order}
use Rattle.rules_example.specs.declared.number.Number.{Number}
use Rattle.rules_example.specs.declared.example.Pair.{Pair}

-- keys that are looked at have the property
abbrev LooksAmong : {K F A : Type 0} → (K → Type 0) → Asked K F A → Type 0
LooksAmong {K} P a = (q : K) → IsMember a.looks (Key q) → P q

looks_then : {K F A B : Type 0} (P : K → Type 0) (a : Asked K F A) (f : A → Asked K F B) (step : Step K A) → LooksAmong P a → ((x : A) → LooksAmong P (f x))
    → LooksAmong P (then_step a f step)
looks_then P a f (Waits ks) h g q m = h q m
looks_then P a f (Done x) h g q m = elim (member_cases a.looks (f x).looks (Key q) m) [ inl l ↦ h q l | inr r ↦ g x q r ]

module _ (count : ℕ) (w : World Number ℕ Number (λ _. List Pair)) where
  answer_looks : (k : Number) → LooksAmong (IsMember (numbers count)) (answer_of count k w)
  answer_looks k = by_place (nat_lt k.0 count) refl
    where
      by_place : (b : Bool) → nat_lt k.0 count ≡ b → LooksAmong (IsMember (numbers count)) (cond b (read k) (done 0) w)
      by_place true e q (inl is) = let same : k ≡ q = cc in subst (IsMember (numbers count)) same (number_below count k (grind (arith, nat_tests)))
      by_place true e q (inr none) = absurd none
      by_place false e q m = absurd m

  both_looks : (p : Pair) → LooksAmong (IsMember (numbers count)) (both (answer_of count p.left) (answer_of count p.right) w)
  both_looks p q m = elim (member_cases (answer_of count p.left w).looks (answer_of count p.right w).looks (Key q) m) [
    | inl l ↦ answer_looks p.left q l
    | inr r ↦ answer_looks p.right q r
  ]

  greater_looks : (p : Pair) → LooksAmong (IsMember (numbers count)) (greater count p w)
  greater_looks p =
      let both_of = both (answer_of count p.left) (answer_of count p.right) in
      looks_then (IsMember (numbers count)) (both_of w) (λ a. done (max a.0 a.1) w) (both_of w).step (both_looks p) (λ a q m. absurd m)

  first_looks : (own : Number) (ps : List Pair) → LooksAmong (IsMember (numbers count)) (first_answer count own ps w)
  first_looks own [] = λ q m. absurd m
  first_looks own (p ∷ ps) =
      looks_then (IsMember (numbers count)) (greater count p w) (λ v. cond (nat_eq v 0) (first_answer count own ps) (done v) w) (greater count p w).step
      (greater_looks p)
      (λ v. by_place v (nat_eq v 0) (first_looks own ps))
    where
      by_place : (v : ℕ) (b : Bool) → LooksAmong (IsMember (numbers count)) (first_answer count own ps w)
          → LooksAmong (IsMember (numbers count)) (cond b (first_answer count own ps) (done v) w)
      by_place v true rest = rest
      by_place v false rest = λ q m. absurd m

  rule_looks : (k : Number) → LooksAmong (IsMember (numbers count)) (rule count k w)
  rule_looks k = looks_then (IsMember (numbers count)) (look k w) (λ row. first_answer count k row w) (look k w).step own (λ row. first_looks k row)
    where
      own : LooksAmong (IsMember (numbers count)) (look k w)
      own q (inl is) = cc
      own q (inr none) = absurd none

-- the row of another number stays
row_stays : (rows : List (List Pair)) (place f : Number) (row : List Pair) → (f ≡ place → ⊥) → row_of rows f ≡ row_of (slice_set rows place.0 row) f
row_stays rows place f row other = sym (get_or-set_other rows place.0 f.0 row [] (λ e. other (ap (λ (n : ℕ). record { 0 = n }) e)))

-- whoever didn't look at the row of the place is answered as before
alike_before : (rows : List (List Pair)) (place : Number) (row : List Pair) (count : ℕ) (k : Number) (s t : Decided Number ℕ)
    → ((f : Fact Number Number) → IsMember (Outer place ∷ []) f → IsMember (rule count k (world (row_of rows) s)).looks f → ⊥)
    → AgreeAt (rule count k (world (row_of rows) s)).looks s t
    → ((computed in_order (numbers count) (λ k v. Unit {0}) (row_of (slice_set rows place.0 row)) (rule count)).answer t k
    ≡ (computed in_order (numbers count) (λ k v. Unit {0}) (row_of rows) (rule count)).answer s k)
    × ((rule count k (world (row_of (slice_set rows place.0 row)) t)).looks ≡ (rule count k (world (row_of rows) s)).looks)
alike_before rows place row count k s t avoids agree =
    alike_computed in_order in_order (numbers count) (numbers count) (λ k v. Unit {0}) (λ k v. Unit {0}) (row_of rows) (row_of (slice_set rows place.0 row))
    (rule count) k (regular_rule count k) s t (λ ks e. refl) agree
    (λ f there. row_stays rows place f row (λ same. avoids (Outer f) (inl (ap Outer (sym same))) there))

same_count : (rows : List (List Pair)) (place : Number) (row : List Pair) → length (slice_set rows place.0 row) ≡ length rows
same_count rows place row = length-set rows place.0 row

to_new : (rows : List (List Pair)) (place : Number) (row : List Pair) (k : Number) → IsMember (numbers (length rows)) k
    → IsMember (numbers (length (slice_set rows place.0 row))) k
to_new rows place row k i = subst (λ n. IsMember (numbers n) k) (sym (same_count rows place row)) i

to_old : (rows : List (List Pair)) (place : Number) (row : List Pair) (k : Number) → IsMember (numbers (length (slice_set rows place.0 row))) k
    → IsMember (numbers (length rows)) k
to_old rows place row k i = subst (λ n. IsMember (numbers n) k) (same_count rows place row) i

-- a row that changed
pub row_changes : (rows : List (List Pair)) (place : Number) (row : List Pair) (gone : List Number)
    → Changes same_number (example_meaning rows) (example_meaning (slice_set rows place.0 row)) (Outer place ∷ []) gone
row_changes rows place row gone = record {
  alike = λ k i j avoids t fit agree.
      subst (λ n. ((computed in_order (numbers n) (λ k v. Unit {0}) (row_of (slice_set rows place.0 row)) (rule n)).answer t k
      ≡ (example_meaning rows).answer (least same_number (example_meaning rows)) k)
      × ((rule n k (world (row_of (slice_set rows place.0 row)) t)).looks ≡ (example_meaning rows).looked (least same_number (example_meaning rows)) k))
      (sym (same_count rows place row))
      (alike_before rows place row (length rows) k (least same_number (example_meaning rows)) t avoids agree);
  keyed = λ k q i there. rule_looks (length rows) (world (row_of rows) (least same_number (example_meaning rows))) k q there;
  removed = λ k i out. absurd (out (to_new rows place row k i));
}

-- what was forgotten is what is settled again
pub gone_are_fresh : (rows : List (List Pair)) (place : Number) (row : List Pair) (gone : List Number) (e : EngineState Number ℕ Number)
    → HoldsAll same_number (example_meaning rows) e → ((k : Number) → IsMember gone k → is_held same_number e k ≡ true)
    → AreFresh (example_meaning rows) (example_meaning (slice_set rows place.0 row)) gone gone
gone_are_fresh rows place row gone e h held = record {
  keys = λ k i. to_new rows place row k (held_key same_number number_is_exact (example_meaning rows) (example_lawful rows) e h.least_held k (held k i));
  lost = λ k i. inl i;
  all = λ k i. elim [ inl g ↦ g | inr out ↦ absurd (out (to_old rows place row k i)) ];
}

-- the numbers from the last one down to a place
pub backward_more : (count place : ℕ) (keys new : List Number) → place < count → new ≡ keys ++ record { 0 = count - 1 - place } ∷ []
    → ((q : Number) → IsMember keys q → (count - place ≤ q.0) × (q.0 < count)) → ((q : Number) → count - place ≤ q.0 → q.0 < count → IsMember keys q)
    → ((q : Number) → IsMember new q → (count - (place + 1) ≤ q.0) × (q.0 < count)) × ((q : Number) → count - (place + 1) ≤ q.0 → q.0 < count → IsMember new q)
backward_more count place keys new lt grown from to = (
  λ q i. elim (member_cases keys (record { 0 = count - 1 - place } ∷ []) q (subst (λ ks. IsMember ks q) grown i)) [
    | inl before ↦ let b = from q before in (omega (arith, b.0), b.1)
    | inr last ↦ elim last [
      | inl e ↦ let is : count - 1 - place ≡ q.0 = ap (λ x. x.0) e in (omega (arith, is), omega (arith, is))
      | inr bad ↦ absurd bad
    ]
  ],
  λ q low high. subst (λ ks. IsMember ks q) (sym grown) (elim (bool_cases (nat_lt q.0 (count - place))) [
    | inl a ↦
        let is : count - 1 - place ≡ q.0 = (let below : q.0 < count - place = grind (arith, nat_tests) in omega (arith, below, low)) in
        member_right keys (record { 0 = count - 1 - place } ∷ []) q (inl (ap (λ (n : ℕ). record { 0 = n }) is))
    | inr b ↦ member_left keys (record { 0 = count - 1 - place } ∷ []) q (to q (grind (arith, nat_tests)) high)
  ]),
)

-- all numbers are there
pub backward_all : (count place : ℕ) (keys : List Number) → count ≤ place → ((q : Number) → IsMember keys q → (count - place ≤ q.0) × (q.0 < count))
    → ((q : Number) → count - place ≤ q.0 → q.0 < count → IsMember keys q) → SameMembers keys (numbers count)
backward_all count place keys done from to = record {
  left = λ q i. number_below count q (from q i).1;
  right = λ q i. let lt = below_number count q i in to q (omega arith) lt;
}
