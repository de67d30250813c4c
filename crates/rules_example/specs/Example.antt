-- The rules of the example. A number has a row of pairs of numbers. Its answer is that of the first pair whose answer
-- isn't 0, and itself where there is none. The answer of a pair is the greater of the answers of its two numbers, which
-- are read at once; the next pair isn't reached while they wait. A number that has no row counts as 0.
use Rattle.std.specs.Prelude.{◌≡◌, ℕ, zero, suc, Bool, true, false, cond, List, [], ◌∷◌, ◌++◌, length, get_or, nat_eq}
use Rattle.std.specs.Prelude.{nat_lt, max, ◌<◌}
use Rattle.std.proofs.Common.{refl, sym, ap, arith, inl, inr}
use Rattle.std.proofs.lemmas.Bool.Decides.{nat_tests}
use Rattle.linker_base.specs.Members.{IsMember, IsEachOnce}
use Rattle.linker_base.proofs.Cases.{bool_cases}
use Rattle.linker_base.proofs.MemberLaws.{member_left, member_right, member_cases}
use Rattle.demand_core.specs.Rules.{Meaning, IsLawful, ListsInOrder}
use Rattle.demand_core.specs.Computation.{World, Computation, IsRegular, done, read, look, both, ◌>>=◌}
use Rattle.demand_core.specs.Computed.{computed, world, WaitsAmong}
use Rattle.demand_core.specs.Tables.{entry_of}
use Rattle.demand_core.proofs.ComputationLaws.{regular_done, regular_read, regular_look, regular_then, regular_both}
use Rattle.demand_core.proofs.ComputationLaws.{regular_cond}
use Rattle.demand_core.proofs.AmongLaws.{among_read, among_look, among_then, among_both, among_cond}
use Rattle.demand_core.proofs.ComputedLaws.{lawful_computed, in_order_computed}
use Rattle.rules_example.specs.Numbers.{numbers, same_number}
use Rattle.rules_example.specs.Order.{is_below, in_order, one_way, below_through, in_order_rises, number_order}
use Rattle.rules_example.specs.declared.number.Number.{Number}
use Rattle.rules_example.specs.declared.example.Pair.{Pair}

-- over the answers of numbers, and the row of each number, which stands outside
abbrev pub Lookup : Type 0 → Type 0
Lookup A = Computation Number ℕ Number (λ _. List Pair) A

abbrev pub answer_of : ℕ → Number → Lookup ℕ
answer_of count k = cond (nat_lt k.0 count) (read k) (done 0)

abbrev pub greater : ℕ → Pair → Lookup ℕ
greater count p = both (answer_of count p.left) (answer_of count p.right) >>= λ a. done (max a.0 a.1)

abbrev pub first_answer : ℕ → Number → List Pair → Lookup ℕ
first_answer count own [] = done own.0
first_answer count own (p ∷ ps) = greater count p >>= λ v. cond (nat_eq v 0) (first_answer count own ps) (done v)

abbrev pub rule : ℕ → Number → Lookup ℕ
rule count k = look k >>= λ row. first_answer count k row

abbrev pub row_of : List (List Pair) → Number → List Pair
row_of rows k = get_or rows k.0 []

-- what is read over a table of decided numbers
abbrev pub over : List (List Pair) → List (Number × ℕ) → World Number ℕ Number (λ _. List Pair)
over rows table = world (row_of rows) (entry_of same_number table)

abbrev pub example_meaning : List (List Pair) → Meaning Number ℕ Number
example_meaning rows =
    computed in_order (numbers (length rows)) (λ k v. Unit {0}) (row_of rows) (rule (length rows))

-- the rules are lawful by the shape of their computation
pub number_below : (n : ℕ) (k : Number) → k.0 < n → IsMember (numbers n) k
number_below zero k lt = absurd (omega arith)
number_below (suc n) k lt = elim (bool_cases (nat_lt k.0 n)) [
  | inl a ↦ member_left (numbers n) (record { 0 = n } ∷ []) k (number_below n k (grind (arith, nat_tests)))
  | inr b ↦ member_right (numbers n) (record { 0 = n } ∷ []) k
      (inl (let same : n ≡ k.0 = grind (arith, nat_tests) in ap (λ (i : ℕ). record { 0 = i }) same))
]

pub below_number : (n : ℕ) (k : Number) → IsMember (numbers n) k → k.0 < n
below_number zero k m = absurd m
below_number (suc n) k m = elim (member_cases (numbers n) (record { 0 = n } ∷ []) k m) [
  | inl a ↦ let lt = below_number n k a in omega arith
  | inr b ↦ elim b [ inl e ↦ let same : n ≡ k.0 = ap (λ x. x.0) e in omega arith | inr none ↦ absurd none ]
]

once_more : (ks : List Number) (k : Number) → IsEachOnce ks → (IsMember ks k → ⊥) → IsEachOnce (ks ++ k ∷ [])
once_more [] k once new = ((λ m. m), tt)
once_more (l ∷ ks) k once new = (
  λ m. elim
      (member_cases ks
      (k ∷ []) l m) [ inl a ↦ once.0 a | inr b ↦ elim b [ inl e ↦ new (inl (sym e)) | inr none ↦ none ] ],
  once_more ks k once.1 (λ m. new (inr m)),
)

each_number : (n : ℕ) → IsEachOnce (numbers n)
each_number zero = tt
each_number (suc n) = once_more (numbers n) (record { 0 = n }) (each_number n)
    (λ m. let lt = below_number n (record { 0 = n }) m in absurd (omega arith))

regular_answer : (count : ℕ) (k : Number) → IsRegular (answer_of count k)
regular_answer count k = regular_cond (nat_lt k.0 count) (read k) (done 0) (regular_read k) (regular_done 0)

regular_greater : (count : ℕ) (p : Pair) → IsRegular (greater count p)
regular_greater count p = regular_then (both (answer_of count p.left) (answer_of count p.right))
    (λ a. done (max a.0 a.1))
    (regular_both (answer_of count p.left) (answer_of count p.right) (regular_answer count p.left)
    (regular_answer count p.right)) (λ a. regular_done (max a.0 a.1))

regular_first : (count : ℕ) (own : Number) (ps : List Pair) → IsRegular (first_answer count own ps)
regular_first count own [] = regular_done own.0
regular_first count own (p ∷ ps) = regular_then (greater count p)
    (λ v. cond (nat_eq v 0) (first_answer count own ps) (done v)) (regular_greater count p)
    (λ v. regular_cond (nat_eq v 0) (first_answer count own ps) (done v) (regular_first count own ps) (regular_done v))

pub regular_rule : (count : ℕ) (k : Number) → IsRegular (rule count k)
regular_rule count k = regular_then (look k) (λ row. first_answer count k row) (regular_look k)
    (λ row. regular_first count k row)

module _ (count : ℕ) (w : World Number ℕ Number (λ _. List Pair)) where
  among_answer : (k : Number) → WaitsAmong (IsMember (numbers count)) (answer_of count k w)
  among_answer k = by_place (nat_lt k.0 count) refl
    where
      by_place : (b : Bool) → nat_lt k.0 count ≡ b → WaitsAmong (IsMember (numbers count)) (cond b (read k) (done 0) w)
      by_place true e = among_read (IsMember (numbers count)) w k (number_below count k (grind (arith, nat_tests)))
      by_place false e = λ q h. absurd h

  among_greater : (p : Pair) → WaitsAmong (IsMember (numbers count)) (greater count p w)
  among_greater p = among_then (IsMember (numbers count)) w (both (answer_of count p.left) (answer_of count p.right))
      (λ a. done (max a.0 a.1))
      (among_both (IsMember (numbers count)) w (answer_of count p.left) (answer_of count p.right)
      (among_answer p.left) (among_answer p.right)) (λ a e q h. absurd h)

  among_first : (own : Number) (ps : List Pair) → WaitsAmong (IsMember (numbers count)) (first_answer count own ps w)
  among_first own [] = λ q h. absurd h
  among_first own (p ∷ ps) = among_then (IsMember (numbers count)) w (greater count p)
      (λ v. cond (nat_eq v 0) (first_answer count own ps) (done v)) (among_greater p)
      (λ v e. among_cond (IsMember (numbers count)) w (nat_eq v 0) (first_answer count own ps) (done v)
      (among_first own ps) (λ q h. absurd h))

pub example_lawful : (rows : List (List Pair)) → IsLawful (example_meaning rows)
example_lawful rows =
    let count = length rows in
    let keys = IsMember (numbers count) in
    lawful_computed in_order number_order (numbers count) (each_number count) (λ k v. Unit {0}) (row_of rows)
    (rule count) (record {
      regular = regular_rule count;
      among = λ s k q member fit waits.
          let w = world (row_of rows) s in
          among_then keys w (look k) (λ row. first_answer count k row) (among_look keys w k)
          (λ row e. among_first count w k row) q waits;
      fitting = λ s k v member fit e. tt;
    })

-- waits are listed by their numbers, the least first
pub example_ordered : (rows : List (List Pair)) → ListsInOrder is_below (example_meaning rows)
example_ordered rows =
    in_order_computed is_below in_order (numbers (length rows)) (λ k v. Unit {0}) (row_of rows) (rule (length rows))
    one_way below_through in_order_rises
