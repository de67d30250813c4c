-- The definitions evaluated on small rows.
use Rattle.std.specs.Prelude.{◌≡◌, ℕ, cond, List, [], ◌∷◌, Option, None, Some, nat_eq, refl}
use Rattle.demand_core.specs.Least.{stage, least, cyclic_on}
use Rattle.demand_core.specs.Computation.{done, read, look, ◌>>=◌}
use Rattle.demand_core.specs.Computed.{world}
use Rattle.demand_core.specs.Gather.{gather, follow}
use Rattle.demand_core.specs.Tables.{Decided}
use Rattle.demand_core.specs.declared.looks.Fact.TheVariants.{Key, Outer}
use Rattle.demand_core.specs.declared.step.Step.TheVariants.{Done, Waits}
use Rattle.rules_example.specs.Numbers.{same_number}
use Rattle.rules_example.specs.Example.{Lookup, example_meaning, row_of}
use Rattle.rules_example.specs.declared.number.Number.{Number}
use Rattle.rules_example.specs.declared.example.Pair.{Pair}

abbrev at : ℕ → Number
at n = record { 0 = n }

abbrev pair : ℕ → ℕ → Pair
pair a b = record { left = at a; right = at b }

abbrev answer : List (List Pair) → ℕ → Option ℕ
answer rows n = least same_number (example_meaning rows) (at n)

abbrev kept : List (List Pair) → ℕ → Option Number
kept rows n = cyclic_on same_number (example_meaning rows) (at n)

-- 2 names 1, which has its own answer
pub a_name : answer ([] ∷ [] ∷ (pair 1 1 ∷ []) ∷ []) 2 ≡ Some 1
unfolding least stage
a_name = refl

-- 0 and 1 name each other
abbrev circle : List (List Pair)
circle = (pair 1 1 ∷ []) ∷ (pair 0 0 ∷ []) ∷ []

pub a_circle : answer circle 0 ≡ None
unfolding least stage
a_circle = refl

pub a_circle_kept : kept circle 0 ≡ Some (at 1)
unfolding least stage
a_circle_kept = refl

-- 0 has an answer from 2 before it reaches 1, which names it
pub a_way_out : answer ((pair 2 2 ∷ pair 1 1 ∷ []) ∷ (pair 0 0 ∷ []) ∷ [] ∷ []) 1 ≡ Some 2
unfolding least stage
a_way_out = refl

-- a pair waits on both of its numbers at once, the least first, and the pair after it isn't reached
abbrev two_at_once : List (List Pair)
two_at_once = (pair 2 1 ∷ pair 3 3 ∷ []) ∷ [] ∷ [] ∷ [] ∷ []

pub both_wait : (example_meaning two_at_once).answer (λ _. None) (at 0) ≡ Waits (at 1 ∷ at 2 ∷ [])
both_wait = refl

pub both_looked : (example_meaning two_at_once).looked (λ _. None) (at 0) ≡ Outer (at 0) ∷ Key (at 2) ∷ Key (at 1) ∷ []
both_looked = refl

-- From 0 the numbers of its pairs are reached, and those of theirs, also where the way leads round.
abbrev both_of : Pair → Lookup (List Number)
both_of p = done (p.left ∷ p.right ∷ [])

abbrev round_rows : List (List Pair)
round_rows = (pair 1 2 ∷ []) ∷ (pair 0 0 ∷ []) ∷ [] ∷ []

pub a_way_round : (follow same_number look both_of 9 (at 0) (world (row_of round_rows) (λ _. None))).step
    ≡ Done (at 1 ∷ at 2 ∷ at 0 ∷ at 0 ∷ [])
unfolding gather
a_way_round = refl

-- Where each pair leads to the answer of its first number, and 1 alone is decided, a search from 0 waits on 2, and on
-- 3, which it reaches through 1.
abbrev answer_to : Pair → Lookup (List Number)
answer_to p = read p.left >>= λ v. done (at v ∷ [])

abbrev one_alone : Decided Number ℕ
one_alone k = cond (nat_eq k.0 1) (Some 1) None

abbrev waiting_rows : List (List Pair)
waiting_rows = (pair 1 1 ∷ pair 2 2 ∷ []) ∷ (pair 3 3 ∷ []) ∷ [] ∷ [] ∷ []

pub each_open_link : (follow same_number look answer_to 9 (at 0) (world (row_of waiting_rows) one_alone)).step
    ≡ Waits (at 3 ∷ at 2 ∷ [])
unfolding gather
each_open_link = refl
