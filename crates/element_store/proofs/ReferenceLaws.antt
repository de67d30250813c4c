-- References stand element by element, so those of an element are found by counting.
use Rattle.std.proofs.Common.{◌≡◌, ℕ, zero, suc, ◌+◌, ◌<◌, ◌≤◌, ◌↔◌, Bool, true, false, Option, Some, None, List, [], ◌∷◌, ◌++◌, map, length, slice_get, get_or, ltb, refl, sym, ap, subst, arith, inl, inr, lt-ltb, ltb-true, zero-le, le_refl, nat_eq, ◌&&◌}
use Rattle.std.specs.List.{flat_map}
use Rattle.std.specs.List.Sorted.{IsNonDecreasingBy, IsPartitionPoint}
use Rattle.std.proofs.lemmas.Option.{slice_get_within, get_or_from_slice_get, slice_get-get_or, slice_get_cases}
use Rattle.std.proofs.lemmas.Bool.{cases_lt}
use Rattle.std.proofs.lemmas.Bool.Decides.{nat_tests}
use Rattle.element_store.specs.declared.records.Element.{Element}
use Rattle.element_store.specs.declared.records.Reference.{Reference}
use Rattle.element_store.specs.declared.records.Import.{Import}
use Rattle.element_store.specs.declared.records.Member.{Member}
use Rattle.element_store.specs.declared.records.Target.{Target}
use Rattle.element_store.specs.declared.records.Target.TheVariants.{Owned, Alias}
use Rattle.element_store.specs.declared.outcome.Role.TheVariants as role
use Rattle.element_store.specs.Expressions.{names_of_bounds}
use Rattle.std.specs.Option.{option_map_or}
use Rattle.element_store.specs.declared.lists.Item.{Item}
use Rattle.element_store.specs.declared.lists.Item.TheVariants as item
use Rattle.element_store.specs.declared.outcome.Role.{Role}
use Rattle.element_store.specs.Numbers.{chosen, those_where}
use Rattle.element_store.specs.Model.{Data}
use Rattle.element_store.specs.Readings.{ArePartedAt, AreReferencesOf}
use Rattle.element_store.specs.Condition.{names_of, Told, told_from, told, is_own, own_of, held_by, by_element, IsByElement, told_by_item, told_by_member}

-- where the first so many items pass a test and the others don't, so many pass it
pub parted_count : {A : Type 0} (p : A → Bool) (xs : List A) (n : ℕ) → n ≤ length xs → IsPartitionPoint (λ y. p y ≡ true) (λ y. p y ≡ false) xs n
    → n ≡ length (those_where p xs)
parted_count p [] n le parts = omega (arith, le)
parted_count p (x ∷ xs) zero le parts =
    let here : p x ≡ false = parts.1 0 x zero-le (omega arith) in
    rw here (parted_count p xs zero zero-le ((λ k d low high. absurd (omega (arith, high))), (λ k d low high. parts.1 (suc k) d zero-le (omega (arith, high)))))
parted_count p (x ∷ xs) (suc n) le parts =
    let here : p x ≡ true = parts.0 0 x zero-le (omega arith) in
    rw here (ap suc (parted_count p xs n (omega (arith, le)) ((λ k d low high. parts.0 (suc k) d zero-le (omega (arith, high))), (λ k d low high. parts.1 (suc k) d (omega (arith, low)) (omega (arith, high))))))

-- which items those are
pub parted_at : (references : List Reference) (e n : ℕ) → n ≤ length references
    → IsPartitionPoint (λ y. ltb y.context e ≡ true) (λ y. ltb y.context e ≡ false) references n → ArePartedAt references e n
parted_at references e n le parts = (
  le,
  λ i r at.
      let here : get_or references i r ≡ r = get_or_from_slice_get references i r r at in (
        (λ before. elim (cases_lt i n) [
          | inl lt ↦ lt
          | inr ge ↦ let no : ltb r.context e ≡ false = subst (λ (x : Reference). ltb x.context e ≡ false) here (parts.1 i r ge (slice_get_within references i r at)) in let yes = lt-ltb r.context e before in cc
        ]),
        (λ lt. ltb-true r.context e (subst (λ (x : Reference). ltb x.context e ≡ true) here (parts.0 i r zero-le lt))),
      ),
)

-- all contexts are this one
abbrev pub AreAt : ℕ → List Told → Type 0
AreAt e [] = Unit {0}
AreAt e (t ∷ ts) = (t.context ≡ e) × AreAt e ts

-- the contexts never fall, and are at least this one
abbrev pub AreFrom : ℕ → List Told → Type 0
AreFrom e [] = Unit {0}
AreFrom e (t ∷ ts) = (e ≤ t.context) × AreFrom t.context ts

at_both : (e : ℕ) (xs ys : List Told) → AreAt e xs → AreAt e ys → AreAt e (xs ++ ys)
at_both e [] ys a b = b
at_both e (x ∷ xs) ys a b = (a.0, at_both e xs ys a.1 b)

-- a lower bound may be lowered
from_less : (e f : ℕ) (xs : List Told) → e ≤ f → AreFrom f xs → AreFrom e xs
from_less e f [] le a = tt
from_less e f (x ∷ xs) le a = (omega (arith, le, a.0), a.1)

-- what stands at an element, and then what stands from the next one on
at_then : (e : ℕ) (xs ys : List Told) → AreAt e xs → AreFrom (suc e) ys → AreFrom e (xs ++ ys)
at_then e [] ys a b = from_less e (suc e) ys (omega arith) b
at_then e (x ∷ xs) ys a b = (omega (arith, a.0), subst (λ k. AreFrom k (xs ++ ys)) (sym a.0) (at_then e xs ys a.1 b))

-- what is chosen for being at the element is at it
chosen_at : (e : ℕ) (t : Told) (b c : Bool) (ts : List Told) → nat_eq t.context e ≡ c → AreAt e ts → AreAt e (chosen (b && c) t ts)
chosen_at e t true true ts same rest = (grind (arith, nat_tests), rest)
chosen_at e t true false ts same rest = rest
chosen_at e t false c ts same rest = rest

-- the element's own are at it
own_at : (e : ℕ) (all : List Told) → AreAt e (own_of all e)
own_at e [] = tt
own_at e (t ∷ ts) = chosen_at e t (is_own t.role) (nat_eq t.context e) (own_of ts e) refl (own_at e ts)

-- so are those that its expressions name
named_at : (r : Role) (e : ℕ) (ns : List ℕ) → AreAt e (map (told r e) ns)
named_at r e [] = tt
named_at r e (n ∷ ns) = (refl, named_at r e ns)

-- and those that its aliases and imports name
target_at : (e : ℕ) (t : Target) → AreAt e (told_by_member e t)
target_at e (Owned x) = tt
target_at e (Alias r) = (refl, tt)

member_at : (e : ℕ) (o : Option Member) → AreAt e (option_map_or (λ x. told_by_member e x.target) o [])
member_at e None = tt
member_at e (Some m) = target_at e m.target

import_at : (e : ℕ) (o : Option Import) → AreAt e (option_map_or (λ x. told role.Import e x.reference ∷ []) o [])
import_at e None = tt
import_at e (Some i) = (refl, tt)

item_at : (d : Data) (e : ℕ) (i : Item) → AreAt e (told_by_item d e i)
item_at d e (item.Member m) = member_at e (slice_get d.members m)
item_at d e (item.Import i) = import_at e (slice_get d.imports i)

items_at : (d : Data) (e : ℕ) (is : List Item) → AreAt e (flat_map (told_by_item d e) is)
items_at d e [] = tt
items_at d e (i ∷ is) = at_both e (told_by_item d e i) (flat_map (told_by_item d e) is) (item_at d e i) (items_at d e is)

held_at : (d : Data) (e : ℕ) (x : Element) (is : List Item) → AreAt e (held_by d e x is)
held_at d e x is = at_both e (map (told role.Bound e) (names_of_bounds x.bounds)) _ (named_at role.Bound e (names_of_bounds x.bounds))
    (at_both e (map (told role.Value e) (names_of x.value ++ names_of x.result)) _ (named_at role.Value e (names_of x.value ++ names_of x.result)) (items_at d e is))

-- the contexts of references that stand element by element never fall
by_element_from : (d : Data) (all : List Told) (n : ℕ) (xs : List Element) (items : List (List Item)) → AreFrom n (by_element d all n xs items)
by_element_from d all n [] items = tt
by_element_from d all n (x ∷ xs) [] = tt
by_element_from d all n (x ∷ xs) (is ∷ items) =
    at_then n (own_of all n ++ held_by d n x is) (by_element d all (suc n) xs items) (at_both n (own_of all n) (held_by d n x is) (own_at n all) (held_at d n x is))
    (by_element_from d all (suc n) xs items)

-- what is told of references that never fall holds of each later one
from_at : (n k e : ℕ) (rs : List Reference) (j : ℕ) (r : Reference) → AreFrom e (told_from n rs) → slice_get rs j ≡ Some r → e ≤ r.context
from_at n k e [] j r from at = cc
from_at n k e (x ∷ rs) zero r from at = let same : x ≡ r = cc in subst (λ (y : Reference). e ≤ y.context) same from.0
from_at n k e (x ∷ rs) (suc j) r from at = let later = from_at (suc n) k x.context rs j r from.1 at in omega (arith, from.0, later)

-- two references, the one before the other
rising_at : (n e : ℕ) (rs : List Reference) (i j : ℕ) (r s : Reference) → AreFrom e (told_from n rs) → i ≤ j → slice_get rs i ≡ Some r → slice_get rs j ≡ Some s → r.context ≤ s.context
rising_at n e [] i j r s from le at after = cc
rising_at n e (x ∷ rs) zero j r s from le at after =
    let same : x ≡ r = cc in subst (λ (y : Reference). y.context ≤ s.context) same (from_at n 0 x.context (x ∷ rs) j s (le_refl x.context, from.1) after)
rising_at n e (x ∷ rs) (suc i) zero r s from le at after = absurd (omega (arith, le))
rising_at n e (x ∷ rs) (suc i) (suc j) r s from le at after = rising_at (suc n) x.context rs i j r s from.1 (omega (arith, le)) at after

-- the contexts of a model's references never fall
pub contexts_rise : (d : Data) → IsByElement d → IsNonDecreasingBy (λ r. r.context) d.references
contexts_rise d is i j x le lt =
    rising_at 0 0 d.references i j (get_or d.references i x) (get_or d.references j x)
    (subst (AreFrom 0) (sym is) (by_element_from d (told_from 0 d.references) 0 d.elements d.items)) le
    (slice_get-get_or d.references i x (omega (arith, le, lt))) (slice_get-get_or d.references j x lt)

-- the first count is no greater than the second
counts_rise : (references : List Reference) (e from upto : ℕ) → ArePartedAt references e from → ArePartedAt references (e + 1) upto → from ≤ upto
counts_rise references e from upto first after = elim (cases_lt upto from) [
  | inr le ↦ le
  | inl lt ↦ elim (slice_get_cases references upto).1 [
    | inl found ↦
        let below = (first.1 upto found.0 found.2).1 lt in
        let again = (after.1 upto found.0 found.2).0 (omega (arith, below)) in
        absurd (omega (arith, again))
    | inr past ↦ absurd (omega (arith, past.0, lt, first.0))
  ]
]

-- a reference between the two counts has the element as its context, and no other has
own_between : (references : List Reference) (e from upto : ℕ) → ArePartedAt references e from → ArePartedAt references (e + 1) upto
    → (i : ℕ) (r : Reference) → slice_get references i ≡ Some r → (r.context ≡ e) ↔ ((from ≤ i) × (i < upto))
own_between references e from upto first after i r at = (
  (λ same. (
    elim (cases_lt i from) [
      | inl lt ↦ let below = (first.1 i r at).1 lt in absurd (omega (arith, below, same))
      | inr le ↦ le
    ],
    (after.1 i r at).0 (omega (arith, same)),
  )),
  (λ within. let below = (after.1 i r at).1 within.1 in elim (cases_lt r.context e) [
    | inl lt ↦ let early = (first.1 i r at).0 lt in absurd (omega (arith, early, within.0))
    | inr le ↦ omega (arith, below, le)
  ]),
)

-- the references between the two counts are those of the element
pub between_counts : (references : List Reference) (e from upto : ℕ) → ArePartedAt references e from → ArePartedAt references (e + 1) upto → AreReferencesOf references e from upto
between_counts references e from upto first after = record { order = (counts_rise references e from upto first after, after.0); own = own_between references e from upto first after }
