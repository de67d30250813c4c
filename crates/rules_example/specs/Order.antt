-- The order of the keys: by their numbers.
use Rattle.std.specs.Prelude.{◌≡◌, ◌⊎◌, ℕ, ◌<◌, Bool, true, false, cond, List, [], ◌∷◌, nat_lt}
use Rattle.std.proofs.Common.{refl, ap, subst, arith, inl, inr}
use Rattle.std.proofs.lemmas.Bool.Decides.{nat_tests}
use Rattle.linker_base.specs.Members.{IsMember, IsEachOnce}
use Rattle.linker_base.specs.Orders.{AreInOrder}
use Rattle.demand_core.specs.Computed.{IsOrder}
use Rattle.rules_example.specs.declared.number.Number.{Number}

-- a is before b
abbrev pub is_below : Number → Number → Type 0
is_below a b = a.0 < b.0

-- puts a number before the first that is above it, unless it is there
abbrev pub put_in : Number → List Number → List Number
put_in k [] = k ∷ []
put_in k (l ∷ ls) = cond (nat_lt k.0 l.0) (k ∷ l ∷ ls) (cond (nat_lt l.0 k.0) (l ∷ put_in k ls) (l ∷ ls))

-- the numbers of a list, each once, the least first
abbrev pub in_order : List Number → List Number
in_order [] = []
in_order (k ∷ ks) = put_in k (in_order ks)

pub one_way : (a b : Number) → is_below a b → is_below b a → ⊥
one_way a b h g = absurd (omega arith)

pub below_through : (a b c : Number) → is_below a b → is_below b c → is_below a c
below_through a b c h g = omega arith

-- what stands there is the number that was put in, or stood there
put_left : (k : Number) (ls : List Number) (q : Number) → IsMember (put_in k ls) q → (k ≡ q) ⊎ IsMember ls q
put_left k [] q m = m
put_left k (l ∷ ls) q m = by_place (nat_lt k.0 l.0) (nat_lt l.0 k.0) (put_left k ls q) m
  where
    by_place : (a b : Bool) → (IsMember (put_in k ls) q → (k ≡ q) ⊎ IsMember ls q)
        → IsMember (cond a (k ∷ l ∷ ls) (cond b (l ∷ put_in k ls) (l ∷ ls))) q → (k ≡ q) ⊎ IsMember (l ∷ ls) q
    by_place true b rest m = m
    by_place false true rest (inl e) = inr (inl e)
    by_place false true rest (inr m) = elim (rest m) [ inl e ↦ inl e | inr i ↦ inr (inr i) ]
    by_place false false rest m = inr m

-- and each of these stands there
put_right : (k : Number) (ls : List Number) (q : Number) → (k ≡ q) ⊎ IsMember ls q → IsMember (put_in k ls) q
put_right k [] q m = m
put_right k (l ∷ ls) q m = by_place (nat_lt k.0 l.0) (nat_lt l.0 k.0) refl refl (put_right k ls q) m
  where
    by_place : (a b : Bool) → nat_lt k.0 l.0 ≡ a → nat_lt l.0 k.0 ≡ b
        → ((k ≡ q) ⊎ IsMember ls q → IsMember (put_in k ls) q)
        → (k ≡ q) ⊎ IsMember (l ∷ ls) q → IsMember (cond a (k ∷ l ∷ ls) (cond b (l ∷ put_in k ls) (l ∷ ls))) q
    by_place true b x y rest m = m
    by_place false true x y rest (inl e) = inr (rest (inl e))
    by_place false true x y rest (inr m) = elim m [ inl e ↦ inl e | inr i ↦ inr (rest (inr i)) ]
    by_place false false x y rest (inl e) =
        let same : l.0 ≡ k.0 = grind (arith, nat_tests) in
        inl (subst (λ z. l ≡ z) e (ap (λ (n : ℕ). record { 0 = n }) same))
    by_place false false x y rest (inr m) = m

put_rises : (k : Number) (ls : List Number) → AreInOrder is_below ls → AreInOrder is_below (put_in k ls)
put_rises k [] o = ((λ y none. absurd none), tt)
put_rises k (l ∷ ls) o = by_place (nat_lt k.0 l.0) (nat_lt l.0 k.0) refl refl (put_rises k ls o.1)
  where
    by_place : (a b : Bool) → nat_lt k.0 l.0 ≡ a → nat_lt l.0 k.0 ≡ b → AreInOrder is_below (put_in k ls)
        → AreInOrder is_below (cond a (k ∷ l ∷ ls) (cond b (l ∷ put_in k ls) (l ∷ ls)))
    by_place true b x y rest =
        let lt : is_below k l = grind (arith, nat_tests) in
        (λ z. elim [ inl e ↦ subst (is_below k) e lt | inr m ↦ below_through k l z lt (o.0 z m) ], o)
    by_place false true x y rest =
        let lt : is_below l k = grind (arith, nat_tests) in
        (λ z m. elim (put_left k ls z m) [ inl e ↦ subst (is_below l) e lt | inr i ↦ o.0 z i ], rest)
    by_place false false x y rest = o

pub in_order_rises : (ks : List Number) → AreInOrder is_below (in_order ks)
in_order_rises [] = tt
in_order_rises (k ∷ ks) = put_rises k (in_order ks) (in_order_rises ks)

rises_once : (ks : List Number) → AreInOrder is_below ks → IsEachOnce ks
rises_once [] o = tt
rises_once (k ∷ ks) o = (λ m. one_way k k (o.0 k m) (o.0 k m), rises_once ks o.1)

from_order : (ks : List Number) (q : Number) → IsMember (in_order ks) q → IsMember ks q
from_order [] q m = m
from_order (k ∷ ks) q m = elim (put_left k (in_order ks) q m) [ inl e ↦ inl e | inr i ↦ inr (from_order ks q i) ]

to_order : (ks : List Number) (q : Number) → IsMember ks q → IsMember (in_order ks) q
to_order [] q m = m
to_order (k ∷ ks) q (inl e) = put_right k (in_order ks) q (inl e)
to_order (k ∷ ks) q (inr m) = put_right k (in_order ks) q (inr (to_order ks q m))

pub number_order : IsOrder in_order
number_order = record {
  same = λ ks. record { left = from_order ks; right = to_order ks };
  once = λ ks. rises_once (in_order ks) (in_order_rises ks);
}
