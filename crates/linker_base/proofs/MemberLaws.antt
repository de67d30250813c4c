-- Laws of lists seen as sets.
use Rattle.std.proofs.Common.{◌≡◌, ℕ, Bool, true, ◌<◌, zero, suc, List, [], ◌∷◌, ◌++◌, length, drop, get_or, refl, sym, subst, ap, ◌⊎◌, inl, inr, arith, append_assoc, append-nil}
use Rattle.std.specs.List.{list_any}
use Rattle.std.specs.Prelude.{map}
use Rattle.linker_base.specs.Members.{IsMember, SameMembers, Adds, IsExact}
use Rattle.linker_base.proofs.Cases.{bool_cases}

-- a member of the left list is one of the whole
pub member_left : {A : Type 0} (xs ys : List A) (x : A) → IsMember xs x → IsMember (xs ++ ys) x
member_left [] ys x m = elim m [ ]
member_left (z ∷ xs) ys x (inl e) = inl e
member_left (z ∷ xs) ys x (inr m) = inr (member_left xs ys x m)

-- a member of the right list is one of the whole
pub member_right : {A : Type 0} (xs ys : List A) (x : A) → IsMember ys x → IsMember (xs ++ ys) x
member_right [] ys x m = m
member_right (z ∷ xs) ys x m = inr (member_right xs ys x m)

-- a member of the whole is one of the left or of the right list
pub member_cases : {A : Type 0} (xs ys : List A) (x : A) → IsMember (xs ++ ys) x → IsMember xs x ⊎ IsMember ys x
member_cases [] ys x m = inr m
member_cases (z ∷ xs) ys x (inl e) = inl (inl e)
member_cases (z ∷ xs) ys x (inr m) = elim (member_cases xs ys x m) [ inl h ↦ inl (inr h) | inr h ↦ inr h ]

-- each list has its own members
pub same_members : {A : Type 0} (xs : List A) → SameMembers xs xs
same_members xs = record { left = λ x m. m; right = λ x m. m }

-- having the same members goes on from list to list
pub same_through : {A : Type 0} {xs ys zs : List A} → SameMembers xs ys → SameMembers ys zs → SameMembers xs zs
same_through s t = record { left = λ x m. t.left x (s.left x m); right = λ x m. s.right x (t.right x m) }

-- lists with the same members may be joined
pub same_joined : {A : Type 0} (xs ys xs' ys' : List A) → SameMembers xs xs' → SameMembers ys ys' → SameMembers (xs ++ ys) (xs' ++ ys')
same_joined xs ys xs' ys' s t = record {
  left = λ x m. elim (member_cases xs ys x m) [ inl h ↦ member_left xs' ys' x (s.left x h) | inr h ↦ member_right xs' ys' x (t.left x h) ];
  right = λ x m. elim (member_cases xs' ys' x m) [ inl h ↦ member_left xs ys x (s.right x h) | inr h ↦ member_right xs ys x (t.right x h) ];
}

-- adding nothing
pub adds_none : {A : Type 0} (xs : List A) → Adds xs xs []
adds_none xs = record { added = []; whole = sym (append-nil xs); same = same_members [] }

-- adding these members, and then those
pub adds_more : {A : Type 0} (xs ys zs first second : List A) → Adds xs ys first → Adds ys zs second → Adds xs zs (first ++ second)
adds_more xs ys zs first second a b = record {
  added = a.added ++ b.added;
  whole = subst (λ w. zs ≡ w) (append_assoc xs a.added b.added) (subst (λ w. zs ≡ w ++ b.added) a.whole b.whole);
  same = same_joined a.added b.added first second a.same b.same;
}

-- what is left after the first items is among all
pub member_drop : {A : Type 0} (i : ℕ) (xs : List A) (x : A) → IsMember (drop i xs) x → IsMember xs x
member_drop zero xs x m = m
member_drop (suc i) [] x m = m
member_drop (suc i) (y ∷ ys) x m = inr (member_drop i ys x m)

-- the item at a place in range is among all
pub get_member : {A : Type 0} (i : ℕ) (xs : List A) (x : A) → i < length xs → x ≡ get_or xs i x → IsMember xs x
get_member i [] x lt e = absurd (omega arith)
get_member zero (y ∷ ys) x lt e = inl (sym e)
get_member (suc i) (y ∷ ys) x lt e = inr (get_member i ys x (omega arith) e)

-- a function's values at members are among the mapped list
pub member_map : {A B : Type 0} (f : A → B) (xs : List A) (x : A) → IsMember xs x → IsMember (map f xs) (f x)
member_map f [] x m = absurd m
member_map f (y ∷ xs) x (inl e) = inl (ap f e)
member_map f (y ∷ xs) x (inr m) = inr (member_map f xs x m)

-- an exact test finds each member
pub member_test : {A : Type 0} (same : A → A → Bool) → IsExact same → (xs : List A) (x : A) → IsMember xs x → list_any (same x) xs ≡ true
member_test same law [] x m = absurd m
member_test same law (y ∷ ys) x (inl e) = rw (e, law.itself) refl
member_test same law (y ∷ ys) x (inr m) = elim (bool_cases (same x y)) [ inl a ↦ rw a refl | inr b ↦ rw (b, member_test same law ys x m) refl ]

-- an exact test finds members alone
pub test_member : {A : Type 0} (same : A → A → Bool) → IsExact same → (xs : List A) (x : A) → list_any (same x) xs ≡ true → IsMember xs x
test_member same law [] x e = cc
test_member same law (y ∷ ys) x e = elim (bool_cases (same x y)) [
  | inl a ↦ inl (sym (law.exact x y a))
  | inr b ↦ inr (test_member same law ys x (rw b at e))
]
