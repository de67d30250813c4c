-- Lists in an order: their parts, and that their members fix them.
use Rattle.std.proofs.Common.{◌≡◌, ◌∙◌, List, [], ◌∷◌, ◌++◌, refl, sym, ap, subst, inl, inr}
use Rattle.linker_base.specs.Members.{IsMember, SameMembers}
use Rattle.linker_base.proofs.MemberLaws.{member_left, member_right}
use Rattle.linker_base.specs.Orders.{AreInOrder}

-- the right part of a list in order is in order
pub order_right : {A : Type 0} (R : A → A → Type 0) (xs ys : List A) → AreInOrder R (xs ++ ys) → AreInOrder R ys
order_right R [] ys o = o
order_right R (x ∷ xs) ys o = order_right R xs ys o.1

-- and so is the left part
pub order_left : {A : Type 0} (R : A → A → Type 0) (xs ys : List A) → AreInOrder R (xs ++ ys) → AreInOrder R xs
order_left R [] ys o = tt
order_left R (x ∷ xs) ys o = (λ y m. o.0 y (member_left xs ys y m), order_left R xs ys o.1)

-- what stands in the left part is related to what stands in the right part
pub order_across : {A : Type 0} (R : A → A → Type 0) (xs ys : List A) (x y : A) → AreInOrder R (xs ++ ys) → IsMember xs x → IsMember ys y → R x y
order_across R [] ys x y o m n = absurd m
order_across R (z ∷ xs) ys x y o (inl e) n = subst (λ w. R w y) e (o.0 y (member_right xs ys y n))
order_across R (z ∷ xs) ys x y o (inr m) n = order_across R xs ys x y o.1 m n

-- what stands after equal heads of two lists with the same members has the same members
tails_same : {A : Type 0} (R : A → A → Type 0) → ((x y : A) → R x y → R y x → ⊥) → (x y : A) (xs ys : List A) → x ≡ y → AreInOrder R (x ∷ xs)
    → AreInOrder R (y ∷ ys)
    → SameMembers (x ∷ xs) (y ∷ ys) → SameMembers xs ys
tails_same R one_way x y xs ys e a b s = record {
  left = λ z m. elim (s.left z (inr m)) [ inl q ↦ let r = subst (λ w. R w z) (e ∙ q) (a.0 z m) in absurd (one_way z z r r) | inr h ↦ h ];
  right = λ z m. elim (s.right z (inr m)) [ inl q ↦ let r = subst (λ w. R w z) (sym e ∙ q) (b.0 z m) in absurd (one_way z z r r) | inr h ↦ h ];
}

-- the heads of two lists with the same members are equal
heads_same : {A : Type 0} (R : A → A → Type 0) → ((x y : A) → R x y → R y x → ⊥) → (x y : A) (xs ys : List A) → AreInOrder R (x ∷ xs) → AreInOrder R (y ∷ ys)
    → IsMember (y ∷ ys) x → IsMember (x ∷ xs) y → x ≡ y
heads_same R one_way x y xs ys a b (inl e) n = sym e
heads_same R one_way x y xs ys a b (inr m) (inl e) = e
heads_same R one_way x y xs ys a b (inr m) (inr n) = absurd (one_way x y (a.0 y n) (b.0 x m))

-- two lists in a one-way order that have the same members are equal
pub order_pins : {A : Type 0} (R : A → A → Type 0) → ((x y : A) → R x y → R y x → ⊥) → (xs ys : List A) → AreInOrder R xs → AreInOrder R ys
    → SameMembers xs ys → xs ≡ ys
order_pins R one_way [] [] a b s = refl
order_pins R one_way [] (y ∷ ys) a b s = absurd (s.right y (inl refl))
order_pins R one_way (x ∷ xs) [] a b s = absurd (s.left x (inl refl))
order_pins R one_way (x ∷ xs) (y ∷ ys) a b s =
    let e = heads_same R one_way x y xs ys a b (s.left x (inl refl)) (s.right y (inl refl)) in
    ap (λ z. z ∷ xs) e ∙ ap (λ zs. y ∷ zs) (order_pins R one_way xs ys a.1 b.1 (tails_same R one_way x y xs ys e a b s))
