-- What `sorted_by` gives: the same items in order, and each as often as before.
use Rattle.std.proofs.Common.{◌≡◌, Bool, true, false, cond, List, [], ◌∷◌, refl, sym, ap, subst, inl, inr}
use Rattle.std.specs.Prelude.{map}
use Rattle.std.specs.Cmp.{IsStrictWeakOrder}
use Rattle.linker_base.specs.Members.{IsMember, SameMembers, IsEachOnce}
use Rattle.linker_base.specs.Orders.{AreInOrder}
use Rattle.linker_base.proofs.Cases.{bool_cases}
use Rattle.linker_base.proofs.MemberLaws.{member_map, same_members, same_through}
use Rattle.book_model.specs.Sorting.{put_by, sorted_by}

-- an item stands before the first one, or further on
put_later : {A : Type 0} (before : A → A → Bool) (x y : A) (ys : List A) → before y x ≡ true → y ∷ put_by before x ys ≡ put_by before x (y ∷ ys)
put_later before x y ys e = sym (ap (λ b. cond b (y ∷ put_by before x ys) (x ∷ y ∷ ys)) e)

-- or right before it
put_here : {A : Type 0} (before : A → A → Bool) (x y : A) (ys : List A) → before y x ≡ false → x ∷ y ∷ ys ≡ put_by before x (y ∷ ys)
put_here before x y ys e = sym (ap (λ b. cond b (y ∷ put_by before x ys) (x ∷ y ∷ ys)) e)

-- the members of two lists stay the same when the first two are exchanged
swapped : {A : Type 0} (k j : A) (ns js : List A) → SameMembers ns (k ∷ js) → SameMembers (j ∷ ns) (k ∷ j ∷ js)
swapped k j ns js s = record {
  left = λ x m. elim m [ inl e ↦ inr (inl e) | inr h ↦ elim (s.left x h) [ inl e ↦ inl e | inr g ↦ inr (inr g) ] ];
  right = λ x m. elim m [ inl e ↦ inr (s.right x (inl e)) | inr h ↦ elim h [ inl e ↦ inl e | inr g ↦ inr (s.right x (inr g)) ] ];
}

-- and when one more stands first
one_more : {A : Type 0} (k : A) (ns js : List A) → SameMembers ns js → SameMembers (k ∷ ns) (k ∷ js)
one_more k ns js s = record {
  left = λ x m. elim m [ inl e ↦ inl e | inr h ↦ inr (s.left x h) ];
  right = λ x m. elim m [ inl e ↦ inl e | inr h ↦ inr (s.right x h) ];
}

-- what is told of the items after one more is what is told of it and of those before
pub put_told : {A B : Type 0} (f : A → B) (before : A → A → Bool) (x : A) (ys : List A) → SameMembers (map f (put_by before x ys)) (f x ∷ map f ys)
put_told f before x [] = same_members (f x ∷ [])
put_told f before x (y ∷ ys) = elim (bool_cases (before y x)) [
  | inl later ↦ subst (λ zs. SameMembers (map f zs) (f x ∷ f y ∷ map f ys)) (put_later before x y ys later)
      (swapped (f x) (f y) (map f (put_by before x ys)) (map f ys) (put_told f before x ys))
  | inr here ↦ subst (λ zs. SameMembers (map f zs) (f x ∷ f y ∷ map f ys)) (put_here before x y ys here) (same_members (f x ∷ f y ∷ map f ys))
]

-- and of sorted items what is told of all
pub sorted_told : {A B : Type 0} (f : A → B) (before : A → A → Bool) (xs : List A) → SameMembers (map f (sorted_by before xs)) (map f xs)
sorted_told f before [] = same_members []
sorted_told f before (x ∷ xs) =
    same_through (put_told f before x (sorted_by before xs)) (one_more (f x) (map f (sorted_by before xs)) (map f xs) (sorted_told f before xs))

-- the items after one more are it and those before
put_same : {A : Type 0} (before : A → A → Bool) (x : A) (ys : List A) → SameMembers (put_by before x ys) (x ∷ ys)
put_same before x [] = same_members (x ∷ [])
put_same before x (y ∷ ys) = elim (bool_cases (before y x)) [
  | inl later ↦ subst (λ zs. SameMembers zs (x ∷ y ∷ ys)) (put_later before x y ys later) (swapped x y (put_by before x ys) ys (put_same before x ys))
  | inr here ↦ subst (λ zs. SameMembers zs (x ∷ y ∷ ys)) (put_here before x y ys here) (same_members (x ∷ y ∷ ys))
]

-- sorted items are the same items
pub sorted_same : {A : Type 0} (before : A → A → Bool) (xs : List A) → SameMembers (sorted_by before xs) xs
sorted_same before [] = same_members []
sorted_same before (x ∷ xs) = same_through (put_same before x (sorted_by before xs)) (one_more x (sorted_by before xs) xs (sorted_same before xs))

-- what is told of each stays told once
put_once : {A B : Type 0} (f : A → B) (before : A → A → Bool) (x : A) (ys : List A) → IsEachOnce (map f ys) → (IsMember (map f ys) (f x) → ⊥)
    → IsEachOnce (map f (put_by before x ys))
put_once f before x [] o new = (λ m. m, tt)
put_once f before x (y ∷ ys) o new = elim (bool_cases (before y x)) [
  | inl later ↦ subst (λ zs. IsEachOnce (map f zs)) (put_later before x y ys later) (
    λ m. elim ((put_told f before x ys).left (f y) m) [ inl e ↦ new (inl (sym e)) | inr h ↦ o.0 h ],
    put_once f before x ys o.1 (λ m. new (inr m)),
  )
  | inr here ↦ subst (λ zs. IsEachOnce (map f zs)) (put_here before x y ys here) (new, o)
]

-- so sorting tells each once
pub sorted_once : {A B : Type 0} (f : A → B) (before : A → A → Bool) (xs : List A) → IsEachOnce (map f xs) → IsEachOnce (map f (sorted_by before xs))
sorted_once f before [] o = tt
sorted_once f before (x ∷ xs) o = put_once f before x (sorted_by before xs) (sorted_once f before xs o.1) (λ m. o.0 ((sorted_told f before xs).left (f x) m))

-- no item stands before one that is listed before it
put_order : {A : Type 0} (before : A → A → Bool) → IsStrictWeakOrder before → (x : A) (ys : List A) → AreInOrder (λ a b. before b a ≡ false) ys
    → AreInOrder (λ a b. before b a ≡ false) (put_by before x ys)
put_order before law x [] o = (λ y m. absurd m, tt)
put_order before law x (y ∷ ys) o = elim (bool_cases (before y x)) [
  | inl later ↦ subst (AreInOrder (λ a b. before b a ≡ false)) (put_later before x y ys later) (
    λ z m. elim ((put_same before x ys).left z m) [ inl e ↦ subst (λ w. before w y ≡ false) e (law.one_way y x later) | inr h ↦ o.0 z h ],
    put_order before law x ys o.1,
  )
  | inr here ↦ subst (AreInOrder (λ a b. before b a ≡ false)) (put_here before x y ys here) (
    λ z m. elim m [ inl e ↦ subst (λ w. before w x ≡ false) e here | inr h ↦ law.chain z y x (o.0 z h) here ],
    o,
  )
]

-- sorted items are in order
pub sorted_order : {A : Type 0} (before : A → A → Bool) → IsStrictWeakOrder before → (xs : List A)
    → AreInOrder (λ a b. before b a ≡ false) (sorted_by before xs)
sorted_order before law [] = tt
sorted_order before law (x ∷ xs) = put_order before law x (sorted_by before xs) (sorted_order before law xs)

-- an order of items that are told apart by f is a sharper one, if that follows for two
pub sharper : {A B : Type 0} (f : A → B) (R S : A → A → Type 0) (xs : List A) → ((x y : A) → R x y → (f x ≡ f y → ⊥) → S x y)
    → IsEachOnce (map f xs) → AreInOrder R xs → AreInOrder S xs
sharper f R S [] sharp once o = tt
sharper f R S (x ∷ xs) sharp once o = (
  λ y m. sharp x y (o.0 y m) (λ e. once.0 (subst (IsMember (map f xs)) (sym e) (member_map f xs y m))),
  sharper f R S xs sharp once.1 o.1,
)

-- an order goes over to what is told of the items
pub order_told : {A B : Type 0} (f : A → B) (R : A → A → Type 0) (S : B → B → Type 0) (xs : List A)
    → ((x y : A) → IsMember xs x → IsMember xs y → R x y → S (f x) (f y)) → AreInOrder R xs → AreInOrder S (map f xs)
order_told f R S [] over o = tt
order_told f R S (x ∷ xs) over o = (
  told_below f R S x xs (λ y m. over x y (inl refl) (inr m)) o.0,
  order_told f R S xs
      (λ a b m n. over a b (inr m) (inr n)) o.1,
) where
  told_below : {A B : Type 0} (f : A → B) (R : A → A → Type 0) (S : B → B → Type 0) (x : A) (ys : List A) → ((y : A) → IsMember ys y → R x y → S (f x) (f y))
      → ((y : A) → IsMember ys y → R x y) → (z : B) → IsMember (map f ys) z → S (f x) z
  told_below f R S x [] over o z m = absurd m
  told_below f R S x (y ∷ ys) over o z (inl e) = subst (S (f x)) e (over y (inl refl) (o y (inl refl)))
  told_below f R S x (y ∷ ys) over o z (inr m) = told_below f R S x ys (λ w h. over w (inr h)) (λ w h. o w (inr h)) z m
