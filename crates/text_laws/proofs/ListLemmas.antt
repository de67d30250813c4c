-- Lists with one item changed, or with one more.
use Rattle.std.proofs.Common.{◌≡◌, ℕ, zero, suc, ◌+◌, ◌<◌, ◌≤◌, List, [], ◌∷◌, ◌++◌, length, refl, ap, sym, subst, ◌∙◌, arith, append_assoc}
use Rattle.std.specs.Prelude.{map, slice_get, Some}
use Rattle.text_model.specs.declared.draft.DraftNode.{DraftNode}
use Rattle.text_model.specs.Drafts.{adjusted, name_in, names}
use Rattle.text_laws.specs.Coherent.{EachFrom}

-- as many items as before
pub length-adjusted : {A : Type 0} (c : ℕ) (f : A → A) (xs : List A) → length (adjusted c f xs) ≡ length xs
length-adjusted c f [] = refl
length-adjusted zero f (x ∷ xs) = refl
length-adjusted (suc c) f (x ∷ xs) = ap suc (length-adjusted c f xs)

-- what the change keeps
pub map-adjusted_same : {A B : Type 0} (g : A → B) (c : ℕ) (f : A → A) (xs : List A) → ((x : A) → g (f x) ≡ g x) → map g (adjusted c f xs) ≡ map g xs
map-adjusted_same g c f [] same = refl
map-adjusted_same g zero f (x ∷ xs) same = ap (λ y. y ∷ map g xs) (same x)
map-adjusted_same g (suc c) f (x ∷ xs) same = ap (λ ys. g x ∷ ys) (map-adjusted_same g c f xs same)

-- and what it changes alike
pub map-adjusted : {A B : Type 0} (g : A → B) (h : B → B) (c : ℕ) (f : A → A) (xs : List A) → ((x : A) → g (f x) ≡ h (g x))
    → map g (adjusted c f xs) ≡ adjusted c h (map g xs)
map-adjusted g h c f [] same = refl
map-adjusted g h zero f (x ∷ xs) same = ap (λ y. y ∷ map g xs) (same x)
map-adjusted g h (suc c) f (x ∷ xs) same = ap (λ ys. g x ∷ ys) (map-adjusted g h c f xs same)

-- from one number on, what holds in the one sense holds in the other
pub each_above : {A : Type 0} (P Q : ℕ → A → Type 0) (n : ℕ) (xs : List A) → ((e : ℕ) (x : A) → n ≤ e → P e x → Q e x) → EachFrom P n xs → EachFrom Q n xs
each_above P Q n [] on each = tt
each_above P Q n (x ∷ xs) on each = (on n x (omega arith) each.0, each_above P Q (suc n) xs (λ e y above p. on e y (omega (arith, above)) p) each.1)

-- one item, the t-th where the first is the n-th, is changed
pub each_adjusted : {A : Type 0} (P Q : ℕ → A → Type 0) (f : A → A) (t n c : ℕ) (xs : List A) → t ≡ n + c
    → ((e : ℕ) (x : A) → (e ≡ t → ⊥) → P e x → Q e x) → ((x : A) → slice_get xs c ≡ Some x → P t x → Q t (f x)) → EachFrom P n xs
    → EachFrom Q n (adjusted c f xs)
each_adjusted P Q f t n c [] is other this each = tt
each_adjusted P Q f t n zero (x ∷ xs) is other this each =
    let same : t ≡ n = omega (arith, is) in (
      subst (λ k. Q k (f x)) same (this x refl (subst (λ k. P k x) (sym same) each.0)),
      each_above P Q (suc n) xs (λ e y above p. other e y (λ at. omega (arith, above, at, same)) p) each.1,
    )
each_adjusted P Q f t n (suc c) (x ∷ xs) is other this each = (
  other n x (λ at. omega (arith, is, at)) each.0,
  each_adjusted P Q f t (suc n) c xs (omega (arith, is)) other this each.1,
)

-- one more at the end
pub each_push : {A : Type 0} (P : ℕ → A → Type 0) (t n : ℕ) (xs : List A) (x : A) → t ≡ n + length xs → EachFrom P n xs → P t x → EachFrom P n (xs ++ x ∷ [])
each_push P t n [] x is each p = let same : t ≡ n = omega (arith, is) in (subst (λ k. P k x) same p, tt)
each_push P t n (y ∷ ys) x is each p = (each.0, each_push P t (suc n) ys x (omega (arith, is)) each.1 p)

-- an item before the end stays where it is
pub get_front : {A : Type 0} (xs ys : List A) (i : ℕ) → i < length xs → slice_get (xs ++ ys) i ≡ slice_get xs i
get_front [] ys i below = absurd (omega (arith, below))
get_front (x ∷ xs) ys zero below = refl
get_front (x ∷ xs) ys (suc i) below = get_front xs ys i (omega (arith, below))

-- the last is found at the length of the others
pub get_last : {A : Type 0} (xs : List A) (x : A) → slice_get (xs ++ x ∷ []) (length xs) ≡ Some x
get_last [] x = refl
get_last (y ∷ ys) x = get_last ys x

-- the names of two lists of nodes, one after the other
pub names-append : (ns ms : List DraftNode) → names (ns ++ ms) ≡ names ns ++ names ms
names-append [] ms = refl
names-append (x ∷ ns) ms = ap (λ ps. name_in x.what ++ ps) (names-append ns ms) ∙ sym (append_assoc (name_in x.what) (names ns) (names ms))
