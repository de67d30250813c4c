-- Lists under tests, and places in lists.
use Rattle.std.proofs.Common.{◌≡◌, ℕ, zero, suc, Bool, true, false, List, [], ◌∷◌, refl, ap, subst, inl, inr, ◌⊎◌}
use Rattle.std.specs.Prelude.{Some, slice_get, ◌||◌, not}
use Rattle.std.specs.List.{list_all}
use Rattle.linker_base.proofs.Cases.{both_true, and_true}

-- one of two tests holds
pub or_true : (a b : Bool) → (a || b) ≡ true → (a ≡ true) ⊎ (b ≡ true)
or_true true b e = inl refl
or_true false b e = inr e

pub or_left : (a b : Bool) → a ≡ true → (a || b) ≡ true
or_left a b e = ap (λ x. x || b) e

pub or_right : (a b : Bool) → b ≡ true → (a || b) ≡ true
or_right true b e = refl
or_right false b e = e

-- a test holds wherever another does
pub where_true : (a b : Bool) → (not a || b) ≡ true → a ≡ true → b ≡ true
where_true true b e h = e
where_true false b e h = absurd (cc)

pub true_where : (a b : Bool) → (a ≡ true → b ≡ true) → (not a || b) ≡ true
true_where true b f = f refl
true_where false b f = refl

-- a test that all pass is a fact of each place
pub all_places : {A : Type 0} (test : A → Bool) (P : A → Type 0) → ((x : A) → test x ≡ true → P x) → (xs : List A) → list_all test xs ≡ true
    → (i : ℕ) (x : A) → slice_get xs i ≡ Some x → P x
all_places test P f [] e i x g = absurd (cc)
all_places test P f (y ∷ ys) e zero x g = let same : y ≡ x = cc in subst P same (f y (both_true (test y) (list_all test ys) e).0)
all_places test P f (y ∷ ys) e (suc i) x g = all_places test P f ys (both_true (test y) (list_all test ys) e).1 i x g

-- a fact of each place is a test that all pass
pub places_all : {A : Type 0} (test : A → Bool) (xs : List A) → ((i : ℕ) (x : A) → slice_get xs i ≡ Some x → test x ≡ true) → list_all test xs ≡ true
places_all test [] f = refl
places_all test (y ∷ ys) f = and_true (test y) (list_all test ys) (f 0 y refl) (places_all test ys (λ i x g. f (suc i) x g))
