-- Lists seen as sets.
use Rattle.std.specs.Prelude.{◌≡◌, Bool, true, List, [], ◌∷◌, ◌++◌, ◌⊎◌}

-- x is among xs
abbrev pub IsMember : {A : Type 0} → List A → A → Type 0
IsMember [] x = ⊥
IsMember (y ∷ ys) x = (y ≡ x) ⊎ IsMember ys x

-- the two lists have the same members, in whatever order and however often
pub record SameMembers {A : Type 0} (xs ys : List A) : Type 0 where
  pub left : (x : A) → IsMember xs x → IsMember ys x
  pub right : (x : A) → IsMember ys x → IsMember xs x

-- new is old, and then these members, in some order and some maybe more than once
pub record Adds {A : Type 0} (old new members : List A) : Type 0 where
  pub added : List A
  pub whole : new ≡ old ++ added
  pub same : SameMembers added members

-- no member comes twice
abbrev pub IsEachOnce : {A : Type 0} → List A → Type 0
IsEachOnce [] = Unit {0}
IsEachOnce (x ∷ xs) = (IsMember xs x → ⊥) × IsEachOnce xs

-- a test of equality that is true between a value and itself, and at nothing else
pub record IsExact {A : Type 0} (same : A → A → Bool) : Type 0 where
  pub exact : (x y : A) → same x y ≡ true → x ≡ y
  pub itself : (x : A) → same x x ≡ true
