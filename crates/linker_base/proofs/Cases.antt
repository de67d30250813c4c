-- A value taken by cases, with the equation that says which case it is.
use Rattle.std.proofs.Common.{◌≡◌, Bool, true, false, refl, inl, inr}
use Rattle.std.specs.Prelude.{Option, None, Some, Result, Ok, Err, ◌⊎◌, ◌&&◌}

-- a Bool is true or false
pub bool_cases : (b : Bool) → (b ≡ true) ⊎ (b ≡ false)
bool_cases true = inl refl
bool_cases false = inr refl

-- an Option is None or Some
pub option_cases : {V : Type 0} (o : Option V) → (o ≡ None) ⊎ ((v : V) × (o ≡ Some v))
option_cases None = inl refl
option_cases (Some v) = inr (v, refl)

-- a Result is Ok or Err
pub result_cases : {T E : Type 0} (r : Result T E) → ((t : T) × (r ≡ Ok t)) ⊎ ((e : E) × (r ≡ Err e))
result_cases (Ok t) = inl (t, refl)
result_cases (Err e) = inr (e, refl)

-- equal answers are equal inside
pub some_same : {V : Type 0} (v w : V) → Some v ≡ Some w → v ≡ w
some_same v w e = cc

-- a conjunction that is true has two true parts
pub both_true : (a b : Bool) → (a && b) ≡ true → (a ≡ true) × (b ≡ true)
both_true true b e = (refl, e)
both_true false b e = absurd (cc)

-- two true parts make a true conjunction
pub and_true : (a b : Bool) → a ≡ true → b ≡ true → (a && b) ≡ true
and_true true b p q = q
and_true false b p q = p
