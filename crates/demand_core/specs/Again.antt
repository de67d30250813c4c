-- What settles again after a change: the rules change with some facts, what looked at these is forgotten, and the rest
-- stands.
use Rattle.std.specs.Prelude.{◌≡◌, Bool, List, ◌⊎◌}
use Rattle.linker_base.specs.Members.{IsMember}
use Rattle.demand_core.specs.EngineState.{EngineState}
use Rattle.demand_core.specs.Forgotten.{IsStale, AreStale, IsWithout}
use Rattle.demand_core.specs.Least.{least, HoldsLeast}
use Rattle.demand_core.specs.Rules.{Meaning, AgreeAt, AllFit}
use Rattle.demand_core.specs.Settled.{HasLooks, CanSettle}
use Rattle.demand_core.specs.Tables.{Decided, entry_of}
use Rattle.demand_core.specs.declared.looks.Fact.{Fact}
use Rattle.demand_core.specs.declared.looks.Fact.TheVariants.{Key}

-- the engine holds the least table of these rules, each cyclic key with its kept key, and what each key looks at over
-- it
pub record HoldsAll {K V F : Type 0} (eq : K → K → Bool) (m : Meaning K V F) (e : EngineState K V F) : Type 0 where
  pub least_held : HoldsLeast eq m e
  pub looks : (k : K) → IsMember m.keys k → HasLooks eq m e k

-- The rules m became n with these facts. A key that looked at none of them is answered by n, over a table that agrees
-- at what it looked at, as by m over its least table. Keys look at keys of the rules alone, and what is no key any more
-- is gone.
pub record Changes {K V F : Type 0} (eq : K → K → Bool) (m n : Meaning K V F) (facts : List (Fact K F)) (gone : List K)
    : Type 0 where
  pub alike : (k : K) → IsMember m.keys k → IsMember n.keys k
      → ((f : Fact K F) → IsMember facts f → IsMember (m.looked (least eq m) k) f → ⊥)
      → (t : Decided K V) → AllFit n.fits t → AgreeAt (m.looked (least eq m) k) (least eq m) t
      → (n.answer t k ≡ m.answer (least eq m) k) × (n.looked t k ≡ m.looked (least eq m) k)
  pub keyed : (k q : K) → IsMember m.keys k → IsMember (m.looked (least eq m) k) (Key q) → IsMember m.keys q
  pub removed : (k : K) → IsMember m.keys k → (IsMember n.keys k → ⊥) → IsMember gone k

-- the keys of n that are gone or weren't keys of m
pub record AreFresh {K V F : Type 0} (m n : Meaning K V F) (gone fresh : List K) : Type 0 where
  pub keys : (k : K) → IsMember fresh k → IsMember n.keys k
  pub lost : (k : K) → IsMember fresh k → IsMember gone k ⊎ (IsMember m.keys k → ⊥)
  pub all : (k : K) → IsMember n.keys k → IsMember gone k ⊎ (IsMember m.keys k → ⊥) → IsMember fresh k

-- gone are exactly the stale keys of e, and e2 is e without them
pub record HasForgotten {K V F : Type 0} (eq : K → K → Bool) (facts : List (Fact K F)) (gone : List K)
    (e e2 : EngineState K V F) : Type 0 where
  pub stale : AreStale (entry_of eq e.looks) facts gone
  pub all : (k : K) → IsStale (entry_of eq e.looks) facts k → IsMember gone k
  pub without : IsWithout eq e e2 gone

-- where an engine held all of m, and forgot what looked at the facts with which the rules changed, the fresh keys may
-- be settled
abbrev pub MaySettleAgain : {K V F : Type 0} → (K → K → Bool) → Meaning K V F → Meaning K V F → Type 0
MaySettleAgain {K} {V} {F} eq m n = (facts : List (Fact K F)) (gone fresh : List K) (e e2 : EngineState K V F)
    → HoldsAll eq m e → Changes eq m n facts gone → HasForgotten eq facts gone e e2 → AreFresh m n gone fresh
    → CanSettle eq n fresh e2
