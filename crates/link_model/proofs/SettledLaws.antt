-- Where each open reference is refused, no lookup waits.
use Rattle.std.proofs.Common.{◌≡◌, List, [], ◌∷◌, refl, inl}
use Rattle.std.specs.Prelude.{None, Some}
use Rattle.demand_core.specs.Computation.{IsSound}
use Rattle.demand_core.specs.declared.looks.Fact.{Fact}
use Rattle.demand_core.specs.declared.step.Step.{Step}
use Rattle.demand_core.specs.declared.step.Step.TheVariants.{Done, Waits}
use Rattle.link_model.specs.declared.keys.LinkKey.{LinkKey}
use Rattle.link_model.specs.declared.keys.LinkFact.{LinkFact}
use Rattle.link_model.specs.Readers.{Lookup, LinkWorld}
use Rattle.link_model.specs.Settled.{settled}
use Rattle.link_model.proofs.TameLaws.{IsTame}

done_by : {A : Type 0} (w : LinkWorld) (step : Step LinkKey A) (looks : List (Fact LinkKey LinkFact)) → IsSound (settled w).table step looks → (x : A)
    × (step ≡ Done x)
done_by w (Done x) looks h = (x, refl)
done_by w (Waits []) looks h = absurd (h.0 refl)
done_by w (Waits (k ∷ ks)) looks h = let open_there : (settled w).table k ≡ None = (h.1 k (inl refl)).0 in absurd (some_none open_there)
  where
    some_none : {V : Type 0} {v : V} → Some v ≡ None → ⊥
    some_none e = cc

-- a lookup that keeps the laws is done there
pub settled_done : {A : Type 0} (c : Lookup A) → IsTame c → (w : LinkWorld) → (x : A) × ((c (settled w)).step ≡ Done x)
settled_done c r w = done_by w (c (settled w)).step (c (settled w)).looks (r.regular.sound (settled w))
