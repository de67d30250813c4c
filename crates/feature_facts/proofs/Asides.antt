-- The waits and looks of askings, whatever they answer.
use Rattle.std.proofs.Common.{◌≡◌, Bool, true, false, cond, List, [], ◌∷◌, map, refl, sym, subst, inl, inr}
use Rattle.std.specs.Prelude.{◌⊎◌, Option, Some, slice_get}
use Rattle.linker_base.specs.Members.{IsMember}
use Rattle.demand_core.specs.Rules.{WaitsOn}
use Rattle.demand_core.specs.Computation.{Asked, done, ◌>>=◌, join, joined}
use Rattle.demand_core.specs.Search.{Part, Finds, Awaits, LooksAt, Has, MayHave, Shows, Admits, Aside}
use Rattle.demand_core.specs.declared.step.Step.{Step}
use Rattle.demand_core.specs.declared.step.Step.TheVariants.{Done, Waits}
use Rattle.demand_core.proofs.PartLaws.{shows_join, shows_joined, shows_then, admits_left, admits_right, admits_joined, admits_first, admits_then}
use Rattle.link_model.specs.declared.keys.LinkKey.{LinkKey}
use Rattle.link_model.specs.declared.keys.LinkFact.{LinkFact}
use Rattle.link_model.specs.Readers.{Lookup, LinkWorld}

module _ {B : Type 0} (w : LinkWorld) where
  pub nothing_aside : {C : Type 0} (y : C) (x : Part LinkKey LinkFact B) → Aside (done y w) x → ⊥
  nothing_aside y (Finds z) h = h
  nothing_aside y (Awaits k) h = h
  nothing_aside y (LooksAt f) h = h

  pub aside_joined : {A C : Type 0} (f : A → Lookup (List C)) (xs : List A) (x : Part LinkKey LinkFact B) → Aside (joined f xs w) x
      → (a : A) × IsMember xs a × Aside (f a w) x
  aside_joined f xs (Finds y) h = absurd h
  aside_joined f xs (Awaits k) h = shows_joined w f xs (Awaits k) h
  aside_joined f xs (LooksAt g) h = shows_joined w f xs (LooksAt g) h

  pub joined_aside : {A C : Type 0} (f : A → Lookup (List C)) (xs : List A) (a : A) (x : Part LinkKey LinkFact B) → IsMember xs a → Aside (f a w) x
      → Aside (joined f xs w) x
  joined_aside f xs a (Finds y) m h = absurd h
  joined_aside f xs a (Awaits k) m h = admits_joined w f xs a (Awaits k) m h
  joined_aside f xs a (LooksAt g) m h = admits_joined w f xs a (LooksAt g) m h

  pub aside_join : {C : Type 0} (c d : Lookup (List C)) (x : Part LinkKey LinkFact B) → Aside (join c d w) x → Aside (c w) x ⊎ Aside (d w) x
  aside_join c d (Finds y) h = absurd h
  aside_join c d (Awaits k) h = shows_join w c d (Awaits k) h
  aside_join c d (LooksAt g) h = shows_join w c d (LooksAt g) h

  pub left_aside : {C : Type 0} (c d : Lookup (List C)) (x : Part LinkKey LinkFact B) → Aside (c w) x → Aside (join c d w) x
  left_aside c d (Finds y) h = absurd h
  left_aside c d (Awaits k) h = admits_left w c d (Awaits k) h
  left_aside c d (LooksAt g) h = admits_left w c d (LooksAt g) h

  pub right_aside : {C : Type 0} (c d : Lookup (List C)) (x : Part LinkKey LinkFact B) → Aside (d w) x → Aside (join c d w) x
  right_aside c d (Finds y) h = absurd h
  right_aside c d (Awaits k) h = admits_right w c d (Awaits k) h
  right_aside c d (LooksAt g) h = admits_right w c d (LooksAt g) h

  pub aside_then : {A C : Type 0} (c : Lookup A) (f : A → Lookup (List C)) (x : Part LinkKey LinkFact B) → Aside ((c >>= f) w) x
      → Aside (c w) x ⊎ ((y : A) × ((c w).step ≡ Done y) × Aside (f y w) x)
  aside_then c f (Finds y) h = absurd h
  aside_then c f (Awaits k) h = shows_then w c f (Awaits k) h
  aside_then c f (LooksAt g) h = shows_then w c f (LooksAt g) h

  pub first_aside : {A C : Type 0} (c : Lookup A) (f : A → Lookup (List C)) (x : Part LinkKey LinkFact B) → Aside (c w) x → Aside ((c >>= f) w) x
  first_aside c f (Finds y) h = absurd h
  first_aside c f (Awaits k) h = admits_first w c f (Awaits k) h
  first_aside c f (LooksAt g) h = admits_first w c f (LooksAt g) h

  pub second_aside : {A C : Type 0} (c : Lookup A) (f : A → Lookup (List C)) (y : A) (x : Part LinkKey LinkFact B) → (c w).step ≡ Done y → Aside (f y w) x
      → Aside ((c >>= f) w) x
  second_aside c f y (Finds z) e h = absurd h
  second_aside c f y (Awaits k) e h = admits_then w c f y (Awaits k) e h
  second_aside c f y (LooksAt g) e h = admits_then w c f y (LooksAt g) e h

  -- under names
  pub aside_map : {A C : Type 0} (c : Lookup (List A)) (f : A → C) (x : Part LinkKey LinkFact B) → Aside ((c >>= λ xs. done (map f xs)) w) x → Aside (c w) x
  aside_map c f x h = elim (aside_then c (λ xs. done (map f xs)) x h) [ inl a ↦ a | inr b ↦ absurd (nothing_aside (map f b.0) x b.2) ]

-- where a stage is done, what it may have it has
pub may_has : {C : Type 0} (step : Step LinkKey (List C)) (ys : List C) (y : C) → step ≡ Done ys → MayHave step y → Has step y
may_has (Done xs) ys y e m = m
may_has (Waits ks) ys y e m = cc

pub done_of : {C : Type 0} (x y : C) (step : Step LinkKey C) → step ≡ Done x → step ≡ Done y → x ≡ y
done_of x y step e d = cc
