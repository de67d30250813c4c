-- What the features of types redefine, piece by piece, each for a function of code.
use Rattle.std.specs.Prelude.{ℕ, Bool, cond, ◌&&◌, List, [], ◌∷◌, map, slice_get}
use Rattle.demand_core.specs.Computation.{done, ◌>>=◌, joined}
use Rattle.element_store.specs.declared.numbers.ElementNo.{ElementNo}
use Rattle.element_store.specs.declared.records.Member.{Member}
use Rattle.element_store.specs.declared.records.Target.{Target}
use Rattle.element_store.specs.declared.records.Target.TheVariants.{Owned, Alias}
use Rattle.element_store.specs.Model.{Data}
use Rattle.element_store.specs.Readings.{redefining_of}
use Rattle.link_model.specs.Keys.{same_element}
use Rattle.link_model.specs.Outside.{is_private}
use Rattle.link_model.specs.Readers.{Lookup, told, model}
use Rattle.link_model.specs.Names.{hit}
use Rattle.link_model.specs.Inheritance as inheritance
use Rattle.link_model.specs.Inheritance.{Redefines, redefiners}
use Rattle.inheritance.specs.Sights.{direct_targets}
use Rattle.feature_facts.specs.declared.heir.Candidate.{Candidate}
use Rattle.feature_facts.specs.declared.facts.Redefiner.{Redefiner}
use Rattle.feature_facts.specs.declared.facts.Direct.{Direct}

-- what is told of the member of that number
abbrev pub told_of : {A : Type 0} → Data → (ℕ → Member → Lookup (List A)) → ℕ → Lookup (List A)
told_of d f k = told (slice_get d.members k) (f k)

abbrev pub as_candidate : Candidate → inheritance.Candidate
as_candidate c = record { owner = c.owner; hit = c.hit }

-- the feature that a member of u owns
abbrev pub feature_at : ElementNo → ℕ → ElementNo
feature_at u e = record { file = u.file; index = e }

abbrev pub owned_redefiner : ElementNo → Bool → Target → Lookup (List Redefiner)
owned_redefiner u hidden (Owned e) = done (record { owner = u; feature = feature_at u e; hidden = hidden } ∷ [])
owned_redefiner u hidden (Alias r) = done []

abbrev pub own_redefiner : ElementNo → ℕ → Member → Lookup (List Redefiner)
own_redefiner u k m = owned_redefiner u (is_private m.visibility) m.target

-- the features of u that have a redefinition; with `raw` those of t are left out
abbrev pub redefiners_of : Bool → ElementNo → ElementNo → Lookup (List Redefiner)
redefiners_of raw t u = cond (raw && same_element u t) (done [])
    (model u.file >>= λ d. joined (told_of d (own_redefiner u)) (redefining_of d u.index))

-- what a feature redefines directly
abbrev pub direct_by : Redefiner → ElementNo → Direct
direct_by r g = record { by = r; redefined = g }

abbrev pub directs_of : Redefiner → Lookup (List Direct)
directs_of r = direct_targets r.feature >>= λ gs. done (map (direct_by r) gs)

-- the features themselves
abbrev pub features_in : List Redefiner → List ElementNo
features_in qs = map (λ (q : Redefiner). q.feature) qs

-- STAGE THREE, first part: what the features of t and of the types us redefine
unfoldable pub facts_asked : Bool → ElementNo → List ElementNo → Lookup (List Redefines)
facts_asked raw t us = joined (redefiners raw t) (t ∷ us)
