-- Lookups once no link is to come any more: what is open counts as refused.
use Rattle.std.specs.Prelude.{Bool, cond, map, get_or, List, [], ◌∷◌, Option, None, Some}
use Rattle.std.specs.Option.{option_map_or}
use Rattle.element_store.specs.declared.numbers.ElementNo.{ElementNo}
use Rattle.element_store.specs.declared.outcome.Outcome.TheVariants.{Absent}
use Rattle.element_store.specs.Model.{root_element}
use Rattle.demand_core.specs.Computation.{done, ◌>>=◌}
use Rattle.demand_core.specs.Gather.{follow}
use Rattle.demand_core.specs.declared.step.Step.{Step}
use Rattle.demand_core.specs.declared.step.Step.TheVariants.{Done, Waits}
use Rattle.link_model.specs.declared.keys.LinkKey.{LinkKey}
use Rattle.link_model.specs.declared.keys.LinkFact.TheVariants.{File}
use Rattle.link_model.specs.Keys.{same_element, is_in}
use Rattle.link_model.specs.Outside.{Library, model_in}
use Rattle.link_model.specs.Readers.{Lookup, LinkWorld, most, references_as}
use Rattle.link_model.specs.Inheritance.{is_specialisation, Link, general, base, generals, all_redefined}
use Rattle.link_model.specs.Inheritance.Link.{ByReference}

-- the same world, where each open reference is refused
abbrev pub settled : LinkWorld → LinkWorld
settled w = record { table = λ k. Some (option_map_or (λ o. o) (w.table k) (Absent 1)); outer = w.outer }

abbrev pub answers_of : {A : Type 0} → Step LinkKey (List A) → List A
answers_of (Done xs) = xs
answers_of (Waits ks) = []

-- what a lookup answers there: it never waits
abbrev pub in_settled : {A : Type 0} → Lookup (List A) → LinkWorld → List A
in_settled c w = answers_of (c (settled w)).step

abbrev pub settled_redefined : ElementNo → LinkWorld → List ElementNo
settled_redefined f = in_settled (all_redefined f)

-- the links to the explicit generals of t, without its base
abbrev pub explicit_links : ElementNo → Lookup (List Link)
explicit_links t = references_as is_specialisation t >>= λ rs. done (map ByReference rs)

-- SPECIALISES. A chain of explicit generals leads from t to b.
abbrev pub specialises : ElementNo → ElementNo → LinkWorld → Bool
specialises t b w = is_in b (in_settled (follow same_element explicit_links general most t) w)

module _ (lib : Library) where
  abbrev pub settled_generals : ElementNo → LinkWorld → List ElementNo
  settled_generals t = in_settled (generals lib t)

  -- the base of t as an implied specialisation: another element, to which no chain of explicit generals leads
  abbrev pub implied_from : ElementNo → LinkWorld → Option ElementNo → List ElementNo
  implied_from t w None = []
  implied_from t w (Some b) = cond (same_element b t) [] (cond (specialises t b w) [] (b ∷ []))

  abbrev pub implied : ElementNo → LinkWorld → List ElementNo
  implied t w = let d = model_in (w.outer (File t.file)) in
      implied_from t w (base lib d t (get_or d.elements t.index root_element))
