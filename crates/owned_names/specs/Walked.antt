-- The way from an element to the one that names it, step by step.
use Rattle.std.specs.Prelude.{◌≡◌, ℕ, List, [], ◌∷◌, ◌⊎◌, get_or, slice_get, Option, None, Some}
use Rattle.linker_base.specs.Members.{IsMember}
use Rattle.demand_core.specs.Computation.{Asked}
use Rattle.demand_core.specs.declared.looks.Fact.{Fact}
use Rattle.demand_core.specs.declared.step.Step.{Step}
use Rattle.demand_core.specs.declared.step.Step.TheVariants.{Done, Waits}
use Rattle.element_store.specs.declared.numbers.ElementNo.{ElementNo}
use Rattle.element_store.specs.declared.records.Element.{Element}
use Rattle.element_store.specs.declared.models.StoredFile.{StoredFile}
use Rattle.element_store.specs.declared.numbers.FileNo.{FileNo}
use Rattle.element_store.specs.Model.{Data, root_element}
use Rattle.element_store.specs.BaseRules.{StandsIn}
use Rattle.link_model.specs.declared.keys.LinkKey.{LinkKey}
use Rattle.link_model.specs.declared.keys.LinkFact.{LinkFact}
use Rattle.element_store.specs.declared.outcome.Outcome.{Outcome}
use Rattle.link_model.specs.Outside.{model_in}
use Rattle.link_model.specs.Readers.{Lookup, told}
use Rattle.link_model.specs.Names.{declared_names, names_from, effective_hit}
use Rattle.link_model.specs.declared.keys.Hit.{Hit}
use Rattle.link_walk.specs.Calls.{reading}
use Rattle.link_walk.specs.Noted.{Noted}
use Rattle.owned_names.specs.declared.naming.Naming.{Naming}
use Rattle.owned_names.specs.declared.naming.Naming.TheVariants.{Open, Nameless, By}
use Rattle.owned_names.specs.declared.naming.Stride.{Stride}
use Rattle.owned_names.specs.declared.naming.Stride.TheVariants.{Ends, Goes}

-- the first of a list, if there is one
abbrev pub first_in : {A : Type 0} → List A → Option A
first_in [] = None
first_in (x ∷ xs) = Some x

-- the element as it stands in its model
abbrev pub element_in : List StoredFile → ElementNo → Element
element_in files e = get_or (model_in (slice_get files e.file.0)).elements e.index root_element

-- its declared names
abbrev pub own_names : List StoredFile → ElementNo → List (List ℕ)
own_names files e = declared_names (element_in files e).short (element_in files e).name

-- what is asked, where whose names they are is told
abbrev pub Names : Type 0
Names = Asked LinkKey LinkFact (List (List ℕ))

abbrev pub naming_step : List StoredFile → Naming → Step LinkKey (List (List ℕ))
naming_step files (Open r) = Waits (record { 0 = r } ∷ [])
naming_step files Nameless = Done []
naming_step files (By e) = Done (own_names files e)

abbrev pub named_by : List StoredFile → Naming → Names
named_by files naming = record { step = naming_step files naming; looks = [] }

-- what is left after a step from an element on
abbrev pub rest_of : List StoredFile → List (LinkKey × Outcome) → ℕ → List ElementNo → ElementNo → Stride → Names
rest_of files table n walked e (Ends naming) = named_by files naming
rest_of files table n walked e (Goes t) = names_from n (e ∷ walked) t (reading files table)

-- the element whose names they are stands
abbrev pub IsNamingThere : List StoredFile → Naming → Type 0
IsNamingThere files (Open r) = Unit {0}
IsNamingThere files Nameless = Unit {0}
IsNamingThere files (By e) = StandsIn files e

-- where a way goes on an element stands
abbrev pub LeadsOn : List StoredFile → Stride → Type 0
LeadsOn files (Ends naming) = IsNamingThere files naming
LeadsOn files (Goes t) = StandsIn files t

-- Of what is asked this is left: it ends with the same step, and what the rest doesn't look at was noted.
pub record Leaves (old new : Noted) (rest whole : Names) : Type 0 where
  pub step : whole.step ≡ rest.step
  pub waits : new.waits ≡ old.waits
  pub kept : (f : Fact LinkKey LinkFact) → IsMember old.looks f → IsMember new.looks f
  pub shown : (f : Fact LinkKey LinkFact) → IsMember whole.looks f → IsMember new.looks f ⊎ IsMember rest.looks f
  pub only : (f : Fact LinkKey LinkFact) → IsMember new.looks f → IsMember old.looks f ⊎ IsMember whole.looks f
  pub left : (f : Fact LinkKey LinkFact) → IsMember rest.looks f → IsMember whole.looks f

-- what the member of that number gives as an effective name
abbrev pub effective_part : Data → FileNo → List ℕ → ℕ → Lookup (List Hit)
effective_part d f x k = told (slice_get d.members k) (effective_hit x f k)
