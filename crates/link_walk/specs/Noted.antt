-- What code notes of an asking.
use Rattle.std.specs.Prelude.{◌≡◌, List, [], Option, None}
use Rattle.demand_core.specs.Computation.{Asked}
use Rattle.demand_core.specs.Search.{Trail}
use Rattle.demand_core.specs.declared.looks.Fact.{Fact}
use Rattle.demand_core.specs.declared.step.Step.{Step}
use Rattle.demand_core.specs.declared.step.Step.TheVariants.{Done, Waits}
use Rattle.element_store.specs.declared.numbers.ElementNo.{ElementNo}
use Rattle.link_model.specs.declared.keys.LinkKey.{LinkKey}
use Rattle.link_model.specs.declared.keys.LinkFact.{LinkFact}
use Rattle.link_model.specs.Keys.{same_key, same_element}
use Rattle.link_model.specs.Readers.{listed}
use Rattle.link_walk.specs.Marks.{marked_all, same_fact}

-- what is waited on, and what was looked at
pub record Noted : Type 0 where
  pub waits : List LinkKey
  pub looks : List (Fact LinkKey LinkFact)

-- an asking of a lookup
abbrev pub Asks : Type 0 → Type 0
Asks A = Asked LinkKey LinkFact A

-- the trail of a search among elements
abbrev pub LinkTrail : Type 0 → Type 0
LinkTrail B = Trail LinkKey LinkFact ElementNo B

-- these waits and looks are noted, each once
abbrev pub noted : List LinkKey → List (Fact LinkKey LinkFact) → Noted → Noted
noted ks fs n = record { waits = marked_all same_key n.waits ks; looks = marked_all same_fact n.looks fs }

-- a trail with these notes
abbrev pub trail_of : {B : Type 0} → List ElementNo → List B → Noted → LinkTrail B
trail_of nodes found n = record { nodes = nodes; found = found; waits = n.waits; looks = n.looks }

-- the step is done with this, and the looks are noted
pub record Reads {A : Type 0} (a : Asks A) (x : A) (old new : Noted) : Type 0 where
  pub step : a.step ≡ Done x
  pub noted : new ≡ noted [] a.looks old

-- what a step waits on
abbrev pub waits_of : {A : Type 0} → Step LinkKey A → List LinkKey
waits_of (Done x) = []
waits_of (Waits ks) = ks

-- the step is done with what is told; or it waits, and nothing is told
abbrev pub TellsStep : {A : Type 0} → Step LinkKey (List A) → Option A → Type 0
TellsStep (Done xs) x = xs ≡ listed x
TellsStep (Waits ks) x = x ≡ None

-- that, and the waits and looks are noted
pub record Tells {A : Type 0} (a : Asks (List A)) (x : Option A) (old new : Noted) : Type 0 where
  pub step : TellsStep a.step x
  pub noted : new ≡ noted (waits_of a.step) a.looks old

-- what is found on a trail, each once, without the nodes
abbrev pub each_once : LinkTrail ElementNo → LinkTrail ElementNo
each_once t = record t { nodes = []; found = marked_all same_element [] t.found }
