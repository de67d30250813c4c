-- What code knows of what the features of types redefine.
use Rattle.std.specs.Prelude.{◌≡◌, true, false, List, []}
use Rattle.linker_base.specs.Members.{IsMember}
use Rattle.demand_core.specs.Rules.{WaitsOn}
use Rattle.demand_core.specs.Search.{Has, IsAsked}
use Rattle.element_store.specs.BaseRules.{StandsIn}
use Rattle.element_store.specs.declared.numbers.ElementNo.{ElementNo}
use Rattle.element_store.specs.declared.models.StoredFile.{StoredFile}
use Rattle.link_model.specs.declared.keys.LinkKey.{LinkKey}
use Rattle.link_model.specs.Outside.{Library, library_of}
use Rattle.link_model.specs.Readers.{Lookup, LinkWorld}
use Rattle.link_model.specs.Settled.{answers_of}
use Rattle.link_model.specs.Inheritance.{Redefines, all_redefined}
use Rattle.link_walk.specs.Calls.{files_of, read_by}
use Rattle.link_walk.specs.Noted.{LinkTrail, Noted}
use Rattle.feature_facts.specs.Stages.{facts_asked}
use Rattle.feature_facts.specs.declared.facts.Redefiner.{Redefiner}
use Rattle.feature_facts.specs.declared.facts.Direct.{Direct}
use Rattle.feature_facts.specs.declared.facts.Facts.{Facts}
use Rattle.feature_facts.specs.declared.heir.Heir.{Heir}

-- what is read for a type that inherits, and its files
abbrev pub world_of : Heir → LinkWorld
world_of h = read_by h.view.now

abbrev pub files_for : Heir → List StoredFile
files_for h = files_of h.view.now

abbrev pub library_for : Heir → Library
library_for h = library_of (files_for h)

-- the feature stands
abbrev pub StandsBy : List StoredFile → Redefiner → Type 0
StandsBy files r = StandsIn files r.feature

-- code's notes, with the definition's own list
abbrev pub answered : {B : Type 0} → Lookup (List B) → LinkWorld → Noted → LinkTrail B
answered c w n = record { nodes = []; found = answers_of (c w).step; waits = n.waits; looks = n.looks }

-- the notes are those of the asking
abbrev pub HasAnswer : {B : Type 0} → Lookup (List B) → LinkWorld → Noted → Type 0
HasAnswer c w n = IsAsked (answered c w n) (c w)

-- The definition's list of what the features redefine, read off code's lists: each direct redefinition is among the
-- directs; what is redefined on the way is what the searches from the features find. None of these waits.
pub record KnownBy (w : LinkWorld) (rs : List Redefines) (f : Facts) : Type 0 where
  pub direct_in : (d : Direct) → IsMember f.directs d → (r : Redefines) × IsMember rs r × (r.direct ≡ true)
      × (r.owner ≡ d.by.owner) × (r.redefined ≡ d.redefined)
  pub direct_out : (r : Redefines) → IsMember rs r → r.direct ≡ true → (d : Direct) × IsMember f.directs d
      × (r.owner ≡ d.by.owner) × (r.redefined ≡ d.redefined)
  pub far_in : (q : Redefiner) (g : ElementNo) → IsMember f.redefiners q → Has (all_redefined q.feature w).step g
      → (r : Redefines) × IsMember rs r × (r.direct ≡ false) × (r.owner ≡ q.owner) × (r.feature ≡ q.feature)
      × (r.hidden ≡ q.hidden) × (r.redefined ≡ g)
  pub far_out : (r : Redefines) → IsMember rs r → r.direct ≡ false → (q : Redefiner) × IsMember f.redefiners q
      × (r.owner ≡ q.owner) × (r.feature ≡ q.feature) × (r.hidden ≡ q.hidden)
      × Has (all_redefined q.feature w).step r.redefined
  pub sure : (d : Direct) → IsMember f.directs d → IsMember f.redefiners d.by
      × Has (all_redefined d.by.feature w).step d.redefined
  pub quiet : (q : Redefiner) (k : LinkKey) → IsMember f.redefiners q → WaitsOn (all_redefined q.feature w).step k → ⊥

-- THE FACTS of stage three for an heir and the types that it reaches
pub record AreFacts (h : Heir) (us : List ElementNo) (f : Facts) : Type 0 where
  pub asked : HasAnswer (facts_asked h.raw h.of us) (world_of h) f.notes
  pub stand : (r : Redefiner) → IsMember f.redefiners r → StandsBy (files_for h) r
  pub known : f.notes.waits ≡ [] → KnownBy (world_of h) (answers_of (facts_asked h.raw h.of us (world_of h)).step) f
