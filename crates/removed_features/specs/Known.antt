-- What code knows of what is removed, and of the features that are seen.
use Rattle.std.specs.Prelude.{◌≡◌, Bool, true, false, not, ◌&&◌, List, [], ◌∷◌, map, get_or, slice_get}
use Rattle.linker_base.specs.Members.{IsMember}
use Rattle.demand_core.specs.Rules.{WaitsOn}
use Rattle.demand_core.specs.Search.{Has}
use Rattle.demand_core.specs.declared.step.Step.TheVariants.{Done}
use Rattle.element_store.specs.BaseRules.{StandsIn}
use Rattle.element_store.specs.declared.numbers.ElementNo.{ElementNo}
use Rattle.element_store.specs.Model.{root_element}
use Rattle.link_model.specs.Outside.{model_in}
use Rattle.link_model.specs.declared.keys.LinkKey.{LinkKey}
use Rattle.link_model.specs.Keys.{same_element, is_in}
use Rattle.link_model.specs.Readers.{LinkWorld}
use Rattle.link_model.specs.Inheritance.{Redefines, Removal, all_redefined, is_owned_by, is_redefined_elsewhere, is_removed_with}
use Rattle.feature_facts.specs.Stages.{as_candidate}
use Rattle.removed_features.specs.Stages.{gone}
use Rattle.feature_facts.specs.declared.heir.Candidate.{Candidate}
use Rattle.feature_facts.specs.declared.facts.Redefiner.{Redefiner}
use Rattle.feature_facts.specs.declared.facts.Direct.{Direct}
use Rattle.feature_facts.specs.declared.facts.Facts.{Facts}
use Rattle.feature_facts.specs.declared.heir.Heir.{Heir}
use Rattle.removed_features.specs.declared.visible_features.Visible.{Visible}
use Rattle.feature_facts.specs.Known.{world_of, files_for, KnownBy}

-- the element is a feature of the type that is taken to redefine nothing
abbrev pub is_own_in : Heir → ElementNo → Bool
is_own_in h e = h.raw
    && is_owned_by h.of e (get_or (model_in (slice_get (files_for h) e.file.0)).elements e.index root_element).owner

-- The set has what is removed with a candidate's element, where stage three waits on nothing for the candidates.
abbrev pub AreRemoved : Heir → ElementNo → List ElementNo → Type 0
AreRemoved h e set = (cs : List Candidate) (c : Candidate) → IsMember cs c → c.hit.element ≡ e → (ps : List Removal)
    → (gone h.raw h.of (map as_candidate cs) (world_of h)).step ≡ Done ps
    → (g : ElementNo) → is_in g set ≡ is_removed_with ps e g

-- to the element alone is added what it redefines, if it isn't such a feature
abbrev pub AddsRedefined : Heir → ElementNo → List ElementNo → List ElementNo → Type 0
AddsRedefined h e old new = ((g : ElementNo) → is_in g old ≡ is_in g (e ∷ [])) → is_own_in h e ≡ false
    → AreRemoved h e new

-- a feature of one of the types, which isn't private
abbrev pub visible_by : List ElementNo → Redefiner → Bool
visible_by types r = not r.hidden && is_in r.owner types

-- such a feature, and it redefines another one directly
abbrev pub is_sure : List ElementNo → Direct → Bool
is_sure types d = visible_by types d.by && not (same_element d.by.feature d.redefined)

-- What the features that are seen tell of whether another feature redefines an element.
pub record Describes (w : LinkWorld) (us : List ElementNo) (rs : List Redefines) (v : Visible) : Type 0 where
  pub does : (e f : ElementNo) → IsMember v.features f → same_element f e ≡ false
      → Has (all_redefined f w).step e → is_redefined_elsewhere us rs e ≡ true
  pub by : (e : ElementNo) → is_redefined_elsewhere us rs e ≡ true → (f : ElementNo) × IsMember v.features f
      × (same_element f e ≡ false) × Has (all_redefined f w).step e
  pub quiet : (f : ElementNo) (k : LinkKey) → IsMember v.features f → WaitsOn (all_redefined f w).step k → ⊥
  pub sure : (e : ElementNo) → is_in e v.sure ≡ true → is_redefined_elsewhere us rs e ≡ true
  pub reached : (e f : ElementNo) → is_in e v.reached ≡ false → IsMember v.features f
      → Has (all_redefined f w).step e → ⊥

-- they are the features that are seen, and stand
pub record IsVisible (h : Heir) (us : List ElementNo) (f : Facts) (v : Visible) : Type 0 where
  pub stand : (e : ElementNo) → IsMember v.features e → StandsIn (files_for h) e
  pub describes : (rs : List Redefines) → KnownBy (world_of h) rs f → Describes (world_of h) us rs v

-- the answer of the definition's test
abbrev pub TellsElsewhere : Heir → Visible → ElementNo → Bool → Type 0
TellsElsewhere h v e b = (us : List ElementNo) (rs : List Redefines) → Describes (world_of h) us rs v
    → b ≡ is_redefined_elsewhere us rs e
