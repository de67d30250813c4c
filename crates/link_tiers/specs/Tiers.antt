-- Tiers that are tried one after another.
use Rattle.std.specs.Prelude.{◌≡◌, ℕ, suc, Bool, true, false, not, cond, nat_lt, ◌||◌, List, [], ◌∷◌, ◌++◌, slice_get, Option, None, Some}
use Rattle.linker_base.specs.Members.{IsMember, SameMembers}
use Rattle.demand_core.specs.Computation.{done, join}
use Rattle.demand_core.specs.Search.{IsAsked}
use Rattle.demand_core.specs.declared.looks.Fact.{Fact}
use Rattle.element_store.specs.declared.models.StoredFile.{StoredFile}
use Rattle.element_store.specs.BaseRules.{StandsIn}
use Rattle.link_model.specs.declared.keys.LinkKey.{LinkKey}
use Rattle.link_model.specs.declared.keys.LinkFact.{LinkFact}
use Rattle.link_model.specs.declared.keys.Hit.{Hit}
use Rattle.link_model.specs.Linking.{MemberStands}
use Rattle.link_model.specs.Readers.{Lookup, LinkWorld, is_nil, told, first_of}
use Rattle.link_model.specs.Imports.{brought, import_tier, visible}
use Rattle.link_model.specs.Lexical.{way_up}
use Rattle.link_model.specs.Outside.{Library}
use Rattle.element_store.specs.declared.numbers.FileNo.{FileNo}
use Rattle.element_store.specs.declared.numbers.ElementNo.{ElementNo}
use Rattle.element_store.specs.declared.records.Import.{Import}
use Rattle.element_store.specs.Model.{Data}
use Rattle.link_walk.specs.Noted.{Asks, LinkTrail}

-- members and elements of the hits stand
abbrev pub AreHits : List StoredFile → List Hit → Type 0
AreHits files hs = (h : Hit) → IsMember hs h → MemberStands files h.member × StandsIn files h.element

-- so do those that are found, where nothing is waited on
abbrev pub AreFound : List StoredFile → LinkTrail Hit → Type 0
AreFound files t = t.waits ≡ [] → AreHits files t.found

-- a tier that waits or has a hit decides
abbrev pub decides : LinkTrail Hit → Bool
decides t = not (is_nil t.waits) || not (is_nil t.found)

-- of a whole asking these facts were looked at, and this is left
pub record Leads {A : Type 0} (seen : List (Fact LinkKey LinkFact)) (rest whole : Asks A) : Type 0 where
  pub step : whole.step ≡ rest.step
  pub looks : SameMembers whole.looks (seen ++ rest.looks)

-- It is decided, and the trail is the whole asking; or nothing is found or waited on yet, and this is left.
abbrev pub Reaches : Bool → LinkTrail Hit → Asks (List Hit) → Asks (List Hit) → Type 0
Reaches true t rest whole = IsAsked t whole
Reaches false t rest whole = (t.found ≡ []) × (t.waits ≡ []) × Leads t.looks rest whole

-- THE TIERS ARE TRIED: of any whole of which they and more are left, it is decided by them, or what is more is left.
pub record Tried (w : LinkWorld) (tiers : List (Lookup (List Hit))) (decided : Bool) (old new : LinkTrail Hit)
    : Type 0 where
  pub tried : (more : List (Lookup (List Hit))) (whole : Asks (List Hit))
      → Reaches false old (first_of (tiers ++ more) w) whole → Reaches decided new (first_of more w) whole

-- a part of a stage is added: what was asked before and the part are asked together
pub record Joins (w : LinkWorld) (part : Lookup (List Hit)) (old new : LinkTrail Hit) : Type 0 where
  pub joins : (c : Lookup (List Hit)) → IsAsked old (c w) → IsAsked new (join c part w)

-- an import is written before a reference, if one is given: the imports of a body have rising references
abbrev pub is_taken : Option ℕ → Import → Bool
is_taken None i = true
is_taken (Some r) i = nat_lt i.reference r

-- what the import of that number brings, if it is taken
abbrev pub import_part : Library → List ℕ → Option ℕ → ElementNo → Data → ℕ → Lookup (List Hit)
import_part lib x before at d k = told (slice_get d.imports k)
    (λ i. cond (is_taken before i) (brought (visible lib x (at ∷ [])) x at.file i) (done []))

-- what the imports of a namespace bring that are taken
abbrev pub imports_taken : Library → List ℕ → Option ℕ → ElementNo → Lookup (List Hit)
imports_taken lib x before at = import_tier (visible lib x (at ∷ [])) (is_taken before) x at

-- an element, its owner, and so on
abbrev pub way_from : Data → FileNo → Option ℕ → List ElementNo
way_from d f None = []
way_from d f (Some e) = way_up d f (suc e) e
