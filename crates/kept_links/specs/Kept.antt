-- Links that are kept while files are edited.
use Rattle.std.specs.Prelude.{◌≡◌, Bool, List, [], ◌++◌, None, Some}
use Rattle.linker_base.specs.Members.{IsMember}
use Rattle.demand_core.specs.Again.{HasForgotten}
use Rattle.demand_core.specs.EngineState.{EngineState}
use Rattle.demand_core.specs.Least.{least, cyclic_on}
use Rattle.demand_core.specs.Rules.{Meaning}
use Rattle.demand_core.specs.Settled.{HasLooks}
use Rattle.demand_core.specs.Tables.{entry_of}
use Rattle.demand_core.specs.declared.looks.Fact.{Fact}
use Rattle.demand_core.specs.declared.looks.Fact.TheVariants.{Key}
use Rattle.element_store.specs.declared.numbers.FileNo.{FileNo}
use Rattle.element_store.specs.declared.outcome.Outcome.{Outcome}
use Rattle.element_store.specs.declared.models.StoredFile.{StoredFile}
use Rattle.element_store.specs.Stored.{AreFiles}
use Rattle.link_model.specs.declared.keys.LinkKey.{LinkKey}
use Rattle.link_model.specs.declared.keys.LinkFact.{LinkFact}
use Rattle.link_model.specs.Edits.{HasCome}
use Rattle.link_model.specs.Keys.{same_key}
use Rattle.link_model.specs.Linking.{link_meaning}
use Rattle.link_model.specs.Outside.{keys_of}

-- the engine has neither an answer of the key nor what it waits on
abbrev pub IsUnheld : {K V F : Type 0} → (K → K → Bool) → EngineState K V F → K → Type 0
IsUnheld eq e k = (entry_of eq e.table k ≡ None) × (entry_of eq e.cyclic k ≡ None)

-- Of the pending keys, and of what is no key of the rules, nothing is held. Each other key is held as the least table
-- has it, with what it looks at; it looks at no pending key.
pub record IsRight {K V F : Type 0} (eq : K → K → Bool) (m : Meaning K V F) (pending : List K) (e : EngineState K V F)
    : Type 0 where
  pub unheld : (k : K) → IsMember pending k → IsUnheld eq e k
  pub held : (k : K) → IsMember m.keys k → (IsMember pending k → ⊥)
      → (entry_of eq e.table k ≡ least eq m k) × (entry_of eq e.cyclic k ≡ cyclic_on eq m k)
  pub looks : (k : K) → IsMember m.keys k → (IsMember pending k → ⊥) → HasLooks eq m e k
  pub closed : (k q : K) → IsMember m.keys k → (IsMember pending k → ⊥)
      → IsMember (m.looked (least eq m) k) (Key q) → IsMember pending q → ⊥
  pub only : (k : K) → (IsMember m.keys k → ⊥) → IsUnheld eq e k

-- an engine of links, and the references that are pending
pub record Kept : Type 0 where
  pub engine : EngineState LinkKey Outcome LinkFact
  pub pending : List LinkKey

-- the links of these files are kept
pub record AreKept (files : List StoredFile) (l : Kept) : Type 0 where
  pub are : AreFiles files
  pub right : IsRight same_key (link_meaning files) l.pending l.engine

-- nothing is pending, so that the engine holds the least table of the rules
pub record IsSettled (m : Meaning LinkKey Outcome LinkFact) (l : Kept) : Type 0 where
  pub right : IsRight same_key m l.pending l.engine
  pub none : l.pending ≡ []

-- the least linking of these files
abbrev pub AreSettled : List StoredFile → Kept → Type 0
AreSettled files l = IsSettled (link_meaning files) l

-- what looked at the facts was forgotten, and is pending
pub record HasLetGo (facts : List (Fact LinkKey LinkFact)) (old new : Kept) : Type 0 where
  pub gone : List LinkKey
  pub forgotten : HasForgotten same_key facts gone old.engine new.engine
  pub pending : new.pending ≡ old.pending ++ gone

-- the links of the files before that are kept
pub record MayOpen (now : List StoredFile) (file : FileNo) (l : Kept) : Type 0 where
  pub before : List StoredFile
  pub come : HasCome before now file
  pub kept : AreKept before l

-- those of the references that stand in the files
pub record AreStanding (files : List StoredFile) (keys standing : List LinkKey) : Type 0 where
  pub among : (k : LinkKey) → IsMember standing k → IsMember keys k
  pub stand : (k : LinkKey) → IsMember standing k → IsMember (keys_of files) k
  pub all : (k : LinkKey) → IsMember keys k → IsMember (keys_of files) k → IsMember standing k
