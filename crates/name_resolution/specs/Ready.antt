-- When the rules of links may be asked, and what code gives for an asking.
use Rattle.std.specs.Prelude.{◌≡◌, ℕ, List, [], ◌∷◌, Option, None, Some}
use Rattle.linker_base.specs.Members.{SameMembers}
use Rattle.linker_base.specs.Orders.{AreInOrder}
use Rattle.demand_core.specs.declared.step.Step.{Step}
use Rattle.demand_core.specs.declared.step.Step.TheVariants.{Done, Waits}
use Rattle.element_store.specs.declared.outcome.Outcome.{Outcome}
use Rattle.element_store.specs.declared.outcome.Outcome.TheVariants.{Absent, Cyclic}
use Rattle.element_store.specs.declared.models.StoredFile.{StoredFile}
use Rattle.element_store.specs.Stored.{AreFiles}
use Rattle.link_model.specs.declared.keys.LinkKey.{LinkKey}
use Rattle.link_model.specs.Linking.{ComesBefore}
use Rattle.root_names.specs.Roots.{Tables, AreRootsOf}
use Rattle.link_waits.specs.Ranks.{AreRanksOf}

-- the files are those of a project, and names and ranks are theirs
pub record IsReady (book : List StoredFile) (names : Tables) (counts : List ℕ) : Type 0 where
  pub files : AreFiles book
  pub roots : AreRootsOf book names
  pub ranks : AreRanksOf book counts

-- what is waited on, each once and in order
pub record AreOrdered (files : List StoredFile) (waits keys : List LinkKey) : Type 0 where
  pub order : AreInOrder (ComesBefore files) keys
  pub same : SameMembers keys waits

-- what code gives: the outcome, or what is noted as waited on, in order
abbrev pub Gives : List StoredFile → Option Outcome → List LinkKey → Step LinkKey Outcome → Type 0
Gives files (Some o) waits step = step ≡ Done o
Gives files None waits (Done o) = ⊥
Gives files None waits (Waits keys) = AreOrdered files waits keys

-- how a finding ends: with the outcome, or cyclic on the first of what is waited on, in order
abbrev pub first_of_keys : List LinkKey → Outcome
first_of_keys [] = Absent 1
first_of_keys (k ∷ ks) = Cyclic k.0

abbrev pub Ends : List StoredFile → Option Outcome → List LinkKey → Outcome → Type 0
Ends files (Some o) waits found = found ≡ o
Ends files None waits found = (keys : List LinkKey) × AreOrdered files waits keys × (found ≡ first_of_keys keys)
