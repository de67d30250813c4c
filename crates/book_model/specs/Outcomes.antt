-- What became of each reference, by the least linking of the files.
use Rattle.std.specs.Prelude.{◌≡◌, ◌⊎◌, ℕ, List, Option, Some, None}
use Rattle.linker_base.specs.Members.{IsMember}
use Rattle.element_store.specs.declared.numbers.RefNo.{RefNo}
use Rattle.element_store.specs.declared.outcome.Outcome.{Outcome}
use Rattle.element_store.specs.declared.outcome.Outcome.TheVariants.{Absent, Cyclic}
use Rattle.element_store.specs.declared.models.StoredFile.{StoredFile}
use Rattle.demand_core.specs.Computed.{world}
use Rattle.demand_core.specs.Least.{least, cyclic_on}
use Rattle.demand_core.specs.Rules.{IsLeastWait}
use Rattle.link_model.specs.declared.keys.LinkKey.{LinkKey}
use Rattle.link_model.specs.Keys.{same_key}
use Rattle.link_model.specs.Linking.{ComesBefore, Fits, find, link_meaning}
use Rattle.link_model.specs.Outside.{keys_of, seen_in}
use Rattle.link_model.specs.Readers.{LinkWorld}

-- what is decided, or else that the reference is cyclic, on the least one on which it waits; a reference that doesn't
-- stand is absent
abbrev pub outcome_by : Option Outcome → Option LinkKey → Outcome
outcome_by (Some o) on = o
outcome_by None (Some k) = Cyclic k.0
outcome_by None None = Absent 1

-- THE OUTCOME of a reference: its entry in the least linking, or Cyclic
abbrev pub outcome_of : List StoredFile → RefNo → Outcome
outcome_of files r =
    let key : LinkKey = record { 0 = r } in
    outcome_by (least same_key (link_meaning files) key) (cyclic_on same_key (link_meaning files) key)

-- THE OUTCOME of a qualified name that is asked for from outside, over the least linking
abbrev pub found_of : List StoredFile → List (List ℕ) → Outcome
found_of files path = find files (least same_key (link_meaning files)) path

-- what lookups read over the files and their least linking
abbrev pub linked_world : List StoredFile → LinkWorld
linked_world files = world (seen_in files) (least same_key (link_meaning files))

-- the outcome is decided by the least linking, and names what stands
pub record IsDecided (files : List StoredFile) (r : RefNo) (o : Outcome) : Type 0 where
  pub entry : least same_key (link_meaning files) (record { 0 = r }) ≡ Some o
  pub fits : Fits files o

-- the least linking leaves the reference open, and the least one on which it waits then, which is open too, is kept
pub record IsCyclicOn (files : List StoredFile) (r : RefNo) (o : Outcome) : Type 0 where
  pub on : LinkKey
  pub kept : o ≡ Cyclic on.0
  pub left : least same_key (link_meaning files) (record { 0 = r }) ≡ None
  pub wait : IsLeastWait (ComesBefore files)
      ((link_meaning files).answer (least same_key (link_meaning files)) (record { 0 = r })) on
  pub stands : IsMember (keys_of files) on
  pub open_too : least same_key (link_meaning files) on ≡ None

-- the outcome of a reference is decided or cyclic
abbrev pub IsOutcome : List StoredFile → RefNo → Outcome → Type 0
IsOutcome files r o = IsDecided files r o ⊎ IsCyclicOn files r o
