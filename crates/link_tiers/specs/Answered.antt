-- What code answers for an asking of one thing, and what it has noted then.
use Rattle.std.specs.Prelude.{◌≡◌, List, ◌++◌, Option, None, Some}
use Rattle.linker_base.specs.Members.{SameMembers}
use Rattle.demand_core.specs.declared.step.Step.{Step}
use Rattle.demand_core.specs.declared.step.Step.TheVariants.{Done, Waits}
use Rattle.link_model.specs.declared.keys.LinkKey.{LinkKey}
use Rattle.link_walk.specs.Noted.{Noted, Asks}

-- the one answer; or none, and what is waited on is noted
abbrev pub IsAnswer : {A : Type 0} → Step LinkKey A → Option A → List LinkKey → List LinkKey → Type 0
IsAnswer (Done y) x old new = (x ≡ Some y) × (new ≡ old)
IsAnswer (Waits ks) x old new = (x ≡ None) × SameMembers new (old ++ ks)

-- that, and its looks are noted
pub record Answered {A : Type 0} (a : Asks A) (x : Option A) (old new : Noted) : Type 0 where
  pub step : IsAnswer a.step x old.waits new.waits
  pub looks : SameMembers new.looks (old.looks ++ a.looks)

-- two askings that give the same and look at the same facts
pub record Agrees {A : Type 0} (a b : Asks A) : Type 0 where
  pub step : a.step ≡ b.step
  pub looks : SameMembers a.looks b.looks
