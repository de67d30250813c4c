use Rattle.std.proofs.Common.{◌≡◌, ◌++◌, drop}
use Rattle.element_store.specs.Numbers.{numbers_from}
use Rattle.element_store.specs.Model.{is_owning}
use Rattle.element_store.proofs.model.owning_members.Given as goal

-- the numbers so far, and those of the members to come, are all
abbrev pub invariant-loop-number : goal.invariant-loop-number
invariant-loop-number l = l.owning.items ++ numbers_from l.number is_owning (drop l.number l.members) ≡ numbers_from 0 is_owning l.members
