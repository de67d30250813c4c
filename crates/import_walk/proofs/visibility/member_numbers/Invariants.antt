use Rattle.std.proofs.Common.{◌≡◌, ◌++◌, drop}
use Rattle.element_store.specs.Model.{members_in}
use Rattle.import_walk.proofs.visibility.member_numbers.Given as goal

abbrev pub invariant-loop-item : goal.invariant-loop-item
invariant-loop-item l = l.numbers ++ members_in (drop l.item-index l.items) ≡ members_in l.items
