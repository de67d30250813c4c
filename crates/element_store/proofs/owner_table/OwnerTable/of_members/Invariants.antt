-- The members before the next one are in the table, if something is kept for their elements.
use Rattle.std.proofs.Common.{take}
use Rattle.element_store.specs.OwnerTables.{KeepsMembers}
use Rattle.element_store.proofs.owner_table.OwnerTable.of_members.Given as goal

abbrev pub invariant-loop-number : goal.invariant-loop-number
invariant-loop-number l = KeepsMembers (take l.number l.members) l.redefinitions l.table
