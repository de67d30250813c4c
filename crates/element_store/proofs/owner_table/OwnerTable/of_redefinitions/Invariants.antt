-- The redefinitions among the references before the next one are in the table.
use Rattle.std.proofs.Common.{take}
use Rattle.element_store.specs.OwnerTables.{KeepsRedefinitions}
use Rattle.element_store.proofs.owner_table.OwnerTable.of_redefinitions.Given as goal

abbrev pub invariant-loop-number : goal.invariant-loop-number
invariant-loop-number l = KeepsRedefinitions (take l.number l.references) l.table
