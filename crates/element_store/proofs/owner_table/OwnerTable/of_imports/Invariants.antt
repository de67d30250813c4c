-- The imports before the next one are in the table.
use Rattle.std.proofs.Common.{take}
use Rattle.element_store.specs.OwnerTables.{KeepsImports}
use Rattle.element_store.proofs.owner_table.OwnerTable.of_imports.Given as goal

abbrev pub invariant-loop-number : goal.invariant-loop-number
invariant-loop-number l = KeepsImports (take l.number l.imports) l.table
