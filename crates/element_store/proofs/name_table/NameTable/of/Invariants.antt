-- The members before the next one are in the table.
use Rattle.std.proofs.Common.{take}
use Rattle.element_store.specs.NameTables.{HasBearers}
use Rattle.element_store.proofs.name_table.NameTable.of.Given as goal

abbrev pub invariant-loop-number : goal.invariant-loop-number
invariant-loop-number l = HasBearers (take l.number l.members) l.table
