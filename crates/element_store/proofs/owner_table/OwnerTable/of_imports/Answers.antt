-- One import more is in the table.
use Rattle.std.proofs.Common.{◌++◌, nat_eq, false, get_or, sym, ◌∙◌, ap}
use Rattle.element_store.specs.declared.kind.Visibility.TheVariants.{Public}
use Rattle.element_store.specs.declared.records.Import.{Import}
use Rattle.element_store.specs.NameTables.{if_noted}
use Rattle.element_store.proofs.NameLaws.{numbers_there}
use Rattle.element_store.proofs.owner_table.OwnerTable.of_imports.Goals as goal

pub loop-number-preserved : goal.loop-number-preserved
loop-number-preserved c o =
    let none : Import = record { owner = 0; reference = 0; star = false; recursive = false; all = false; visibility = Public } in
    let i = c.loop-number.number in
    c.in_ok-note_import.ensures o
    ∙ ap (λ found. found ++ if_noted (nat_eq (get_or c.args.imports.now i none).owner o) i) (c.loop-number.invariant o)
    ∙ sym (numbers_there (λ y. nat_eq y.owner o) c.args.imports.now i none c.loop-number-test.true)
