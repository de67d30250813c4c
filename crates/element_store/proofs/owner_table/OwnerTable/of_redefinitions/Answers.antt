-- One reference more is in the table, if it is a redefinition.
use Rattle.std.proofs.Common.{◌++◌, ◌&&◌, nat_eq, sym, ◌∙◌, ap}
use Rattle.element_store.specs.NameTables.{if_noted}
use Rattle.element_store.specs.Readings.{is_redefinition}
use Rattle.element_store.proofs.NameLaws.{numbers_at}
use Rattle.element_store.proofs.owner_table.OwnerTable.of_redefinitions.Goals as goal

pub loop-number-preserved : goal.loop-number-preserved
loop-number-preserved c o =
    let x = c.index-references-number.result in
    let i = c.loop-number.number in
    c.in_ok-note_redefinition.ensures o
    ∙ ap (λ found. found ++ if_noted (nat_eq x.context o && is_redefinition x.role) i) (c.loop-number.invariant o)
    ∙ sym (numbers_at (λ y. nat_eq y.context o && is_redefinition y.role) c.args.references.now i x c.loop-number-test.true c.index-references-number.is)
