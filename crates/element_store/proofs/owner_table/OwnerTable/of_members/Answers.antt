-- One member more is in the table, if something is kept for its element.
use Rattle.std.proofs.Common.{◌++◌, ◌&&◌, nat_eq, sym, ◌∙◌, ap}
use Rattle.element_store.specs.NameTables.{if_noted}
use Rattle.element_store.specs.OwnerTables.{has_target}
use Rattle.element_store.proofs.NameLaws.{numbers_at}
use Rattle.element_store.proofs.owner_table.OwnerTable.of_members.Goals as goal

pub loop-number-preserved : goal.loop-number-preserved
loop-number-preserved c o =
    let x = c.index-members-number.result in
    let i = c.loop-number.number in
    let kept = c.args.redefinitions.now in
    c.in_ok-note_redefining.ensures o
    ∙ ap (λ found. found ++ if_noted (nat_eq x.owner o && has_target kept x.target) i) (c.loop-number.invariant o)
    ∙ sym (numbers_at (λ y. nat_eq y.owner o && has_target kept y.target) c.args.members.now i x c.loop-number-test.true c.index-members-number.is)
