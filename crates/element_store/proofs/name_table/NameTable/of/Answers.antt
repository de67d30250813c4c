-- One member more is in the table.
use Rattle.std.proofs.Common.{◌++◌, ◌&&◌, nat_eq, sym, ◌∙◌, ap}
use Rattle.element_store.specs.Model.{bears}
use Rattle.element_store.specs.NameTables.{if_noted}
use Rattle.element_store.proofs.NameLaws.{bearers_at}
use Rattle.element_store.proofs.name_table.NameTable.of.Goals as goal

pub loop-number-preserved : goal.loop-number-preserved
loop-number-preserved c owner x =
    let m = c.index-members-number.result in
    let i = c.loop-number.number in
    c.in_ok-note_member.ensures owner x
    ∙ ap (λ found. found ++ if_noted (nat_eq m.owner owner && bears x m) i) (c.loop-number.invariant owner x)
    ∙ sym (bearers_at c.args.members.now i m c.loop-number-test.true c.index-members-number.is owner x)
