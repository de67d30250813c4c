-- Members with one of the redefinitions are those that redefine.
use Rattle.std.proofs.lemmas.Result.{IfOk-weaker}
use Rattle.element_store.specs.OwnerTables.{KeepsMembers, KeepsRedefining}
use Rattle.element_store.proofs.OwnerTableLaws.{members_alike}
use Rattle.element_store.proofs.owner_table.OwnerTable.of_redefining.Goals as goal

pub returns : goal.returns
returns c =
    let redefinitions = c.in_ok-redefinitions.redefinitions in
    IfOk-weaker c.of_members.result (KeepsMembers c.args.members.now redefinitions) (KeepsRedefining c.args.members.now c.args.references.now)
    (λ owners found. members_alike c.args.members.now c.args.references.now redefinitions owners c.in_ok-redefinitions.ensures found) c.of_members.ensures
