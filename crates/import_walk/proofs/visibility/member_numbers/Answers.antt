use Rattle.std.proofs.Common.{refl}
use Rattle.element_store.specs.Model.{member_number, members_in}
use Rattle.import_walk.proofs.PartLaws.{rest_next}
use Rattle.import_walk.proofs.visibility.member_numbers.Goals as goal

pub loop-item-preserved : goal.loop-item-preserved
loop-item-preserved c =
    rest_next member_number c.loop-item.item-index c.args.items.now _ _ c.loop-item.numbers c.push_member.new.numbers
    (members_in c.args.items.now) c.loop-item-test.true refl c.in_ok-push_member.ensures c.loop-item.invariant
