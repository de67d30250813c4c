-- The numbers of those that bear the name are those of members.
use Rattle.std.proofs.Common.{◌∙◌, sym, ap}
use Rattle.element_store.proofs.BaseLaws.{first_public, owned_first, bearer_stands}
use Rattle.element_store.proofs.bases.public_member.Goals as goal

pub loop-number-init : goal.loop-number-init
loop-number-init c = owned_first c.args.model.now.members c.args.owner c.args.name.now ∙ ap (first_public c.args.model.now.members) (sym c.bearers-number-items.ensures)

pub member-requires : goal.member-requires
member-requires c =
    bearer_stands c.args.model.now.members c.args.owner c.args.name.now c.bearers-number-items.result.now c.loop-number.number-index c.bearers-number-items.ensures c.loop-number-test.true
