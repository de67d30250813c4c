use Rattle.removed_features.proofs.RemovalLaws.{owned_is}
use Rattle.removed_features.proofs.removal.redefines_nothing.Goals as goal

pub returns : goal.returns
returns c = owned_is c.args.heir.now c.args.e _ c.in_ok-x.ensures.read.step _ c.is_own-own.ensures
