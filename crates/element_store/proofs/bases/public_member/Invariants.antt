-- The least is the first of those that the walk has yet to see.
use Rattle.std.proofs.Common.{◌≡◌, drop}
use Rattle.element_store.specs.BaseRules.{least_owned}
use Rattle.element_store.proofs.BaseLaws.{first_public}
use Rattle.element_store.proofs.bases.public_member.Given as goal

abbrev pub invariant-loop-number : goal.invariant-loop-number
invariant-loop-number l = least_owned l.model.members l.owner l.name ≡ first_public l.model.members (drop l.number-index l.number-items)
