use Rattle.implied_model.proofs.FoundOwners.{owner_is}
use Rattle.implied_model.proofs.laws.owners_are_found.Goals as goal

pub returns : goal.returns
returns c = owner_is
