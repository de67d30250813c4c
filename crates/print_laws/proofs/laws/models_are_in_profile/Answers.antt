use Rattle.print_laws.proofs.Limits as laws
use Rattle.print_laws.proofs.laws.models_are_in_profile.Goals as goal

pub returns : goal.returns
returns c = laws.models_are_in_profile
