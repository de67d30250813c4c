use Rattle.print_model.proofs.SpeltModel as laws
use Rattle.print_model.proofs.laws.names_can_be_spelt.Goals as goal

pub returns : goal.returns
returns c = laws.names_can_be_spelt
