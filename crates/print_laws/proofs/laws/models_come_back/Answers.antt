use Rattle.print_laws.proofs.Alike as laws
use Rattle.print_laws.proofs.laws.models_come_back.Goals as goal

pub returns : goal.returns
returns c = laws.models_come_back
