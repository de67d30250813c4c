use Rattle.print_model.proofs.Begun as laws
use Rattle.print_model.proofs.laws.expressions_read_back.Goals as goal

pub returns : goal.returns
returns c = laws.read_back
