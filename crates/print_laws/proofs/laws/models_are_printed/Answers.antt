use Rattle.print_laws.proofs.Canonical as laws
use Rattle.print_laws.proofs.laws.models_are_printed.Goals as goal

pub returns : goal.returns
returns c = laws.models_are_printed
