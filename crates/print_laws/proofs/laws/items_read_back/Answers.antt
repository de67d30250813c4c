use Rattle.print_laws.proofs.ItemLaws as laws
use Rattle.print_laws.proofs.laws.items_read_back.Goals as goal

pub returns : goal.returns
returns c = laws.items_read_back
