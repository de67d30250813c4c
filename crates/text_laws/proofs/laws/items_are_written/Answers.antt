use Rattle.text_laws.proofs.WrittenItemLaws as laws
use Rattle.text_laws.proofs.laws.items_are_written.Goals as goal

pub returns : goal.returns
returns c = laws.items_are_written
