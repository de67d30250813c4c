use Rattle.text_laws.proofs.WrittenLaws as laws
use Rattle.text_laws.proofs.laws.elements_are_written.Goals as goal

pub returns : goal.returns
returns c = laws.elements_are_written
