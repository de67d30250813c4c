use Rattle.text_laws.proofs.WrittenStartLaws as laws
use Rattle.text_laws.proofs.laws.starts_are_written.Goals as goal

pub returns : goal.returns
returns c = laws.starts_are_written
