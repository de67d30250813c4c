use Rattle.text_laws.proofs.OwnPlaceLaws as laws
use Rattle.text_laws.proofs.laws.references_stand_at_own_tokens.Goals as goal

pub returns : goal.returns
returns c = laws.references_stand_at_own
