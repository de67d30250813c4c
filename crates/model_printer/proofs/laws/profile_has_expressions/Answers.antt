use Rattle.model_printer.proofs.ProfileLaws as laws
use Rattle.model_printer.proofs.laws.profile_has_expressions.Goals as goal

pub returns : goal.returns
returns c = laws.profile_has_expressions
