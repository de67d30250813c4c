use Rattle.std.proofs.Common.{ap, ◌∙◌}
use Rattle.token_core.specs.declared.words.TheConstants.{KERML_STARTS, SYSML_STARTS}
use Rattle.token_core.specs.Scan.{are_starts}
use Rattle.token_core.specs.Words.{words}
use Rattle.token_core.proofs.Lists.{kerml_starts_are, sysml_starts_are}
use Rattle.token_core.proofs.words.starts_of.Goals as goal

pub returns-in-Kerml : goal.returns-in-Kerml
returns-in-Kerml c = ap (λ l. are_starts (words l) KERML_STARTS) c.in-Kerml.is ∙ kerml_starts_are

pub returns-in-Sysml : goal.returns-in-Sysml
returns-in-Sysml c = ap (λ l. are_starts (words l) SYSML_STARTS) c.in-Sysml.is ∙ sysml_starts_are
