use Rattle.std.proofs.Common.{sym, ap, ◌∙◌}
use Rattle.token_core.specs.Words.{words}
use Rattle.token_core.proofs.Lists.{kerml_words_are, sysml_words_are}
use Rattle.token_core.proofs.words.words_of.Goals as goal

pub returns-in-Kerml : goal.returns-in-Kerml
returns-in-Kerml c = sym (ap words c.in-Kerml.is ∙ kerml_words_are)

pub returns-in-Sysml : goal.returns-in-Sysml
returns-in-Sysml c = sym (ap words c.in-Sysml.is ∙ sysml_words_are)
