use Rattle.std.proofs.Common.{◌≡◌, ap, sym, ◌∙◌}
use Rattle.text_model.specs.Languages.{grammar_of}
use Rattle.draft_walk.proofs.Plain.{kerml_is, sysml_is}
use Rattle.draft_walk.proofs.drafting.grammar_of.Goals as goal

pub returns-in-Kerml-clause-table : goal.returns-in-Kerml-clause-table
returns-in-Kerml-clause-table c = c.grammar.ensures.table ∙ (kerml_is ∙ sym (ap grammar_of c.in-Kerml.is))

pub returns-in-Sysml-clause-table : goal.returns-in-Sysml-clause-table
returns-in-Sysml-clause-table c = c.grammar-in-Sysml.ensures.table ∙ (sysml_is ∙ sym (ap grammar_of c.in-Sysml.is))
