-- The grammar of each language.
use Rattle.element_store.specs.declared.outcome.Language.{Language}
use Rattle.element_store.specs.declared.outcome.Language.TheVariants.{Kerml, Sysml}
use Rattle.ll_core.specs.Table.{Table}
use Rattle.kerml_grammar.specs.Grammar.{kerml_table}
use Rattle.sysml_grammar.specs.Grammar.{sysml_table}

unfoldable pub grammar_of : Language → Table
grammar_of Kerml = kerml_table
grammar_of Sysml = sysml_table
