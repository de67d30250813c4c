use Rattle.std.proofs.Common.{refl}
use Rattle.ll_core.proofs.CheckedExact.{checked_from_test}
use Rattle.token_core.specs.Words.{signs, words}
use Rattle.kerml_grammar.specs.Terms.{sign, word}
use Rattle.kerml_grammar.specs.Rules.{kerml_rules}
use Rattle.kerml_grammar.specs.Grammar.{kerml_table}
use Rattle.kerml_grammar.proofs.grammar.Goals as goal

-- the test of the whole table is evaluated
pub returns-clause-checked : goal.returns-clause-checked
returns-clause-checked c = checked_from_test _ refl

-- and the statics are the definition
pub returns-clause-table : goal.returns-clause-table
unfolding kerml_table kerml_rules sign word signs words
returns-clause-table c = refl
