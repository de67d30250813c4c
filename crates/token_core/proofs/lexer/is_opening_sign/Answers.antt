use Rattle.std.proofs.Common.{arith}
use Rattle.std.proofs.lemmas.Grind.{common_steps}
use Rattle.token_core.proofs.Nesting.{opening_sign}
use Rattle.token_core.proofs.lexer.is_opening_sign.Goals as goal

pub returns-then-number-eq2 : goal.returns-then-number-eq2
returns-then-number-eq2 c = opening_sign c.args.number _ (grind (arith, common_steps))

pub returns-else-number-eq2 : goal.returns-else-number-eq2
returns-else-number-eq2 c = opening_sign c.args.number _ (grind (arith, common_steps))
