use Rattle.std.proofs.Common.{arith}
use Rattle.std.proofs.lemmas.Grind.{common_steps}
use Rattle.token_core.proofs.Nesting.{closing_sign}
use Rattle.token_core.proofs.lexer.is_closing_sign.Goals as goal

pub returns-then-number-eq3 : goal.returns-then-number-eq3
returns-then-number-eq3 c = closing_sign c.args.number _ (grind (arith, common_steps))

pub returns-else-number-eq3 : goal.returns-else-number-eq3
returns-else-number-eq3 c = closing_sign c.args.number _ (grind (arith, common_steps))
