use Rattle.std.proofs.Common.{arith}
use Rattle.token_core.proofs.Numbers.{number_more}
use Rattle.token_core.proofs.reading.number_of.Goals as goal

pub returns-in_default : goal.returns-in_default
returns-in_default c = λ small. absurd (omega (arith, c.in_default.ensures, c.loop-digit.invariant, number_more c.loop-digit.number c.args.digits.now c.loop-digit.digit-index (omega arith)))

pub returns-in_default-checked_add : goal.returns-in_default-checked_add
returns-in_default-checked_add c = λ small. absurd (omega (arith, c.in_default-checked_add.ensures, c.in-Some.ensures, c.from-value.ensures, c.saturating_sub.ensures, c.loop-digit.invariant, number_more c.loop-digit.number c.args.digits.now c.loop-digit.digit-index (omega arith)))
