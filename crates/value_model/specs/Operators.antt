-- What operators give: kinds of operands, 64-bit bounds, exact division; the checks come in the order kinds, zero
-- divisor, inexact, overflow.
use Rattle.std.specs.Prelude.{ℕ, ◌^◌, ◌-◌, Bool, true, false, cond, not, ◌&&◌, ◌||◌, nat_le, List, ◌++◌, length, Option, None, Some, ℤ, pos, negsuc, ◌+ℤ◌, ◌-ℤ◌, ◌*ℤ◌, neg_ℤ, int_lt, int_le, int_div, int_rem}
use Rattle.std.specs.Cmp.Lexicographic.{pointwise}
use Rattle.std.specs.Prelude.{nat_eq}
use Rattle.std.specs.Ordering.{int_eq}
use Rattle.element_store.specs.declared.expression.UnaryOp.{UnaryOp}
use Rattle.element_store.specs.declared.expression.UnaryOp.TheVariants.{Minus, Plus, Not}
use Rattle.element_store.specs.declared.expression.BinaryOp.{BinaryOp}
use Rattle.element_store.specs.declared.expression.BinaryOp.TheVariants as op
use Rattle.link_model.specs.Keys.{same_element}
use Rattle.value_model.specs.declared.values.Value.{Value}
use Rattle.value_model.specs.declared.values.Value.TheVariants.{Integer, Boolean, Text, Enumerated, Null}
use Rattle.value_model.specs.declared.values.ValueAnswer.{ValueAnswer}
use Rattle.value_model.specs.declared.values.ValueAnswer.TheVariants as answer
use Rattle.value_model.specs.declared.values.ValueFault.TheVariants.{WrongKind, Overflow, ZeroDivisor, Inexact}
use Rattle.value_model.specs.declared.values.Spot.{Spot}

abbrev pub truth : Bool → ValueAnswer
truth b = answer.Value (Boolean b)

-- from -2^63 to 2^63 - 1
abbrev pub fits : ℤ → Bool
fits z = int_le (negsuc (2 ^ 63 - 1)) z && int_le z (pos (2 ^ 63 - 1))

-- a result, as far as it fits
abbrev pub whole : Spot → ℤ → ValueAnswer
whole at z = cond (fits z) (answer.Value (Integer z)) (answer.Refused (Overflow at))

-- a joined text has at most 65,536 bytes
abbrev pub text : Spot → List ℕ → ValueAnswer
text at x = cond (nat_le (length x) 65536) (answer.Value (Text x)) (answer.Refused (Overflow at))

-- values of different kinds are unequal
abbrev pub same : Value → Value → Bool
same (Integer a) (Integer b) = int_eq a b
same (Boolean true) (Boolean b) = b
same (Boolean false) (Boolean b) = not b
same (Text x) (Text y) = pointwise nat_eq x y
same (Enumerated a) (Enumerated b) = same_element a b
same Null Null = true
same a b = false

abbrev pub is_zero : ℤ → Bool
is_zero z = int_eq z (pos 0)

-- no divisor is zero
abbrev pub divided : Spot → ℤ → ValueAnswer → ValueAnswer
divided at b x = cond (is_zero b) (answer.Refused (ZeroDivisor at)) x

-- operators of two integers
abbrev pub of_integers : BinaryOp → Spot → ℤ → ℤ → ValueAnswer
of_integers op.Less at a b = truth (int_lt a b)
of_integers op.Greater at a b = truth (int_lt b a)
of_integers op.AtMost at a b = truth (int_le a b)
of_integers op.AtLeast at a b = truth (int_le b a)
of_integers op.Add at a b = whole at (a +ℤ b)
of_integers op.Subtract at a b = whole at (a -ℤ b)
of_integers op.Multiply at a b = whole at (a *ℤ b)
of_integers op.Divide at a b =
    divided at b (cond (is_zero (int_rem a b)) (whole at (int_div a b)) (answer.Refused (Inexact at)))
of_integers op.Remainder at a b = divided at b (whole at (int_rem a b))
of_integers other at a b = answer.Refused (WrongKind at)

-- operators of two Booleans
abbrev pub of_truths : BinaryOp → Spot → Bool → Bool → ValueAnswer
of_truths op.Implies at a b = truth (not a || b)
of_truths op.Or at a b = truth (a || b)
of_truths op.Bar at a b = truth (a || b)
of_truths op.Xor at a b = truth (not (same (Boolean a) (Boolean b)))
of_truths op.And at a b = truth (a && b)
of_truths op.Amp at a b = truth (a && b)
of_truths other at a b = answer.Refused (WrongKind at)

-- operators of two texts
abbrev pub of_texts : BinaryOp → Spot → List ℕ → List ℕ → ValueAnswer
of_texts op.Add at x y = text at (x ++ y)
of_texts other at x y = answer.Refused (WrongKind at)

-- an operator of two values by their kinds, where both are read
abbrev pub of_kinds : BinaryOp → Spot → Value → Value → ValueAnswer
of_kinds o at (Integer a) (Integer b) = of_integers o at a b
of_kinds o at (Boolean a) (Boolean b) = of_truths o at a b
of_kinds o at (Text x) (Text y) = of_texts o at x y
of_kinds o at a b = answer.Refused (WrongKind at)

-- AN OPERATOR OF TWO VALUES
abbrev pub of_two : BinaryOp → Spot → Value → Value → ValueAnswer
of_two op.Equal at a b = truth (same a b)
of_two op.NotEqual at a b = truth (not (same a b))
of_two other at a b = of_kinds other at a b

-- AN OPERATOR OF ONE VALUE
abbrev pub of_one : UnaryOp → Spot → Value → ValueAnswer
of_one Not at (Boolean b) = truth (not b)
of_one Minus at (Integer z) = whole at (neg_ℤ z)
of_one Plus at (Integer z) = answer.Value (Integer z)
of_one other at v = answer.Refused (WrongKind at)

-- what `and`, `or` and `implies` give by their first operand alone, which then is the only one that is read; a wrong
-- kind too
abbrev pub of_first : BinaryOp → Spot → Value → Option ValueAnswer
of_first op.And at (Boolean true) = None
of_first op.And at (Boolean false) = Some (truth false)
of_first op.And at other = Some (answer.Refused (WrongKind at))
of_first op.Or at (Boolean true) = Some (truth true)
of_first op.Or at (Boolean false) = None
of_first op.Or at other = Some (answer.Refused (WrongKind at))
of_first op.Implies at (Boolean true) = None
of_first op.Implies at (Boolean false) = Some (truth true)
of_first op.Implies at other = Some (answer.Refused (WrongKind at))
of_first other at v = None
