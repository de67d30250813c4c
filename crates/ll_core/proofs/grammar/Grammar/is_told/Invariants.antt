use Rattle.std.proofs.Common.{◌≡◌, drop}
use Rattle.ll_core.specs.Table.{table_of, rule_in}
use Rattle.ll_core.specs.Checked.{follow_of, predictions_of}
use Rattle.ll_core.specs.Test.{all_begin, tells, is_told}
use Rattle.ll_core.proofs.grammar.Grammar.is_told.Given as goal

-- what is left of the right side decides
abbrev pub invariant-loop-symbol : goal.invariant-loop-symbol
invariant-loop-symbol l =
    all_begin (table_of l.self) (drop l.symbol-index l.right) (follow_of (table_of l.self) l.production.left)
    (tells (predictions_of (table_of l.self) l.production.left) l.number)
    ≡ is_told (table_of l.fn.self) l.number (rule_in l.fn.self l.production)
