use Rattle.std.proofs.Common.{◌≡◌, drop}
use Rattle.std.specs.Prelude.{map}
use Rattle.ll_core.specs.Table.{table_of, part_of}
use Rattle.ll_core.specs.Test.{are_right}
use Rattle.ll_core.proofs.grammar.Grammar.are_predictions_right.Given as goal

-- the symbols that are left decide
abbrev pub invariant-loop-symbol : goal.invariant-loop-symbol
invariant-loop-symbol l =
    are_right (table_of l.self) l.symbol (map (part_of l.self.predictions.now) (drop l.symbol l.self.predicted.now))
    ≡ are_right (table_of l.fn.self) 0 (table_of l.fn.self).predictions
