use Rattle.std.proofs.Common.{◌≡◌}
use Rattle.ll_core.specs.Table.{table_of}
use Rattle.ll_core.specs.Test.{are_productive, is_productive}
use Rattle.ll_core.proofs.grammar.Grammar.is_productive.Given as goal

-- the symbols that are left decide
abbrev pub invariant-loop-symbol : goal.invariant-loop-symbol
invariant-loop-symbol l = are_productive (table_of l.self) l.symbol ≡ is_productive (table_of l.fn.self)

abbrev pub decreases-loop-symbol : goal.decreases-loop-symbol
decreases-loop-symbol l = l.symbol
