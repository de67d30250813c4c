use Rattle.std.proofs.Common.{◌≡◌, drop}
use Rattle.ll_core.specs.Table.{table_of, rule_of}
use Rattle.ll_core.specs.Checked.{rank_of}
use Rattle.ll_core.specs.Test.{ranked_below, is_ranked_rule}
use Rattle.ll_core.proofs.grammar.Grammar.is_ranked_production.Given as goal

-- what is left of the right side decides
abbrev pub invariant-loop-symbol : goal.invariant-loop-symbol
invariant-loop-symbol l =
    ranked_below (table_of l.self) (rank_of (table_of l.self) l.fn.production.left) (drop l.symbol-index l.right)
    ≡ is_ranked_rule (table_of l.fn.self) (rule_of l.fn.self.symbols.now l.fn.production)
