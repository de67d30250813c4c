use Rattle.std.proofs.Common.{◌≡◌, drop}
use Rattle.std.specs.Prelude.{map}
use Rattle.ll_core.specs.Table.{table_of, rule_of}
use Rattle.ll_core.specs.Test.{are_told}
use Rattle.ll_core.proofs.grammar.Grammar.are_productions_told.Given as goal

-- the productions that are left decide
abbrev pub invariant-loop-number : goal.invariant-loop-number
invariant-loop-number l =
    are_told (table_of l.self) l.number (map (rule_of l.self.symbols.now) (drop l.number l.self.productions.now))
    ≡ are_told (table_of l.fn.self) 0 (table_of l.fn.self).rules
