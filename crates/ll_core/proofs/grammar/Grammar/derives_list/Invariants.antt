use Rattle.std.proofs.Common.{◌≡◌, drop}
use Rattle.std.specs.Prelude.{map}
use Rattle.std.specs.List.{list_any}
use Rattle.ll_core.specs.Table.{table_of, rule_of}
use Rattle.ll_core.specs.Test.{is_lowering}
use Rattle.ll_core.proofs.grammar.Grammar.derives_list.Given as goal

-- the productions that are left decide
abbrev pub invariant-loop-production : goal.invariant-loop-production
invariant-loop-production l =
    list_any (is_lowering (table_of l.self) l.symbol) (map (rule_of l.self.symbols.now) (drop l.production-index l.self.productions.now))
    ≡ list_any (is_lowering (table_of l.fn.self) l.symbol) (table_of l.fn.self).rules
