use Rattle.std.proofs.Common.{◌≡◌, drop}
use Rattle.std.specs.Prelude.{map}
use Rattle.std.specs.List.{list_all}
use Rattle.ll_core.specs.Table.{table_of, rule_of}
use Rattle.ll_core.specs.Test.{is_closed_rule}
use Rattle.ll_core.proofs.grammar.Grammar.are_productions_closed.Given as goal

-- the productions that are left decide
abbrev pub invariant-loop-production : goal.invariant-loop-production
invariant-loop-production l =
    list_all (is_closed_rule (table_of l.self)) (map (rule_of l.self.symbols.now) (drop l.production-index l.self.productions.now))
    ≡ list_all (is_closed_rule (table_of l.fn.self)) (table_of l.fn.self).rules
