use Rattle.std.proofs.Common.{◌≡◌, drop}
use Rattle.ll_core.specs.Table.{table_of}
use Rattle.ll_core.specs.Test.{follows_closed}
use Rattle.ll_core.proofs.grammar.Grammar.follows_closed.Given as goal

-- what is left of the right side decides
abbrev pub invariant-loop-i : goal.invariant-loop-i
invariant-loop-i l =
    follows_closed (table_of l.self) l.left (drop l.i l.right) ≡ follows_closed (table_of l.fn.self) l.left l.right
