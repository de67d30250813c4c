use Rattle.link_walk.specs.Calls.{AreLinks}
use Rattle.lookup_rows.proofs.books.table_of.Given as goal

-- the outcomes so far fit
abbrev pub invariant-loop-line : goal.invariant-loop-line
invariant-loop-line l = AreLinks l.models l.table
