use Rattle.std.proofs.Common.{◌≡◌, ◌++◌, drop}
use Rattle.link_walk.proofs.notes.Notes.tell.Given as goal

-- what is told, and what is left, is all
abbrev pub invariant-loop-fact : goal.invariant-loop-fact
invariant-loop-fact l = l.looks ++ drop l.fact-index l.fact-items ≡ l.initial.looks ++ l.fact-items
