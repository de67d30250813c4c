use Rattle.std.proofs.Common.{◌≡◌, ◌++◌, drop}
use Rattle.link_walk.proofs.trail.append.Given as goal

-- what is appended, and what is left, is all
abbrev pub invariant-loop-element : goal.invariant-loop-element
invariant-loop-element l = l.elements ++ drop l.element-index l.more ≡ l.initial.elements ++ l.more
