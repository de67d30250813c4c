use Rattle.std.proofs.Common.{◌≡◌, ◌++◌, drop}
use Rattle.import_walk.proofs.hunt.append_elements.Given as goal

abbrev pub invariant-loop-element : goal.invariant-loop-element
invariant-loop-element l = l.elements ++ drop l.element-index l.more ≡ l.initial.elements ++ l.more
