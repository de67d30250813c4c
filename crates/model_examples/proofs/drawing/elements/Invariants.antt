-- The rows that were seen are drawn.
use Rattle.std.proofs.Common.{◌≡◌, map, take}
use Rattle.model_examples.specs.Drawn.{element_of}
use Rattle.model_examples.proofs.drawing.elements.Given as goal

abbrev pub invariant-loop-row : goal.invariant-loop-row
invariant-loop-row l = l.made.items ≡ map element_of (take l.row-index l.rows)
