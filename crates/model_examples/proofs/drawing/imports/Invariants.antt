-- The rows that were seen are drawn.
use Rattle.std.proofs.Common.{◌≡◌, take}
use Rattle.model_examples.proofs.drawing.imports.Given as goal

abbrev pub invariant-loop-row : goal.invariant-loop-row
invariant-loop-row l = l.made.items ≡ take l.row-index l.rows
