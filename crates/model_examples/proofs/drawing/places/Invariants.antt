-- The rows that were seen are drawn.
use Rattle.std.proofs.Common.{◌≡◌, map, take}
use Rattle.model_examples.proofs.drawing.places.Given as goal

abbrev pub invariant-loop-row : goal.invariant-loop-row
invariant-loop-row l = map (λ list. list.items) l.made.items ≡ map (λ row. row.now) (take l.row-index l.rows)
