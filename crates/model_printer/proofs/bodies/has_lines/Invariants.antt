use Rattle.std.proofs.Common.{◌≡◌, drop}
use Rattle.std.specs.List.{list_any}
use Rattle.model_printer.specs.Bodies.{has_line}
use Rattle.model_printer.proofs.bodies.has_lines.Given as goal

abbrev pub invariant-loop-item : goal.invariant-loop-item
invariant-loop-item l = list_any (has_line l.model) l.items ≡ list_any (has_line l.model) (drop l.item-index l.items)
