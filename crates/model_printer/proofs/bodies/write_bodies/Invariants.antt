use Rattle.std.proofs.Common.{◌≡◌, ◌++◌, reverse}
use Rattle.print_model.specs.Layout.{text_of}
use Rattle.model_printer.specs.Bodies.{AreOpen, lines_left, turns_left}
use Rattle.model_printer.proofs.bodies.write_bodies.Given as goal

abbrev pub invariant-loop-body : goal.invariant-loop-body
invariant-loop-body l = record {
  same : l.initial.writer.bytes ++ text_of (lines_left l.model (reverse l.initial.bodies.items))
      ≡ l.writer.bytes ++ text_of (lines_left l.model (reverse l.bodies.items));
  stand : AreOpen l.model (reverse l.bodies.items);
}

abbrev pub decreases-loop-body : goal.decreases-loop-body
decreases-loop-body l = turns_left l.model (reverse l.bodies.items)
