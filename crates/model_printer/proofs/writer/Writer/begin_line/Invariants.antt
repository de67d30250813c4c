use Rattle.std.proofs.Common.{◌≡◌, ◌++◌}
use Rattle.print_model.specs.Layout.{indent}
use Rattle.model_printer.proofs.writer.Writer.begin_line.Given as goal

abbrev pub invariant-loop-step : goal.invariant-loop-step
invariant-loop-step l = l.self-inside.bytes.items ≡ l.initial.self-inside.bytes.items ++ indent l._step
