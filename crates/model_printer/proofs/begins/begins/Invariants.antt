use Rattle.std.proofs.Common.{◌≡◌, length}
use Rattle.model_printer.specs.Parts.{AreBegins}
use Rattle.model_printer.proofs.begins.begins.Given as goal

abbrev pub invariant-loop-number : goal.invariant-loop-number
invariant-loop-number l = record { each : length l.begins.items ≡ l.number; begins : AreBegins l.model l.nodes l.begins.items }
