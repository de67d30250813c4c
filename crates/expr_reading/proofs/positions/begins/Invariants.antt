use Rattle.std.proofs.Common.{◌≡◌, length}
use Rattle.expr_reading.specs.Positions.{AreBegins}
use Rattle.expr_reading.proofs.positions.begins.Given as goal

abbrev pub invariant-loop-number : goal.invariant-loop-number
invariant-loop-number l = record { each : length l.begins.items ≡ l.number; begins : AreBegins l.nodes l.begins.items }
