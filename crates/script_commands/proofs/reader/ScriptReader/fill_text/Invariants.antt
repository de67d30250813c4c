use Rattle.std.proofs.Common.{◌≡◌, ◌-◌, ◌+◌, ◌≤◌, length}
use Rattle.script_commands.specs.Reading.{HasTaken, HasUsed}
use Rattle.script_commands.proofs.reader.ScriptReader.fill_text.Given as goal

abbrev pub invariant-loop-stop : goal.invariant-loop-stop
invariant-loop-stop g l = record {
  read : HasTaken l.fn.self (g.S.Source.left l.fn.input) (g.S.Source.left l.input) (λ seen. HasUsed l.fn.self l.self l.text.items seen);
  faults : g.S.Source.faults l.input ≡ g.S.Source.faults l.fn.input;
  within : length l.text.items ≤ l.count;
}

abbrev pub decreases-loop-stop : goal.decreases-loop-stop
decreases-loop-stop g l = l.count - (length l.text.items + length l.self.pending)
