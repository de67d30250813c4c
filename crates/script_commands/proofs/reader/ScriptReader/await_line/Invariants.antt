use Rattle.std.proofs.Common.{◌≡◌, ◌-◌, ◌+◌, ◌≤◌, [], length}
use Rattle.linker_base.specs.declared.limits.TheConstants.{LINE_BYTES}
use Rattle.script_commands.specs.Reading.{HasTaken, HasUsed, IsFree}
use Rattle.script_commands.proofs.reader.ScriptReader.await_line.Given as goal

abbrev pub invariant-loop-place : goal.invariant-loop-place
invariant-loop-place g l = record {
  read : HasTaken l.initial.self (g.S.Source.left l.fn.input) (g.S.Source.left l.input) (λ seen. HasUsed l.initial.self l.self [] seen);
  faults : g.S.Source.faults l.input ≡ g.S.Source.faults l.fn.input;
  within : l.clear ≤ length l.self.pending;
  free : IsFree l.clear l.self.pending;
}

abbrev pub decreases-loop-place : goal.decreases-loop-place
decreases-loop-place g l = LINE_BYTES + 1 - length l.self.pending
