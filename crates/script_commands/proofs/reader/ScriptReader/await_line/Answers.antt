use Rattle.std.proofs.Common.{ℕ, subst}
use Rattle.std.specs.Prelude.{Option, Ok}
use Rattle.script_commands.specs.Reading.{IsLineEnd}
use Rattle.script_commands.proofs.Stops.{line_stopped}
use Rattle.script_commands.proofs.reader.ScriptReader.await_line.Goals as goal

pub returns-in-Err-fill-clause-read : goal.returns-in-Err-fill-clause-read
returns-in-Err-fill-clause-read g c = line_stopped _ _ _ _ _ _ c.pending.result.now c.in-Err-fill.stop c.loop-place.invariant.read c.pending.ensures.lent
    (subst (λ (o : Option ℕ). IsLineEnd c.pending.result.now (Ok o)) c.in-Ok-None.field-0-is c.in-Ok-None.ensures) c.in-Err-fill.ensures.read
