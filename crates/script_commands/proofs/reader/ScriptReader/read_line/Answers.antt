use Rattle.std.proofs.Common.{ap, take}
use Rattle.script_commands.proofs.Stops.{line_said, line_refused}
use Rattle.script_commands.proofs.reader.ScriptReader.read_line.Goals as goal

pub returns-in-Err-read_heading-clause-read : goal.returns-in-Err-read_heading-clause-read
returns-in-Err-read_heading-clause-read g c = line_refused _ _ _ _ c.in-Ok.place _ c.in-Err-read_heading.stop c.in-Ok.ensures.read
    (ap (λ bs. take c.in-Ok.place bs) c.pending.ensures.lent) c.in-Err-read_heading.ensures

pub returns-in-Ok-read_heading-clause-read : goal.returns-in-Ok-read_heading-clause-read
returns-in-Ok-read_heading-clause-read g c = line_said _ _ _ _ _ c.in-Ok.place _ _ c.in-Ok.ensures.read
    (ap (λ bs. take c.in-Ok.place bs) c.pending.ensures.lent) c.in-Ok-read_heading.ensures c.use_up.ensures.after
