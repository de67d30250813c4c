use Rattle.std.proofs.Common.{subst}
use Rattle.std.specs.Prelude.{Ok, Err}
use Rattle.script_commands.specs.Reading.{HasTaken, IsHeaded}
use Rattle.script_commands.specs.declared.command.ReadStop.{ReadStop}
use Rattle.script_commands.specs.declared.line.Heading.{Heading}
use Rattle.script_commands.proofs.Stops.{put_read, put_refused, bare_read}
use Rattle.script_commands.proofs.reader.ScriptReader.next.Goals as goal

pub returns-in-Ok-clause-read : goal.returns-in-Ok-clause-read
returns-in-Ok-clause-read g c = put_read _ _ _ _ _ _ _ _ _
    (subst (λ (h : Heading). HasTaken c.args.self.now (g.S.Source.left c.args.input.now) (g.S.Source.left c.read_line.new.input)
    (IsHeaded c.args.self.now c.read_line.new.self (g.S.Source.left c.read_line.new.input) (Ok h))) c.in-Ok-Put.field-0-is c.in-Ok-Put.ensures.read)
    c.in-Ok.ensures.read

pub returns-in-Err-read_body-clause-read : goal.returns-in-Err-read_body-clause-read
returns-in-Err-read_body-clause-read g c = put_refused _ _ _ _ _ _ _ _ c.in-Err-read_body.stop
    (subst (λ (h : Heading). HasTaken c.args.self.now (g.S.Source.left c.args.input.now) (g.S.Source.left c.read_line.new.input)
    (IsHeaded c.args.self.now c.read_line.new.self (g.S.Source.left c.read_line.new.input) (Ok h))) c.in-Ok-Put.field-0-is c.in-Ok-Put.ensures.read)
    c.in-Err-read_body.ensures.read

pub returns-in-Err-CutShort-clause-read : goal.returns-in-Err-CutShort-clause-read
returns-in-Err-CutShort-clause-read g c = bare_read _ _ _ _ _ c.read_bare_end.result
    (subst (λ (s : ReadStop). HasTaken c.args.self.now (g.S.Source.left c.args.input.now) (g.S.Source.left c.read_line.new.input)
    (IsHeaded c.args.self.now c.read_line.new.self (g.S.Source.left c.read_line.new.input)
    (Err s))) c.in-Err-CutShort.field-0-is c.in-Err-CutShort.ensures.read)
    c.read_bare_end.ensures
