use Rattle.script_commands.proofs.Windows.{looked_beyond}
use Rattle.script_commands.proofs.reader.ScriptReader.look_beyond.Goals as goal

pub returns-in-Ok-clause-read : goal.returns-in-Ok-clause-read
returns-in-Ok-clause-read g c = looked_beyond _ _ _ _ _ _ c.requires c.in-Ok.ensures.told c.in-Ok.ensures.bound c.in-Ok.field-0-test.1
