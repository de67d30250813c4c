use Rattle.script_commands.proofs.Headings.{place_found}
use Rattle.script_commands.proofs.line.place_of.Goals as goal

pub returns : goal.returns
returns c = place_found c.args.byte c.args.bytes.now c.memchr.result c.memchr.ensures
