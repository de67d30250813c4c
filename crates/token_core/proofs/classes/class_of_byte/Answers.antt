use Rattle.std.proofs.Common.{arith}
use Rattle.token_core.proofs.Lists.{class_at}
use Rattle.token_core.proofs.classes.class_of_byte.Goals as goal

pub returns : goal.returns
returns c = class_at c.args.byte (omega arith)
