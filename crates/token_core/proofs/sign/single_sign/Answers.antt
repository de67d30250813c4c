use Rattle.std.proofs.Common.{arith}
use Rattle.token_core.proofs.Lists.{single_at}
use Rattle.token_core.proofs.sign.single_sign.Goals as goal

pub returns : goal.returns
returns c = single_at c.args.byte (omega arith)
