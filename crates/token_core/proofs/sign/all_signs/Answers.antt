use Rattle.std.proofs.Common.{sym}
use Rattle.token_core.proofs.Lists.{signs_are}
use Rattle.token_core.proofs.sign.all_signs.Goals as goal

pub returns : goal.returns
returns c = sym signs_are
