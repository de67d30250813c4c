use Rattle.token_core.proofs.OneLexing.{one_lexing}
use Rattle.token_core.proofs.lexer.one_lexing.Goals as goal

pub returns : goal.returns
returns c = one_lexing
