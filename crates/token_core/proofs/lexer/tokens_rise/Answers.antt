use Rattle.token_core.proofs.Kept.{tokens_rise}
use Rattle.token_core.proofs.lexer.tokens_rise.Goals as goal

pub returns : goal.returns
returns c = tokens_rise
