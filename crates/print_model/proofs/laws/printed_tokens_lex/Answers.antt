use Rattle.print_model.proofs.Cutting as laws
use Rattle.print_model.proofs.laws.printed_tokens_lex.Goals as goal

pub returns : goal.returns
returns c = laws.lex_puts
