use Rattle.print_model.proofs.LineChains as laws
use Rattle.print_model.proofs.laws.written_texts_lex.Goals as goal

pub returns : goal.returns
returns c = laws.written_texts_lex
