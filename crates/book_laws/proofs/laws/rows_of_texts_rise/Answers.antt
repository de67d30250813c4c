use Rattle.book_laws.proofs.TextLaws.{text_rows}
use Rattle.book_laws.proofs.laws.rows_of_texts_rise.Goals as goal

pub returns : goal.returns
returns c = text_rows
