use Rattle.book_model.proofs.RowLaws.{references_rise, one_row_each, rows_rise}
use Rattle.book_model.proofs.laws.rows_are_exact.Goals as goal

pub returns : goal.returns
returns c = record { references = references_rise; each = one_row_each; rising = rows_rise }
