use Rattle.book_model.proofs.FileLaws.{one_answer, one_answers}
use Rattle.book_model.proofs.laws.one_answer_each.Goals as goal

pub returns : goal.returns
returns c = record {
  one = λ h library book c a b both. one_answer h library book c a b both.0 both.1;
  all = λ h library book cs a b both. one_answers h library book cs a b both.0 both.1;
}
