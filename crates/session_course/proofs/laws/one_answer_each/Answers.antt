use Rattle.session_course.proofs.AnswerLaws.{one_answer, one_answers}
use Rattle.session_course.proofs.laws.one_answer_each.Goals as goal

pub returns : goal.returns
returns c = record {
  one = λ h library book cs a b both. one_answer h library book cs a b both.0 both.1;
  all = λ h library book cs a b both. one_answers h library book cs a b both.0 both.1;
}
