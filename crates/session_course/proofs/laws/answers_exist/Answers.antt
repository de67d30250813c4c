use Rattle.session_course.proofs.AnswerLaws.{answers_some}
use Rattle.session_course.proofs.laws.answers_exist.Goals as goal

pub returns : goal.returns
returns c = answers_some
