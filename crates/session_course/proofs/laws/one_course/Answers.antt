use Rattle.session_course.proofs.StopLaws.{courses_same}
use Rattle.session_course.proofs.laws.one_course.Goals as goal

pub returns : goal.returns
returns c = courses_same
