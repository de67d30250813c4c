use Rattle.session_course.proofs.Existence.{cut_some}
use Rattle.session_course.proofs.laws.cut_exists.Goals as goal

pub returns : goal.returns
returns c = cut_some
