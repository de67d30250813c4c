use Rattle.session_course.proofs.EndingLaws.{cut_here}
use Rattle.session_course.proofs.laws.rows_end_the_cut.Goals as goal

pub returns : goal.returns
returns c = cut_here
