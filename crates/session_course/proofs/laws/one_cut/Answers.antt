use Rattle.session_course.proofs.CutLaws.{cuts_same}
use Rattle.session_course.proofs.laws.one_cut.Goals as goal

pub returns : goal.returns
returns c = cuts_same
