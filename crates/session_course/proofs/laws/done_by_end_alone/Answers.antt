use Rattle.session_course.proofs.EndingLaws.{done_exactly}
use Rattle.session_course.proofs.laws.done_by_end_alone.Goals as goal

pub returns : goal.returns
returns c = done_exactly
