use Rattle.session_course.proofs.Existence.{course_once}
use Rattle.session_course.proofs.laws.each_input_has_a_course.Goals as goal

pub returns : goal.returns
returns c = course_once
