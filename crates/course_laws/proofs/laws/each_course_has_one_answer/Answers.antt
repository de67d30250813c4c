use Rattle.course_laws.proofs.TextLaws.{answers_once, course_answers_once}
use Rattle.course_laws.proofs.laws.each_course_has_one_answer.Goals as goal

pub returns : goal.returns
returns c = record { commands = answers_once; course = course_answers_once }
