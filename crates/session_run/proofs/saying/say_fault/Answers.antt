use Rattle.session_run.proofs.Seen.{said_as}
use Rattle.session_run.proofs.saying.say_fault.Goals as goal

pub returns-in-Script : goal.returns-in-Script
returns-in-Script g c = said_as _ _ _ _ c.in-Script.is c.say_number.ensures
