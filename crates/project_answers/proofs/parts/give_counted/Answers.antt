use Rattle.std.proofs.Common.{refl}
use Rattle.project_answers.proofs.PartLaws.{piece_part}
use Rattle.project_answers.proofs.parts.give_counted.Goals as goal

pub returns-in-Err : goal.returns-in-Err
returns-in-Err g c = piece_part _ c.args.line.now c.args.line.now 1 c.in-Err.fault refl c.in-Err.ensures
