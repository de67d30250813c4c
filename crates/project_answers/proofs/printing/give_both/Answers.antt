use Rattle.project_answers.proofs.PrintLaws.{both_given, first_failed}
use Rattle.project_answers.proofs.printing.give_both.Goals as goal

pub returns-in-Ok : goal.returns-in-Ok
returns-in-Ok g c = both_given _ _ _ c.args.first.now c.args.second.now c.give_piece-in-Ok.result c.in-Ok.ensures c.give_piece-in-Ok.ensures

pub returns-in-Err : goal.returns-in-Err
returns-in-Err g c = first_failed _ _ c.args.first.now c.args.second.now c.in-Err.fault c.in-Err.ensures
