use Rattle.std.proofs.Common.{◌++◌, ap}
use Rattle.std.specs.Prelude.{codes}
use Rattle.project_answers.specs.Lines.{drop_rest}
use Rattle.project_answers.proofs.AnswerLaws.{drop_answered}
use Rattle.project_answers.proofs.edits.answer_drop.Goals as goal

pub returns-in-Ok-remove-clause-answered : goal.returns-in-Ok-remove-clause-answered
returns-in-Ok-remove-clause-answered g c =
    drop_answered c.args.project.now c.remove.new.self c.args.name.now (c.in-Ok.line.items ++ drop_rest c.in-Ok-remove.applied ++ codes "\n")
    c.in-Ok-remove.applied _
    c.tell_drop.result c.in-Ok-remove.ensures.applied c.files.ensures.are (ap (λ l. l ++ drop_rest c.in-Ok-remove.applied ++ codes "\n") c.in-Ok.ensures)
    c.tell_drop.ensures
