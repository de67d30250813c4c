use Rattle.std.proofs.Common.{◌∙◌, ap}
use Rattle.std.specs.Prelude.{Some}
use Rattle.book_model.specs.Answers.{find_answer}
use Rattle.project_answers.proofs.FindLaws.{find_answered}
use Rattle.project_answers.proofs.finding.answer_find.Goals as goal

pub returns-in-Ok : goal.returns-in-Ok
returns-in-Ok g c =
    find_answered c.args.project.now c.args.words.now (Some c.args.name) c.deref.result.now _ c.give_piece.result c.requires.whole c.files.ensures.are
    c.requires.asked (c.deref.ensures.value ∙ (c.in-Ok.ensures ∙ ap (λ fs. find_answer fs (Some c.args.name)) c.files.ensures.lent))
    c.give_piece.ensures
