use Rattle.std.proofs.Common.{◌++◌, ◌∙◌, ap}
use Rattle.std.specs.Prelude.{codes}
use Rattle.book_model.specs.Answers.{no_file}
use Rattle.project_answers.proofs.ListedLaws.{links_gone}
use Rattle.project_answers.proofs.links.answer_no_links.Goals as goal

pub returns-in-Ok-end_none : goal.returns-in-Ok-end_none
returns-in-Ok-end_none g c =
    links_gone c.args.project.now c.args.name.now c.requires.whole c.files.ensures.are c.requires.none _ _ c.deref.result.now c.give_piece.result
    (c.deref.ensures.value ∙ (c.in-Ok-end_none.ensures ∙ ap (λ l. l ++ no_file ++ codes "\n") c.in-Ok.ensures)) c.give_piece.ensures
