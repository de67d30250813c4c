use Rattle.std.proofs.Common.{◌≡◌, subst}
use Rattle.std.specs.Prelude.{IfOk}
use Rattle.book_model.specs.AskedNames.{name_by}
use Rattle.project_answers.proofs.NameLaws.{name_good}
use Rattle.project_answers.proofs.words.name_in.Goals as goal

pub returns-in-Ok-clause-good : goal.returns-in-Ok-clause-good
returns-in-Ok-clause-good c =
    name_good c.args.words.now c.in-Ok.tokens c.requires c.in-Ok.ensures.whole c.in-Ok.ensures.each c.name_by.result
    (subst (λ ts. IfOk c.name_by.result (λ n. n ≡ name_by c.args.words.now ts)) c.as_slice.ensures c.name_by.ensures)
