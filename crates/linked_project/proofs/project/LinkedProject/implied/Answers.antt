use Rattle.std.proofs.Common.{◌≡◌, ◌∙◌, map, ap, subst, sym}
use Rattle.std.specs.Prelude.{All}
use Rattle.book_model.specs.Files.{stored}
use Rattle.book_model.specs.Outcomes.{linked_world}
use Rattle.implied_model.specs.Implied.{implications}
use Rattle.implied_rules.specs.Implied.{said_by}
use Rattle.project_answers.specs.ImpliedLines.{IsLiveImplied}
use Rattle.project_answers.proofs.ImpliedLaws.{rows_live}
use Rattle.linked_project.proofs.project.LinkedProject.implied.Goals as goal

pub returns-in-Ok-clause-implied : goal.returns-in-Ok-clause-implied
returns-in-Ok-clause-implied g c =
    let models = c.models.ensures ∙ ap stored (c.files.ensures.lent ∙ ap (λ held. held.files) c.self.view_is) in (
      sym (ap (λ held. held.broken) c.self.view_is) ∙ c.if-self.false,
      subst (λ all. map said_by c.in-Ok.rows ≡ implications all (linked_world all)) models c.in-Ok.ensures.rows,
    )

pub returns-in-Ok-clause-live : goal.returns-in-Ok-clause-live
returns-in-Ok-clause-live g c =
    let files = c.files.ensures.lent ∙ ap (λ held. held.files) c.self.view_is in
    rows_live c.args.self.now.files c.models.result.now c.in-Ok.rows (c.models.ensures ∙ ap stored files) c.in-Ok.ensures.live
