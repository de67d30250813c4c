use Rattle.std.proofs.Common.{◌≡◌, ◌∙◌, ap, subst, sym}
use Rattle.book_model.specs.AskedNames.{AskFor}
use Rattle.book_model.specs.Live.{NamesLive}
use Rattle.book_model.specs.Queries.{find_query}
use Rattle.linked_project.proofs.project.LinkedProject.find.Goals as goal

pub returns-in-Ok-clause-found : goal.returns-in-Ok-clause-found
returns-in-Ok-clause-found g c =
    let files = c.files.ensures.lent ∙ ap (λ held. held.files) c.self.view_is in
    let name = c.in-Ok-Some.name in (
      sym (ap (λ held. held.broken) c.self.view_is) ∙ c.if-self.false,
      (
        name,
        subst (AskFor c.args.words.now) c.in-Ok-Some.field-0-is c.in-Ok-Some.ensures.asked,
        subst (λ fs. c.in-Ok.outcome ≡ find_query fs name.path) files c.in-Ok.ensures.found,
      ),
    )

pub returns-in-Ok-clause-live : goal.returns-in-Ok-clause-live
returns-in-Ok-clause-live g c =
    subst (λ fs. NamesLive fs c.in-Ok.outcome) (c.files.ensures.lent ∙ ap (λ held. held.files) c.self.view_is) c.in-Ok.ensures.live
