use Rattle.std.proofs.Common.{◌∙◌, ap, subst}
use Rattle.std.specs.Prelude.{All}
use Rattle.linked_project.specs.Listed.{IsLiveRow}
use Rattle.linked_project.proofs.project.LinkedProject.links.Goals as goal

pub returns-in-Ok-clause-live : goal.returns-in-Ok-clause-live
returns-in-Ok-clause-live g c =
    subst (λ fs. All (IsLiveRow fs) c.in-Ok.rows) (c.files.ensures.lent ∙ ap (λ held. held.files) c.self.view_is) c.in-Ok.ensures.live
