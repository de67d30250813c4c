use Rattle.std.proofs.Common.{subst}
use Rattle.book_model.specs.Queries.{links_query}
use Rattle.project_book.specs.Held.{Held}
use Rattle.linked_project.specs.Answered.{IsAnswered}
use Rattle.project_core.proofs.project.Project.links.Goals as goal

pub returns-clause-answered : goal.returns-clause-answered
returns-clause-answered c =
    subst (λ (held : Held). IsAnswered held.broken (links_query held.files c.args.name.now) c.links.result) c.self.view_is c.links.ensures.answered
