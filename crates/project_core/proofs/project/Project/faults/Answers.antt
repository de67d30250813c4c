use Rattle.std.proofs.Common.{subst}
use Rattle.std.specs.Prelude.{Some}
use Rattle.book_model.specs.Queries.{faults_query}
use Rattle.project_book.specs.Held.{Held}
use Rattle.linked_project.specs.Answered.{IsAnswered}
use Rattle.project_core.proofs.project.Project.faults.Goals as goal

pub returns-clause-answered : goal.returns-clause-answered
returns-clause-answered c =
    subst (λ (held : Held). IsAnswered held.broken (Some (faults_query held.files)) c.faults.result) c.self.view_is c.faults.ensures.answered
