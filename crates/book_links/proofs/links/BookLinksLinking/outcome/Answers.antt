use Rattle.std.proofs.Common.{◌≡◌, ◌∙◌, ap}
use Rattle.std.specs.Prelude.{None, Some}
use Rattle.book_model.specs.Outcomes.{outcome_of}
use Rattle.book_links.specs.Linked.{followed, without}
use Rattle.book_links.proofs.SettledLaws.{copied_is, linked_least, outcome_decided, outcome_held}
use Rattle.book_links.proofs.links.BookLinksLinking.outcome.Goals as goal

pub returns-in-Decided : goal.returns-in-Decided
returns-in-Decided c =
    let models = c.args._models.now in
    let inside = c.self.inside in
    let holds = linked_least (record { files = without inside.over.files inside.closed; kept = inside.kept; roots = inside.roots }) models
    c.self.invariant (ap followed c.self.view_is ∙ c.requires.over) in
    copied_is c.copied.result _ (outcome_of models c.args.reference) c.copied.ensures
    (outcome_decided models inside.kept.engine holds c.args.reference _ c.in-Decided.ensures)

pub returns-in-Cyclic : goal.returns-in-Cyclic
returns-in-Cyclic c =
    let models = c.args._models.now in
    let inside = c.self.inside in
    let holds = linked_least (record { files = without inside.over.files inside.closed; kept = inside.kept; roots = inside.roots }) models
    c.self.invariant (ap followed c.self.view_is ∙ c.requires.over) in
    outcome_held models inside.kept.engine holds c.args.reference None (Some c.in-Cyclic.on) c.in-Cyclic.ensures.0 c.in-Cyclic.ensures.1

pub returns-in-Open : goal.returns-in-Open
returns-in-Open c =
    let models = c.args._models.now in
    let inside = c.self.inside in
    let holds = linked_least (record { files = without inside.over.files inside.closed; kept = inside.kept; roots = inside.roots }) models
    c.self.invariant (ap followed c.self.view_is ∙ c.requires.over) in
    outcome_held models inside.kept.engine holds c.args.reference None None c.in-Open.ensures.0 c.in-Open.ensures.1
