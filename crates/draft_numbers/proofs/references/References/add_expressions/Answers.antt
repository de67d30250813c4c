use Rattle.std.proofs.Common.{ap, ◌∙◌}
use Rattle.element_store.specs.declared.outcome.Role.TheVariants as role
use Rattle.text_model.specs.Drafts.{mentions, names}
use Rattle.text_model.specs.Numbering.{nodes_of, numbered_in}
use Rattle.draft_numbers.proofs.Grown.{next_after, then_added}
use Rattle.draft_numbers.proofs.references.References.add_expressions.Goals as goal

pub returns-clause-second : goal.returns-clause-second
returns-clause-second c =
    c.in_ok-two.ensures.expr ∙ ap (λ n. numbered_in n c.args.second)
    (next_after c.args.context role.Value (nodes_of c.args.first) c.args.self.now c.add_expression.new.self c.in_ok-one.ensures.added)

pub returns-clause-added : goal.returns-clause-added
returns-clause-added c =
    then_added c.args.context (mentions role.Value (names (nodes_of c.args.first))) (mentions role.Value (names (nodes_of c.args.second)))
    c.args.self.now c.add_expression.new.self c.add_expression-2.new.self c.in_ok-one.ensures.added c.in_ok-two.ensures.added
