use Rattle.std.proofs.Common.{◌∙◌}
use Rattle.element_store.specs.declared.outcome.Role.TheVariants as role
use Rattle.draft_numbers.proofs.Grown.{expr_more, nodes_more}
use Rattle.draft_numbers.proofs.references.References.add_nodes.Goals as goal

pub loop-node-preserved : goal.loop-node-preserved
loop-node-preserved c =
    let l = c.loop-node in
    record {
      expr = c.in_ok-push.ensures.ok ∙ expr_more c.args.context role.Value l.yielded c.in-Some.node c.args.self.now l.self l.expr c.in_ok-add_node.field-0
          l.invariant.added l.invariant.expr c.in_ok-add_node.ensures.node;
      added = c.in_ok-add_node.ensures.added ∙ nodes_more c.args.context role.Value l.yielded c.in-Some.node c.args.self.now l.self l.invariant.added;
    }
