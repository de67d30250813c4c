use Rattle.std.proofs.Common.{ap, sym, ◌∙◌, [], take}
use Rattle.std.proofs.lemmas.List.{take_all}
use Rattle.text_model.specs.Numbering.{depths, depths_after, greatest}
use Rattle.draft_limits.proofs.Leasts.{depths_next, greatest_reverse}
use Rattle.draft_limits.proofs.limits.greatest_depth.Goals as goal

pub loop-node-preserved : goal.loop-node-preserved
loop-node-preserved c = let i = c.loop-node.node-index in let ns = c.args.nodes.now in
    let n = c.node-item.result in
    c.in_ok-pass.ensures
    ∙ (ap (depths_after n.what) c.loop-node.invariant
    ∙ (ap (λ x. depths_after x.what (depths (take i ns) [])) c.node-item.is ∙ sym (depths_next ns i n c.loop-node-test.true)))

pub returns : goal.returns
returns c = let i = c.loop-node.node-index in let ns = c.args.nodes.now in
    c.greatest.ensures
    ∙ (ap greatest c.deref.ensures.value
    ∙ (sym (greatest_reverse c.loop-node.values.items)
    ∙ (ap greatest c.loop-node.invariant ∙ ap (λ l. greatest (depths l [])) (take_all i ns c.loop-node-test.false))))
