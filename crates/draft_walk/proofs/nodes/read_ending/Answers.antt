use Rattle.std.proofs.Common.{◌≡◌, ap, sym, ◌∙◌}
use Rattle.std.specs.Prelude.{Bool, ◌||◌, get_or, take}
use Rattle.text_model.specs.declared.draft.DraftNode.{DraftNode}
use Rattle.text_model.specs.Drafts.{has_what, is_all, is_deep, is_star}
use Rattle.draft_walk.proofs.Laws.{has_next}
use Rattle.draft_walk.proofs.nodes.read_ending.Goals as goal

pub loop-node-preserved : goal.loop-node-preserved
loop-node-preserved c =
    let ns = c.args.nodes.now in
    let i = c.loop-node.node-index in
    let n = c.node-item.result in
    let inv = c.loop-node.invariant in
    let below = c.loop-node-test.true in
    record {
      star = c.add.ensures.star ∙ (ap (λ b. b || is_star n.what) inv.star
          ∙ (ap (λ (m : DraftNode). has_what is_star (take i ns) || is_star m.what) c.node-item.is ∙ sym (has_next is_star ns i n below)));
      recursive = c.add.ensures.recursive ∙ (ap (λ b. b || is_deep n.what) inv.recursive
          ∙ (ap (λ (m : DraftNode). has_what is_deep (take i ns) || is_deep m.what) c.node-item.is ∙ sym (has_next is_deep ns i n below)));
      all = c.add.ensures.all ∙ (ap (λ b. b || is_all n.what) inv.all
          ∙ (ap (λ (m : DraftNode). has_what is_all (take i ns) || is_all m.what) c.node-item.is ∙ sym (has_next is_all ns i n below)));
    }
