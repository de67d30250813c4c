use Rattle.std.proofs.Common.{◌≡◌, ◌++◌, ap, sym, ◌∙◌}
use Rattle.text_model.specs.Drafts.{name_in}
use Rattle.draft_walk.specs.Telling.{or_text}
use Rattle.draft_walk.proofs.Laws.{first_text_push, names_push}
use Rattle.draft_walk.proofs.nodes.own_names.Goals as goal

pub loop-node-preserved : goal.loop-node-preserved
loop-node-preserved c = record {
  own = c.in_ok-add.ensures.own ∙ (ap (λ t. t ++ name_in c.in-Some.node.what) c.loop-node.invariant.own ∙ sym (names_push c.loop-node.yielded c.in-Some.node));
  locale = c.in_ok-add.ensures.locale ∙ (ap (λ o. or_text o c.in-Some.node.what) c.loop-node.invariant.locale
      ∙ sym (first_text_push c.loop-node.yielded c.in-Some.node));
}
