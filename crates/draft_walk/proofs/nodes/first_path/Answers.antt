use Rattle.std.proofs.Common.{◌≡◌, ap, sym, ◌∙◌}
use Rattle.draft_walk.specs.Telling.{or_path}
use Rattle.draft_walk.proofs.Laws.{first_path_push}
use Rattle.draft_walk.proofs.nodes.first_path.Goals as goal

pub loop-node-preserved : goal.loop-node-preserved
loop-node-preserved c =
    c.keep_first.ensures ∙ (ap (λ o. or_path o c.in-Some.node.what) c.loop-node.invariant ∙ sym (first_path_push c.loop-node.yielded c.in-Some.node))
