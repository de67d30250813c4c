use Rattle.std.proofs.Common.{◌≡◌, refl, ap, ◌∙◌}
use Rattle.text_model.specs.Walk.{changed, with_item}
use Rattle.draft_walk.proofs.Laws.{changed_is}
use Rattle.draft_walk.proofs.walker.Walker.list_item.Goals as goal

pub returns : goal.returns
returns c =
    let now = c.index_mut.result.now in
    changed_is _ (with_item c.args.item) now _ c.self.invariant c.index_mut.ensures.value (ap (λ is. record now { items = is }) c.in_ok-push.ensures.ok)
    ∙ ap (changed (with_item c.args.item)) c.self.view_is
