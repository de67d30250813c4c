use Rattle.std.proofs.Common.{◌≡◌, refl, ap, ◌∙◌}
use Rattle.text_model.specs.Walk.{changed, with_inner}
use Rattle.draft_walk.proofs.Laws.{changed_is}
use Rattle.draft_walk.proofs.walker.Walker.list_inner.Goals as goal

pub returns : goal.returns
returns c =
    let now = c.index_mut.result.now in
    changed_is _ (with_inner c.args.item c.args.role c.args.path) now _ c.self.invariant c.index_mut.ensures.value c.in_ok-list_inner.ensures
    ∙ ap (changed (with_inner c.args.item c.args.role c.args.path)) c.self.view_is
