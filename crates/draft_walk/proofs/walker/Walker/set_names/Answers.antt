use Rattle.std.proofs.Common.{◌≡◌, refl, ap, ◌∙◌}
use Rattle.text_model.specs.Walk.{changed}
use Rattle.draft_walk.proofs.Laws.{changed_is}
use Rattle.draft_walk.specs.Telling.{with_names}
use Rattle.draft_walk.proofs.walker.Walker.set_names.Goals as goal

pub returns : goal.returns
returns c =
    let now = c.index_mut.result.now in
    changed_is _ (with_names c.args.short c.args.name c.args.names) now _ c.self.invariant c.index_mut.ensures.value c.set_names.ensures
    ∙ ap (changed (with_names c.args.short c.args.name c.args.names)) c.self.view_is
