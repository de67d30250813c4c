use Rattle.std.proofs.Common.{◌≡◌, refl, ap, ◌∙◌}
use Rattle.text_model.specs.Walk.{changed}
use Rattle.draft_walk.proofs.Laws.{changed_is}
use Rattle.draft_walk.proofs.walker.Walker.set_direction.Goals as goal

pub returns : goal.returns
returns c =
    let now = c.index_mut.result.now in
    changed_is _ (λ d. record d { marks = record d.marks { direction = c.args.way } }) now _ c.self.invariant c.index_mut.ensures.value refl
    ∙ ap (changed (λ d. record d { marks = record d.marks { direction = c.args.way } })) c.self.view_is
