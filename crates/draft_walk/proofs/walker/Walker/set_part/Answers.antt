use Rattle.std.proofs.Common.{◌≡◌, refl, ap, ◌∙◌}
use Rattle.text_model.specs.Walk.{changed}
use Rattle.draft_walk.proofs.Laws.{changed_is}
use Rattle.draft_walk.proofs.walker.Walker.set_part.Goals as goal

pub returns : goal.returns
returns c =
    let now = c.index_mut.result.now in
    changed_is _ (λ d. record d { marks = record d.marks { part_of = c.args.part } }) now _ c.self.invariant c.index_mut.ensures.value refl
    ∙ ap (changed (λ d. record d { marks = record d.marks { part_of = c.args.part } })) c.self.view_is
