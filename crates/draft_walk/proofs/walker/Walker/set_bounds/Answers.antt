use Rattle.std.proofs.Common.{◌≡◌, refl, ap, ◌∙◌}
use Rattle.text_model.specs.Walk.{changed}
use Rattle.draft_walk.proofs.Laws.{changed_is}
use Rattle.draft_walk.proofs.walker.Walker.set_bounds.Goals as goal

pub returns : goal.returns
returns c =
    let now = c.index_mut.result.now in
    changed_is _ (λ d. record d { bounds = c.args.reading.nodes }) now _ c.self.invariant c.index_mut.ensures.value
    (ap (λ b. record now { bounds = b }) (c.put.ensures ∙ c.nodes_read-bounds.ensures))
    ∙ ap (changed (λ d. record d { bounds = c.args.reading.nodes })) c.self.view_is
