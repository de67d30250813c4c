use Rattle.std.proofs.Common.{◌≡◌, refl, ap, ◌∙◌}
use Rattle.text_model.specs.Walk.{changed, expression}
use Rattle.draft_walk.proofs.Laws.{changed_is}
use Rattle.std.specs.Prelude.{Some}
use Rattle.draft_walk.proofs.walker.Walker.set_result.Goals as goal

pub returns : goal.returns
returns c =
    let now = c.index_mut.result.now in
    changed_is _ (λ d. record d { result = Some (expression c.args.reading) }) now _ c.self.invariant c.index_mut.ensures.value
    (ap (λ b. record now { result = b }) (c.put.ensures ∙ ap Some c.expression-value.ensures))
    ∙ ap (changed (λ d. record d { result = Some (expression c.args.reading) })) c.self.view_is
