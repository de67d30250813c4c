use Rattle.std.proofs.Common.{◌≡◌, refl, ap, ◌∙◌}
use Rattle.text_model.specs.Walk.{changed}
use Rattle.draft_walk.proofs.Laws.{changed_is}
use Rattle.text_model.specs.Drafts.{definition_of}
use Rattle.draft_walk.proofs.walker.Walker.define.Goals as goal

pub returns : goal.returns
returns c =
    let now = c.index_mut.result.now in
    changed_is _ (λ d. record d { kind = definition_of d.kind }) now _ c.self.invariant c.index_mut.ensures.value
    (ap (λ k. record now { kind = k }) c.define.ensures)
    ∙ ap (changed (λ d. record d { kind = definition_of d.kind })) c.self.view_is
