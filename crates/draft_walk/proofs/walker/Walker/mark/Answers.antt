use Rattle.std.proofs.Common.{◌≡◌, refl, ap, ◌∙◌}
use Rattle.text_model.specs.Walk.{changed}
use Rattle.draft_walk.proofs.Laws.{changed_is}
use Rattle.text_model.specs.Drafts.{marked}
use Rattle.draft_walk.proofs.walker.Walker.mark.Goals as goal

pub returns : goal.returns
returns c =
    let now = c.index_mut.result.now in
    changed_is _ (λ d. record d { marks = marked c.args.mark d.marks }) now _ c.self.invariant c.index_mut.ensures.value
    (ap (λ m. record now { marks = m }) c.set_mark.ensures)
    ∙ ap (changed (λ d. record d { marks = marked c.args.mark d.marks })) c.self.view_is
