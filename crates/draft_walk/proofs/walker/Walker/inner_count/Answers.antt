use Rattle.std.proofs.Common.{◌≡◌, length, ap, ◌∙◌}
use Rattle.text_model.specs.Drafts.{inner_at}
use Rattle.text_model.specs.Walk.{Walk}
use Rattle.draft_walk.proofs.Laws.{inner_is}
use Rattle.draft_walk.proofs.walker.Walker.inner_count.Goals as goal

pub returns : goal.returns
returns c =
    let w = c.self.inside in
    c.in_ok-count.ensures ∙ (ap length c.as_slice.ensures ∙ (inner_is w.elements.items w.current c.index.result.now c.self.invariant c.index.ensures
    ∙ ap (λ (x : Walk). length (inner_at x.elements x.current)) c.self.view_is))
