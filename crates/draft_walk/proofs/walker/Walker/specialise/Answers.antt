use Rattle.std.proofs.Common.{◌≡◌, ◌++◌, refl, ap, ◌∙◌}
use Rattle.text_model.specs.Drafts.{mentions, names}
use Rattle.text_model.specs.Walk.{changed}
use Rattle.draft_walk.proofs.Laws.{changed_is}
use Rattle.draft_walk.proofs.walker.Walker.specialise.Goals as goal

pub returns : goal.returns
returns c =
    let now = c.index_mut.result.now in
    changed_is _ (λ d. record d { specs = d.specs ++ mentions c.args.role (names c.args.reading.nodes) }) now _ c.self.invariant c.index_mut.ensures.value
    (ap (λ s. record now { specs = s }) (c.in_ok-mention_all.ensures
    ∙ ap (λ ns. now.specs ++ mentions c.args.role (names ns)) (c.into_vec-read.ensures ∙ c.nodes_read.ensures)))
    ∙ ap (changed (λ d. record d { specs = d.specs ++ mentions c.args.role (names c.args.reading.nodes) })) c.self.view_is
