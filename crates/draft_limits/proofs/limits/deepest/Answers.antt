use Rattle.std.proofs.Common.{ap, sym, ◌∙◌, take}
use Rattle.std.specs.List.{flat_map}
use Rattle.text_model.specs.Numbering.{least}
use Rattle.draft_limits.proofs.Leasts.{deep_next}
use Rattle.draft_limits.specs.Least.{deep_places, lesser}
use Rattle.draft_limits.proofs.limits.deepest.Goals as goal

pub loop-draft-preserved : goal.loop-draft-preserved
loop-draft-preserved c = let i = c.loop-draft.draft-index in let ds = c.args.drafts.now in
    let d = c.draft-item.result in
    c.lesser-found.ensures
    ∙ (ap (λ o. lesser o c.in_ok-deep_in.field-0) c.loop-draft.invariant
    ∙ (ap (lesser (least (flat_map deep_places (take i ds)))) (c.in_ok-deep_in.ensures ∙ ap (λ x. least (deep_places x)) c.draft-item.is)
    ∙ sym (deep_next ds i d c.loop-draft-test.true)))
