use Rattle.std.proofs.Common.{ap, sym, ◌∙◌}
use Rattle.std.specs.Prelude.{Some, get_or}
use Rattle.draft_limits.proofs.Leasts.{least_next}
use Rattle.draft_limits.specs.Least.{lesser}
use Rattle.draft_limits.proofs.limits.least.Goals as goal

pub loop-place-preserved : goal.loop-place-preserved
loop-place-preserved c = let i = c.loop-place.place-index in let ps = c.args.places.now in
    c.lesser-found.ensures ∙ (ap (λ o. lesser o (Some (get_or ps i 0))) c.loop-place.invariant ∙ sym (least_next ps i 0 c.loop-place-test.true))
