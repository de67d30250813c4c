use Rattle.std.proofs.Common.{ap, sym, ◌∙◌}
use Rattle.std.specs.Prelude.{get_or, max}
use Rattle.draft_limits.proofs.Leasts.{greatest_next}
use Rattle.draft_limits.proofs.limits.greatest.Goals as goal

pub loop-number-preserved : goal.loop-number-preserved
loop-number-preserved c = let i = c.loop-number.number-index in let ns = c.args.numbers.now in
    c.greater-found.ensures ∙ (ap (λ n. max n (get_or ns i 0)) c.loop-number.invariant ∙ sym (greatest_next ns i 0 c.loop-number-test.true))
