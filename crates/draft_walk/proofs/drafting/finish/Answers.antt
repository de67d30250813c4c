use Rattle.std.proofs.Common.{◌≡◌, inr, ap, ◌∙◌}
use Rattle.std.specs.Prelude.{Ok, Some, None}
use Rattle.ll_core.specs.Parsing.{ahead_after, given_after, shifted_after}
use Rattle.ll_core.specs.declared.event.Event.TheVariants.{Open, Close}
use Rattle.draft_walk.proofs.Heard.{heard_more}
use Rattle.draft_walk.proofs.drafting.finish.Goals as goal

pub loop-number-preserved-in-Continue-branch-3 : goal.loop-number-preserved-in-Continue-branch-3
loop-number-preserved-in-Continue-branch-3 c =
    let p = c.loop-number in
    let n = c.in_ok-next.ensures in
    let at = c.in-Open.is in
    record {
      table = n.table ∙ p.invariant.table;
      shifted = n.shifted ∙ (ap (λ e. shifted_after p.parser.shifted None (Ok e)) at ∙ p.invariant.shifted);
      ahead = inr (n.ahead ∙ ap (λ e. ahead_after None (Ok e)) at);
      fault = n.fault;
      heard = heard_more c.args.source.now p.parser c.next.new.self p.teller c.hear.new.teller (Open c.in-Open.number) p.invariant.heard
          (n.given ∙ ap (λ e. given_after p.parser.given (Ok e)) at) c.in_ok-hear-in-Open.ensures.ok c.in_ok-hear-in-Open.ensures.known;
    }

pub loop-number-preserved : goal.loop-number-preserved
loop-number-preserved c =
    let p = c.loop-number in
    let n = c.in_ok-next.ensures in
    let at = c.in-Close.is in
    record {
      table = n.table ∙ p.invariant.table;
      shifted = n.shifted ∙ (ap (λ e. shifted_after p.parser.shifted None (Ok e)) at ∙ p.invariant.shifted);
      ahead = inr (n.ahead ∙ ap (λ e. ahead_after None (Ok e)) at);
      fault = n.fault;
      heard = heard_more c.args.source.now p.parser c.next.new.self p.teller c.hear-in-Close.new.teller Close p.invariant.heard
          (n.given ∙ ap (λ e. given_after p.parser.given (Ok e)) at) c.in_ok-hear-in-Close.ensures.ok c.in_ok-hear-in-Close.ensures.known;
    }
