use Rattle.std.proofs.Common.{◌≡◌, inr, ap, ◌∙◌}
use Rattle.std.specs.Prelude.{Ok, Some, None}
use Rattle.ll_core.specs.Parsing.{ahead_after, given_after, shifted_after}
use Rattle.ll_core.specs.declared.event.Event.TheVariants.{Open, Shift, Close}
use Rattle.draft_walk.proofs.Heard.{heard_more}
use Rattle.draft_walk.proofs.drafting.take.Goals as goal

pub loop-teller-preserved-in-Continue-branch-4 : goal.loop-teller-preserved-in-Continue-branch-4
loop-teller-preserved-in-Continue-branch-4 c =
    let p = c.loop-teller in
    let n = c.in_ok-next.ensures in
    let at = c.in-Open.is in
    record {
      table = n.table ∙ p.invariant.table;
      shifted = n.shifted ∙ (ap (λ e. shifted_after p.parser.shifted (Some c.args.token) (Ok e)) at ∙ p.invariant.shifted);
      ahead = inr (n.ahead ∙ ap (λ e. ahead_after (Some c.args.token) (Ok e)) at);
      fault = n.fault;
      heard = heard_more c.args.source.now p.parser c.next.new.self p.teller c.hear-in-Open.new.teller (Open c.in-Open.number) p.invariant.heard
          (n.given ∙ ap (λ e. given_after p.parser.given (Ok e)) at) c.in_ok-hear-in-Open.ensures.ok c.in_ok-hear-in-Open.ensures.known;
    }

pub loop-teller-preserved : goal.loop-teller-preserved
loop-teller-preserved c =
    let p = c.loop-teller in
    let n = c.in_ok-next.ensures in
    let at = c.in-Close.is in
    record {
      table = n.table ∙ p.invariant.table;
      shifted = n.shifted ∙ (ap (λ e. shifted_after p.parser.shifted (Some c.args.token) (Ok e)) at ∙ p.invariant.shifted);
      ahead = inr (n.ahead ∙ ap (λ e. ahead_after (Some c.args.token) (Ok e)) at);
      fault = n.fault;
      heard = heard_more c.args.source.now p.parser c.next.new.self p.teller c.hear-in-Close.new.teller Close p.invariant.heard
          (n.given ∙ ap (λ e. given_after p.parser.given (Ok e)) at) c.in_ok-hear-in-Close.ensures.ok c.in_ok-hear-in-Close.ensures.known;
    }

pub returns-in-Shift-clause-heard : goal.returns-in-Shift-clause-heard
returns-in-Shift-clause-heard c =
    let p = c.loop-teller in
    heard_more c.args.source.now p.parser c.next.new.self p.teller c.hear.new.teller Shift p.invariant.heard
    (c.in_ok-next.ensures.given ∙ ap (λ e. given_after p.parser.given (Ok e)) c.in-Shift.is) c.in_ok-hear-in-Shift.ensures.ok
    c.in_ok-hear-in-Shift.ensures.known
