use Rattle.std.proofs.Common.{ap}
use Rattle.link_model.specs.Inheritance.{all_redefined}
use Rattle.inheritance.proofs.CallLaws.{answer_once, gains_asked}
use Rattle.inheritance.proofs.calls.all_redefined.Goals as goal

pub returns : goal.returns
returns c =
    let asked = gains_asked
    (λ files. all_redefined c.args.of) c.new-sight.result c.args.view.now c.new-sight.ensures.view c.in_ok-trail.trail c.in_ok-gains.gains
    c.new-sight.ensures.settled c.in_ok-trail.ensures c.in_ok-gains.ensures in
    record {
      found = c.in_ok-found.ensures.found _ asked;
      looks = c.in_ok-found.ensures.looks _ asked;
      once = answer_once c.in_ok-trail.trail.found c.in_ok-found.found c.in_ok-gains.gains.found (ap
          (λ t. t.found) c.in_ok-gains.ensures) c.in_ok-found.ensures.given;
    }
