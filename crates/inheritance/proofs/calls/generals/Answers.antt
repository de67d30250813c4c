use Rattle.link_model.specs.Inheritance.{generals}
use Rattle.link_model.specs.Outside.{library_of}
use Rattle.inheritance.proofs.CallLaws.{gains_asked}
use Rattle.inheritance.proofs.calls.generals.Goals as goal

pub returns : goal.returns
returns c =
    let asked = gains_asked (λ files. generals
    (library_of files) c.args.of) c.new-sight.result c.args.view.now c.new-sight.ensures.view c.in_ok-trail.trail c.in_ok-gains.gains
    c.new-sight.ensures.settled c.in_ok-trail.ensures c.in_ok-gains.ensures in
    record { found = c.in_ok-found.ensures.found _ asked; looks = c.in_ok-found.ensures.looks _ asked }
