use Rattle.std.proofs.Common.{◌∙◌, ap}
use Rattle.link_model.specs.Keys.{is_in}
use Rattle.inheritance.specs.Sights.{explicit_reached}
use Rattle.inheritance.proofs.CallLaws.{explicit_reached_regular, in_settled_found}
use Rattle.inheritance.proofs.calls.specialises.Goals as goal

pub returns : goal.returns
returns c =
    c.is_among-yes.ensures ∙ (ap (is_in c.args.base) (c.as_slice.ensures ∙ ap (λ t. t.found) c.trail.view_is)
    ∙ in_settled_found (λ files. explicit_reached c.args.of) c.new-sight.result c.args.view.now c.new-sight.ensures.view c.in_ok-trail.trail c.args.base
    (explicit_reached_regular c.args.of) c.new-sight.ensures.settled c.in_ok-trail.ensures)
