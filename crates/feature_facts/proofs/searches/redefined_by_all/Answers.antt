use Rattle.demand_core.specs.Computation.{joined}
use Rattle.link_model.specs.Inheritance.{all_redefined}
use Rattle.inheritance.proofs.CallLaws.{gains_asked}
use Rattle.feature_facts.proofs.searches.redefined_by_all.Goals as goal

pub returns : goal.returns
returns c = gains_asked (λ files. joined all_redefined c.args.features.now) c.new-sight.result c.args.view.now c.new-sight.ensures.view c.in_ok-trail.trail
    c.in_ok-gains.gains c.new-sight.ensures.settled c.in_ok-trail.ensures c.in_ok-gains.ensures
