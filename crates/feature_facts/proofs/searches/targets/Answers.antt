use Rattle.inheritance.proofs.CallLaws.{gains_asked}
use Rattle.inheritance.specs.Sights.{direct_targets}
use Rattle.feature_facts.proofs.searches.targets.Goals as goal

pub returns : goal.returns
returns c = gains_asked (λ files. direct_targets c.args.feature) c.new-sight.result c.args.view.now c.new-sight.ensures.view c.in_ok-trail.trail
    c.in_ok-gains.gains c.new-sight.ensures.settled c.in_ok-trail.ensures c.in_ok-gains.ensures
