use Rattle.demand_core.specs.Computation.{joined}
use Rattle.demand_core.proofs.ComputationLaws.{regular_then, regular_joined}
use Rattle.link_model.specs.Names.{redefinitions}
use Rattle.link_model.specs.Readers.{target}
use Rattle.link_model.proofs.TameLaws.{target_tame}
use Rattle.link_walk.proofs.AnswerLaws.{expanded_asked}
use Rattle.link_walk.proofs.GainLaws.{begins_empty}
use Rattle.inheritance.specs.RedefinedLaws.{redefinitions_regular}
use Rattle.inheritance.specs.Sights.{sees}
use Rattle.inheritance.proofs.redefined.redefined_directly.Goals as goal

pub returns : goal.returns
returns c =
    expanded_asked redefinitions target (sees c.args.sight.now) c.args.of c.new-trail.result c.expand_redefined.new.trail
    (begins_empty _ c.new-trail.ensures)
    (regular_then (redefinitions c.args.of) (joined target) (redefinitions_regular c.args.of) (λ rs. regular_joined target
    (λ r. (target_tame r).regular) rs)) c.in_ok-expand_redefined.ensures
