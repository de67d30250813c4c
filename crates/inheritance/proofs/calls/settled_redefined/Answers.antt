use Rattle.std.proofs.Common.{[], ◌∙◌, ap}
use Rattle.link_model.specs.Keys.{same_element}
use Rattle.link_model.specs.Inheritance.{all_redefined}
use Rattle.link_model.proofs.TameLaws.{all_redefined_tame}
use Rattle.link_walk.specs.Marks.{marked_all}
use Rattle.inheritance.proofs.CallLaws.{once_settled}
use Rattle.inheritance.proofs.calls.settled_redefined.Goals as goal

pub returns : goal.returns
returns c =
    once_settled (λ files. all_redefined c.args.of) c.new-sight.result c.args.view.now c.new-sight.ensures.view c.in_ok-trail.trail c.in_ok-es.es
    (all_redefined_tame c.args.of).regular c.new-sight.ensures.settled c.in_ok-trail.ensures
    (c.in_ok-es.ensures ∙ ap (marked_all same_element []) (c.as_slice.ensures ∙ ap (λ t. t.found) c.trail.view_is))
