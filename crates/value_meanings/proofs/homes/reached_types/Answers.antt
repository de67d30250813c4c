use Rattle.std.proofs.Common.{[], ◌∙◌, ap}
use Rattle.link_model.specs.Inheritance.{reached}
use Rattle.link_model.specs.Keys.{same_element}
use Rattle.link_model.specs.Outside.{library_of}
use Rattle.link_model.proofs.TameLaws.{reached_tame}
use Rattle.link_walk.specs.Calls.{files_of}
use Rattle.link_walk.specs.Marks.{marked_all}
use Rattle.inheritance.proofs.CallLaws.{once_settled}
use Rattle.value_meanings.proofs.homes.reached_types.Goals as goal

pub returns : goal.returns
returns c =
    once_settled (λ files. reached (library_of files) c.args.of) c.new-sight.result c.args.view.now c.new-sight.ensures.view
    c.in_ok-trail.trail c.in_ok-types.types
    (reached_tame (library_of (files_of c.args.view.now)) c.args.of).regular c.new-sight.ensures.settled c.in_ok-trail.ensures
    (c.in_ok-types.ensures ∙ ap (marked_all same_element []) (c.as_slice.ensures ∙ ap (λ t. t.found) c.trail.view_is))
