use Rattle.std.proofs.Common.{subst, sym, ap}
use Rattle.element_store.specs.BaseRules.{StandsIn}
use Rattle.link_model.specs.declared.view.View.{View}
use Rattle.link_model.specs.Outside.{library_of}
use Rattle.link_walk.proofs.ElementLaws.{element_among, elements_few}
use Rattle.inheritance.proofs.CallLaws.{gains_asked}
use Rattle.inherited_names.specs.Stages.{open_reached}
use Rattle.inherited_names.proofs.open_types.open_types.Goals as goal

pub walk_from-requires-clause-few : goal.walk_from-requires-clause-few
walk_from-requires-clause-few c = elements_few c.new-sight.result.view.now.models.now c.new-sight.ensures.clear.files

pub walk_from-requires-clause-there : goal.walk_from-requires-clause-there
walk_from-requires-clause-there c =
    element_among c.new-sight.result.view.now.models.now c.args.heir.now.of
    (subst (λ files. StandsIn files c.args.heir.now.of) (ap (λ (v : View). v.models.now) (sym c.new-sight.ensures.view)) c.requires.stands)

pub returns : goal.returns
returns c = gains_asked (λ files. open_reached (library_of files) c.args.blocking.now c.args.heir.now.of) c.new-sight.result c.args.heir.now.view.now
    c.new-sight.ensures.view c.in_ok-trail.trail c.in_ok-gains.gains c.new-sight.ensures.settled c.in_ok-trail.ensures c.in_ok-gains.ensures
