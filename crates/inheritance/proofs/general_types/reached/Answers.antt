use Rattle.link_walk.proofs.ElementLaws.{element_among, elements_few}
use Rattle.inheritance.proofs.general_types.reached.Goals as goal

pub walk_from-requires-clause-few : goal.walk_from-requires-clause-few
walk_from-requires-clause-few c = elements_few c.args.sight.now.view.now.models.now c.requires.clear.files

pub walk_from-requires-clause-there : goal.walk_from-requires-clause-there
walk_from-requires-clause-there c = element_among c.args.sight.now.view.now.models.now c.args.of c.requires.stands
