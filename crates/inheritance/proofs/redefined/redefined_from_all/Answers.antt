use Rattle.link_walk.proofs.ElementLaws.{element_among, elements_few}
use Rattle.inheritance.proofs.redefined.redefined_from_all.Goals as goal

pub walk-requires-clause-few : goal.walk-requires-clause-few
walk-requires-clause-few c = elements_few c.args.sight.now.view.now.models.now c.requires.clear.files

pub walk-requires-clause-there : goal.walk-requires-clause-there
walk-requires-clause-there c a m = element_among c.args.sight.now.view.now.models.now a (c.requires.stand a m)
