use Rattle.link_model.specs.Names.{effective}
use Rattle.link_walk.specs.Calls.{files_of, read_by}
use Rattle.link_asking.proofs.hiding.add_effective.Goals as goal

pub returns-clause-joined : goal.returns-clause-joined
returns-clause-joined g c = c.in_ok-add.ensures.joined (read_by c.args.view.now) (effective c.args.name.now c.args.at) c.in_ok-more.ensures.asked

pub returns-clause-found : goal.returns-clause-found
returns-clause-found g c = λ before. c.in_ok-add.ensures.found (files_of c.args.view.now) before c.in_ok-more.ensures.found
