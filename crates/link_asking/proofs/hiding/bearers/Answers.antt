use Rattle.demand_core.specs.Computation.{join}
use Rattle.link_model.specs.Names.{declared, effective}
use Rattle.link_model.specs.Outside.{library_of}
use Rattle.link_walk.specs.Calls.{files_of, read_by}
use Rattle.link_asking.proofs.HidingLaws.{bearing_is}
use Rattle.link_asking.proofs.hiding.bearers.Goals as goal

pub returns-clause-asked : goal.returns-clause-asked
returns-clause-asked g c =
    let w = read_by c.args.view.now in
    let x = c.args.name.now in
    let n = c.args.at in
    bearing_is w (library_of (files_of c.args.view.now)) x n c.add_inherited.new.gains
    (c.in_ok-add_inherited.ensures.joined.joins (join (declared x n) (effective x n))
    (c.in_ok-add_effective.ensures.joined.joins (declared x n) c.in_ok-gains.ensures.asked))

pub returns-clause-found : goal.returns-clause-found
returns-clause-found g c = c.in_ok-add_inherited.ensures.found (c.in_ok-add_effective.ensures.found c.in_ok-gains.ensures.found)
