use Rattle.demand_core.specs.Computation.{◌>>=◌}
use Rattle.demand_core.proofs.ComputationLaws.{regular_then}
use Rattle.link_model.specs.Imports.{narrowed}
use Rattle.link_walk.specs.Calls.{read_by}
use Rattle.link_walk.proofs.GainLaws.{asked_gained, begins_empty}
use Rattle.name_lookups.proofs.NarrowLaws.{narrowed_regular}
use Rattle.name_lookups.proofs.narrowing.narrowed.Goals as goal

pub returns : goal.returns
returns c = λ a regular h.
    let w = read_by c.args.view.now in
    asked_gained w ((a >>= narrowed c.args.all) w) c.new-gains.result c.take_narrowed.new.gains
    (begins_empty c.new-gains.result c.new-gains.ensures)
    ((regular_then a (narrowed c.args.all) regular (narrowed_regular c.args.all)).sound w) (c.in_ok-take_narrowed.ensures a h)
