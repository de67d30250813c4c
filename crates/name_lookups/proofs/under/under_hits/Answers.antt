use Rattle.link_model.specs.Imports.{under_name}
use Rattle.link_walk.specs.Calls.{read_by}
use Rattle.link_walk.proofs.GainLaws.{asked_gained, begins_empty}
use Rattle.name_lookups.proofs.NameLaws.{under_regular}
use Rattle.name_lookups.proofs.under.under_hits.Goals as goal

pub returns : goal.returns
returns c =
    let w = read_by c.args.view.now in
    asked_gained w (under_name c.args.name.now c.args.last.now c.args.element w) c.new-gains.result c.take_under.new.gains
    (begins_empty c.new-gains.result c.new-gains.ensures)
    ((under_regular c.args.name.now c.args.last.now c.args.element).sound w) c.in_ok-take_under.ensures
