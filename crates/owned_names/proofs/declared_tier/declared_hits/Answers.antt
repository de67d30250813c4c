use Rattle.link_model.proofs.TameLaws.{declared_tame}
use Rattle.link_model.specs.Names.{declared}
use Rattle.link_walk.specs.Calls.{read_by}
use Rattle.link_walk.proofs.GainLaws.{asked_gained, begins_empty}
use Rattle.owned_names.proofs.declared_tier.declared_hits.Goals as goal

pub returns : goal.returns
returns c =
    let w = read_by c.args.view.now in
    asked_gained w (declared c.args.name.now c.args.at w) c.new-gains.result c.take_declared.new.gains (begins_empty c.new-gains.result c.new-gains.ensures)
    ((declared_tame c.args.name.now c.args.at).regular.sound w) c.in_ok-take_declared.ensures
