use Rattle.link_model.proofs.TameLaws.{effective_tame}
use Rattle.link_model.specs.Names.{effective}
use Rattle.link_walk.specs.Calls.{read_by}
use Rattle.link_walk.proofs.GainLaws.{asked_gained, begins_empty}
use Rattle.owned_names.proofs.effective_tier.effective_hits.Goals as goal

pub returns : goal.returns
returns c =
    let w = read_by c.args.view.now in
    asked_gained w (effective c.args.name.now c.args.at w) c.new-gains.result c.take_all.new.gains (begins_empty c.new-gains.result c.new-gains.ensures)
    ((effective_tame c.args.name.now c.args.at).regular.sound w) c.in_ok-take_all.ensures
