use Rattle.link_walk.specs.Calls.{read_by}
use Rattle.link_walk.proofs.GainLaws.{asked_gained, begins_empty}
use Rattle.member_candidates.specs.Stages.{open_members}
use Rattle.member_candidates.proofs.OpenLists.{open_members_regular}
use Rattle.member_candidates.proofs.open_members.open_hits.Goals as goal

pub returns : goal.returns
returns c =
    let w = read_by c.args.view.now in
    asked_gained w (open_members c.args.name.now c.args.at w) c.new-gains.result c.take_open_members.new.gains
    (begins_empty c.new-gains.result c.new-gains.ensures) ((open_members_regular c.args.name.now c.args.at).sound w) c.in_ok-take_open_members.ensures
