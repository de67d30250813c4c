use Rattle.link_walk.specs.Calls.{read_by}
use Rattle.member_candidates.proofs.OpenLists.{open_none, open_next, open_all}
use Rattle.member_candidates.proofs.open_members.take_open_declared.Goals as goal

pub loop-index-init : goal.loop-index-init
loop-index-init c = record {
  taken = open_none c.args.model.now c.args.at.file c.args.name.now c.args.at.index (read_by c.args.view.now) c.args.gains.now;
  within = tt;
}

pub loop-index-preserved : goal.loop-index-preserved
loop-index-preserved c = record {
  taken = open_next c.args.model.now c.args.at.file c.args.name.now c.args.at.index (read_by c.args.view.now) c.args.gains.now c.loop-index.gains
      c.take_open_hit.new.gains c.loop-index.after c.in-Some.index c.in-Some.ensures.least c.loop-index.invariant.taken c.in_ok-take_open_hit.ensures;
  within = c.in-Some.ensures.within;
}

pub returns : goal.returns
returns c = open_all c.args.model.now c.args.at.file c.args.name.now c.args.at.index (read_by c.args.view.now) c.args.gains.now c.loop-index.gains
    c.loop-index.after c.in_default.ensures.least c.loop-index.invariant.taken
