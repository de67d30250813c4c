use Rattle.std.proofs.Common.{[], sym, ◌∙◌}
use Rattle.demand_core.specs.Computation.{done}
use Rattle.link_model.specs.Inheritance.{is_redefined_elsewhere}
use Rattle.link_walk.proofs.GainLaws.{gained_true, gained_false, gained_none}
use Rattle.inherited_names.specs.Known.{facts_in, reachable}
use Rattle.feature_facts.specs.Known.{world_of}
use Rattle.inherited_names.proofs.conditions.take_staying.Goals as goal

pub returns-then-away : goal.returns-then-away
returns-then-away c =
    let s = c.args.stage.now in
    let w = world_of s.heir.now in
    gained_true w (is_redefined_elsewhere s.types.now (facts_in s) c.args.candidate.hit.element) (done []) (reachable s c.args.candidate) c.args.gains.now
    c.args.gains.now (sym (c.in_ok-away.ensures s.types.now (facts_in s) c.requires.described.describes) ∙ c.if-away.true) (gained_none w c.args.gains.now)

pub returns : goal.returns
returns c =
    let s = c.args.stage.now in
    let w = world_of s.heir.now in
    gained_false w (is_redefined_elsewhere s.types.now (facts_in s) c.args.candidate.hit.element) (done []) (reachable s c.args.candidate) c.args.gains.now
    c.take_reachable.new.gains (sym (c.in_ok-away.ensures s.types.now (facts_in s) c.requires.described.describes) ∙ c.if-away.false)
    c.in_ok-take_reachable.ensures
