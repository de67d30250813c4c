use Rattle.std.proofs.Common.{refl, arith}
use Rattle.demand_core.specs.Computation.{joined}
use Rattle.demand_core.proofs.ComputationLaws.{regular_joined}
use Rattle.link_walk.specs.Calls.{read_by}
use Rattle.link_walk.proofs.GainLaws.{gained_none, gained_next, gained_all, asked_gained, begins_empty}
use Rattle.link_walk.proofs.MarkLaws.{get_among}
use Rattle.feature_facts.specs.Stages.{directs_of}
use Rattle.feature_facts.proofs.TableLaws.{directs_regular}
use Rattle.feature_facts.proofs.facts.directs.Goals as goal

pub loop-by-init : goal.loop-by-init
loop-by-init c = gained_none (read_by c.args.heir.now.view.now) c.new-gains.result

pub take_directs-requires-clause-stands : goal.take_directs-requires-clause-stands
take_directs-requires-clause-stands c = c.requires.stand _ (get_among c.args.redefiners.now c.loop-by.by-index _ c.loop-by-test.true)

pub loop-by-preserved : goal.loop-by-preserved
loop-by-preserved c =
    gained_next (read_by c.args.heir.now.view.now) directs_of c.args.redefiners.now c.loop-by.by-index _ _ c.new-gains.result c.loop-by.gains
    c.take_directs.new.gains c.loop-by-test.true refl c.loop-by.invariant c.in_ok-take_directs.ensures

pub returns : goal.returns
returns c =
    let w = read_by c.args.heir.now.view.now in
    let qs = c.args.redefiners.now in
    asked_gained w (joined directs_of qs w) c.new-gains.result c.loop-by.gains (begins_empty c.new-gains.result c.new-gains.ensures)
    ((regular_joined directs_of directs_regular qs).sound w)
    (gained_all w directs_of qs c.loop-by.by-index c.new-gains.result c.loop-by.gains (omega (arith, c.loop-by-test.false)) c.loop-by.invariant)
