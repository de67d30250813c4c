use Rattle.demand_core.specs.Computation.{done}
use Rattle.std.proofs.Common.{[]}
use Rattle.link_model.specs.Imports.{owning_hit}
use Rattle.link_walk.specs.Calls.{read_by}
use Rattle.link_walk.proofs.GainLaws.{gained_none, gained_true, gained_false}
use Rattle.name_lookups.proofs.under.take_owning_if.Goals as goal

pub returns-in_ok-take_owning : goal.returns-in_ok-take_owning
returns-in_ok-take_owning c =
    gained_true (read_by c.args.view.now) c.args.test (owning_hit c.args.element) (done []) c.args.gains.now c.take_owning.new.gains c.if-test.true
    c.in_ok-take_owning.ensures

pub returns-else-test : goal.returns-else-test
returns-else-test c =
    let w = read_by c.args.view.now in
    gained_false w c.args.test (owning_hit c.args.element) (done []) c.args.gains.now c.args.gains.now c.if-test.false (gained_none w c.args.gains.now)
