use Rattle.std.proofs.Common.{length, []}
use Rattle.demand_core.specs.Computation.{done}
use Rattle.link_model.specs.Imports.{inside}
use Rattle.link_walk.specs.Calls.{read_by}
use Rattle.import_walk.specs.Deferred.{again_from, members_at}
use Rattle.import_walk.proofs.DeferLaws.{defers_true, defers_false, defers_none}
use Rattle.import_walk.proofs.visibility.add_inside_if.Goals as goal

pub returns-in_ok-add_inside : goal.returns-in_ok-add_inside
returns-in_ok-add_inside c ask =
    let files = c.args.view.now.models.now in
    let n = length (members_at files c.args.of) in
    defers_true ask files (read_by c.args.view.now) c.args.inner.now n c.args.asked (inside
    (again_from ask c.args.inner.now) c.args.all c.args.of) (done []) c.args.hunt.now c.add_inside.new.hunt c.if-asked.true
    (c.in_ok-add_inside.ensures ask)

pub returns-else-asked : goal.returns-else-asked
returns-else-asked c ask =
    let files = c.args.view.now.models.now in
    let n = length (members_at files c.args.of) in
    defers_false ask files (read_by c.args.view.now) c.args.inner.now n c.args.asked (inside
    (again_from ask c.args.inner.now) c.args.all c.args.of) (done []) c.args.hunt.now c.args.hunt.now c.if-asked.false
    (defers_none ask files (read_by c.args.view.now) c.args.inner.now n c.args.hunt.now)
