use Rattle.std.proofs.Common.{true, [], subst, sym}
use Rattle.demand_core.specs.Computation.{done}
use Rattle.import_walk.specs.Deferred.{again_from, Defers}
use Rattle.import_walk.proofs.DeferLaws.{defers_true, defers_false, defers_none, defers_task}
use Rattle.import_walk.proofs.visibility.defer_if.Goals as goal

pub returns-in_ok-defer : goal.returns-in_ok-defer
returns-in_ok-defer c ask files w stands =
    let inner = c.args.inner.now in
    defers_true ask files w inner 1 c.args.asked (again_from ask inner true c.args.all c.args.namespace)
    (done []) c.args.hunt.now c.defer.new.self c.if-asked.true
    (subst (Defers ask files w inner 1 (again_from ask inner true c.args.all c.args.namespace w) c.args.hunt.now) (sym c.in_ok-defer.ensures)
    (defers_task ask files w inner true c.args.all c.args.namespace c.args.hunt.now stands))

pub returns-else-asked : goal.returns-else-asked
returns-else-asked c ask files w stands =
    defers_false ask files w c.args.inner.now 1 c.args.asked (again_from ask c.args.inner.now true c.args.all c.args.namespace)
    (done []) c.args.hunt.now c.args.hunt.now c.if-asked.false
    (defers_none ask files w c.args.inner.now 1 c.args.hunt.now)
