use Rattle.std.proofs.Common.{true, sym, subst}
use Rattle.element_store.specs.declared.numbers.ElementNo.{ElementNo}
use Rattle.link_model.specs.Imports.{in_owned}
use Rattle.import_walk.specs.Deferred.{Defers, again_from, TargetStandsIn}
use Rattle.import_walk.proofs.DeferLaws.{defers_none, defers_task}
use Rattle.import_walk.proofs.visibility.defer_owned.Goals as goal

pub returns-in_ok-defer-in-Owned : goal.returns-in_ok-defer-in-Owned
returns-in_ok-defer-in-Owned c ask files w owns =
    let inner = c.args.inner.now in
    let e : ElementNo = record { file = c.args.file; index = c.in-Owned.index } in
    subst (λ t. Defers ask files w inner 1 (in_owned (again_from ask inner) c.args.all c.args.file t w) c.args.hunt.now c.defer.new.self)
    (sym c.in-Owned.is)
    (subst (Defers ask files w inner 1 (again_from ask inner true c.args.all e w) c.args.hunt.now) (sym c.in_ok-defer-in-Owned.ensures)
    (defers_task ask files w inner true c.args.all e c.args.hunt.now (subst (TargetStandsIn files c.args.file) c.in-Owned.is owns)))

pub returns-in-Alias : goal.returns-in-Alias
returns-in-Alias c ask files w owns =
    let inner = c.args.inner.now in
    subst (λ t. Defers ask files w inner 1 (in_owned (again_from ask inner) c.args.all c.args.file t w) c.args.hunt.now c.args.hunt.now)
    (sym c.in-Alias.is)
    (defers_none ask files w inner 1 c.args.hunt.now)
