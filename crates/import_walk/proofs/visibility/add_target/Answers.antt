use Rattle.std.proofs.Common.{true, cond, [], sym, subst}
use Rattle.demand_core.specs.Computation.{done, join}
use Rattle.link_model.specs.Imports.{under_name, last_written}
use Rattle.link_model.specs.Outside.{library_of}
use Rattle.link_walk.specs.Calls.{read_by}
use Rattle.import_walk.specs.Deferred.{Defers, again_from}
use Rattle.import_walk.proofs.DeferLaws.{defers_true, defers_false, defers_task, defers_join, defers_gains}
use Rattle.link_walk.proofs.GainLaws.{plus}
use Rattle.import_walk.proofs.PartLaws.{last_there}
use Rattle.import_walk.proofs.visibility.add_target.Goals as goal

pub returns-then-import : goal.returns-then-import
returns-then-import g c ask =
    let files = c.args.view.now.models.now in
    let lib = library_of files in
    let w = read_by c.args.view.now in
    let x = c.args.name.now in
    let i = c.args.import.now in
    let e = c.args.element in
    let inner = c.args.inner.now in
    let again = again_from ask inner in
    defers_true ask files w inner 1 i.star (again i.recursive i.all e) (join (under_name x (last_written c.args.model.now i) e) (cond i.recursive
    (again true i.all e) (done []))) c.args.hunt.now c.defer.new.self c.if-import.true
    (subst (λ z. Defers ask files w inner 1 (again i.recursive i.all e w) c.args.hunt.now z) (sym c.in_ok-defer.ensures)
    (defers_task ask files w inner i.recursive i.all e c.args.hunt.now c.requires.stands))

pub returns : goal.returns
returns g c ask =
    let files = c.args.view.now.models.now in
    let lib = library_of files in
    let w = read_by c.args.view.now in
    let x = c.args.name.now in
    let i = c.args.import.now in
    let e = c.args.element in
    let inner = c.args.inner.now in
    let again = again_from ask inner in
    let last = last_there c.args.model.now i c.reference.result.now c.last_segment-last.result.now c.reference.ensures.lent c.last_segment-last.ensures in
    let under = under_name x (last_written c.args.model.now i) e in
    let more = cond i.recursive (again true i.all e) (done []) in
    defers_false ask files w inner 1 i.star (again i.recursive i.all e) (join under more) c.args.hunt.now c.defer_if.new.hunt c.if-import.false
    (defers_join ask files w inner 0 1 under more c.args.hunt.now c.add.new.self c.defer_if.new.hunt
    (subst (λ z. Defers ask files w inner 0 (under w) c.args.hunt.now z) (sym c.in_ok-add.ensures)
    (subst (λ z. Defers ask files w inner 0 (under_name x z e w) c.args.hunt.now
    (plus c.args.hunt.now c.in_ok-gains.gains.found c.in_ok-gains.gains.waits c.in_ok-gains.gains.looks)) last
    (defers_gains ask files w inner 0 c.in_ok-gains.gains (under_name x c.last_segment-last.result.now e w) c.args.hunt.now c.in_ok-gains.ensures)))
    (c.in_ok-defer_if.ensures ask files w c.requires.stands))
