use Rattle.std.proofs.Common.{refl, arith}
use Rattle.link_walk.specs.Calls.{read_by}
use Rattle.import_walk.specs.Deferred.{shown_import}
use Rattle.import_walk.proofs.DeferLaws.{defers_none, defers_next, defers_all}
use Rattle.import_walk.proofs.visibility.add_imports.Goals as goal

pub loop-index-init : goal.loop-index-init
loop-index-init g c ask = defers_none ask c.args.view.now.models.now
    (read_by c.args.view.now) c.args.inner.now 0 c.args.hunt.now

pub loop-index-preserved : goal.loop-index-preserved
loop-index-preserved g c ask =
    let files = c.args.view.now.models.now in
    defers_next ask files (read_by c.args.view.now) c.args.inner.now
    (shown_import c.args.name.now ask c.args.inner.now c.args.all c.args.file c.args.model.now) c.args.numbers.now c.loop-index.index-index _ _
    c.args.hunt.now c.loop-index.hunt c.consider_import.new.hunt c.loop-index-test.true refl (c.loop-index.invariant ask)
    (c.in_ok-consider_import.ensures ask)

pub returns : goal.returns
returns g c ask =
    let files = c.args.view.now.models.now in
    defers_all ask files (read_by c.args.view.now) c.args.inner.now
    (shown_import c.args.name.now ask c.args.inner.now c.args.all c.args.file c.args.model.now) c.args.numbers.now c.loop-index.index-index
    c.args.hunt.now c.loop-index.hunt (omega (arith, c.loop-index-test.false)) (c.loop-index.invariant ask)
