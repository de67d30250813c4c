use Rattle.std.proofs.Common.{refl, arith}
use Rattle.import_walk.specs.Deferred.{owned_part}
use Rattle.import_walk.proofs.DeferLaws.{defers_none, defers_next, defers_all}
use Rattle.import_walk.proofs.visibility.add_members.Goals as goal

pub loop-number-init : goal.loop-number-init
loop-number-init c ask files w there = defers_none ask files w c.args.inner.now 0 c.args.hunt.now

pub loop-number-preserved : goal.loop-number-preserved
loop-number-preserved c ask files w there =
    defers_next ask files w c.args.inner.now
    (owned_part ask c.args.inner.now c.args.all c.args.file c.args.model.now) c.args.numbers.now c.loop-number.number-index _ _
    c.args.hunt.now c.loop-number.hunt c.add_member.new.hunt c.loop-number-test.true refl (c.loop-number.invariant ask files w there)
    (c.in_ok-add_member.ensures ask files w there)

pub returns : goal.returns
returns c ask files w there =
    defers_all ask files w c.args.inner.now
    (owned_part ask c.args.inner.now c.args.all c.args.file c.args.model.now) c.args.numbers.now c.loop-number.number-index
    c.args.hunt.now c.loop-number.hunt (omega (arith, c.loop-number-test.false)) (c.loop-number.invariant ask files w there)
