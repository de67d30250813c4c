use Rattle.std.proofs.Common.{◌≤◌, length, refl, arith}
use Rattle.kept_links.proofs.KeyLaws.{one_more, all_are}
use Rattle.kept_links.proofs.keys.push_model.Goals as goal

pub loop-index-init : goal.loop-index-init
loop-index-init c = refl

pub loop-index-preserved : goal.loop-index-preserved
loop-index-preserved c =
    one_more c.args.file c.args.model.now.references c.loop-index.index c.loop-index.keys.items c.push.new.self.items _
    (omega (arith, c.loop-index-test.true, c.references-index-end.ensures)) c.in_ok-push.ensures.items c.loop-index.invariant

pub returns : goal.returns
returns c =
    all_are c.args.file c.args.model.now.references c.loop-index.index c.loop-index.keys.items _
    (omega (arith, c.loop-index-test.false, c.references-index-end.ensures)) c.loop-index.invariant
