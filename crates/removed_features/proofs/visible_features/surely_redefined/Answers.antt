use Rattle.std.proofs.Common.{refl, arith}
use Rattle.removed_features.specs.Known.{is_sure}
use Rattle.feature_facts.specs.declared.facts.Direct.{Direct}
use Rattle.feature_facts.proofs.Tests.{map_next, map_end}
use Rattle.removed_features.proofs.visible_features.surely_redefined.Goals as goal

pub loop-direct-preserved : goal.loop-direct-preserved
loop-direct-preserved c =
    map_next (λ (d : Direct). d.redefined) (is_sure c.args.types.now) c.args.directs.now c.loop-direct.direct-index _ _ _ c.loop-direct.redefined
    c.push_if.new.elements _ c.loop-direct-test.true refl c.is_other.ensures c.in_ok-push_if.ensures c.loop-direct.invariant

pub returns : goal.returns
returns c =
    map_end (λ (d : Direct). d.redefined) (is_sure c.args.types.now) c.args.directs.now c.loop-direct.direct-index c.loop-direct.redefined _
    (omega (arith, c.loop-direct-test.false)) c.loop-direct.invariant
