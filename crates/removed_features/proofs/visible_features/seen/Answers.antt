use Rattle.std.proofs.Common.{refl, arith}
use Rattle.removed_features.specs.Known.{visible_by}
use Rattle.feature_facts.specs.declared.facts.Redefiner.{Redefiner}
use Rattle.feature_facts.proofs.Tests.{map_next, map_end}
use Rattle.removed_features.proofs.visible_features.seen.Goals as goal

pub loop-by-preserved : goal.loop-by-preserved
loop-by-preserved c =
    map_next (λ (r : Redefiner). r.feature) (visible_by c.args.types.now) c.args.redefiners.now c.loop-by.by-index _ _ _ c.loop-by.features
    c.push_if.new.elements _ c.loop-by-test.true refl c.is_visible.ensures c.in_ok-push_if.ensures c.loop-by.invariant

pub returns : goal.returns
returns c =
    map_end (λ (r : Redefiner). r.feature) (visible_by c.args.types.now) c.args.redefiners.now c.loop-by.by-index c.loop-by.features _
    (omega (arith, c.loop-by-test.false)) c.loop-by.invariant
