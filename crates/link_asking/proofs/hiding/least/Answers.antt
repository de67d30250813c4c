use Rattle.std.proofs.Common.{◌≡◌, ◌∙◌, ◌<◌, ◌-◌, ◌+◌, length, arith, refl}
use Rattle.link_walk.proofs.MarkLaws.{get_among}
use Rattle.link_asking.proofs.LeastLaws.{least_back, either_member}
use Rattle.link_asking.proofs.hiding.least.Goals as goal

pub lesser-requires-clause-hit : goal.lesser-requires-clause-hit
lesser-requires-clause-hit c =
    let lt : c.loop-at.at - 1 < length c.args.hits.now = omega (arith, c.loop-at.invariant.0, c.loop-at-test.true) in
    c.requires _ (get_among c.args.hits.now (c.loop-at.at - 1) _ lt)

pub loop-at-preserved : goal.loop-at-preserved
loop-at-preserved c =
    let lt : c.loop-at.at - 1 < length c.args.hits.now = omega (arith, c.loop-at.invariant.0, c.loop-at-test.true) in
    let up : c.loop-at.at ≡ (c.loop-at.at - 1) + 1 = omega (arith, c.loop-at-test.true) in (
      omega (arith, lt),
      λ files are of. c.lesser.ensures.lesser files are of
          ∙ least_back files c.args.hits.now (c.loop-at.at - 1) c.loop-at.at _ _ _ lt up refl (c.loop-at.invariant.1 files are of),
      either_member c.args.hits.now _ c.lesser.result c.loop-at.least (get_among c.args.hits.now (c.loop-at.at - 1) _ lt) c.loop-at.invariant.2
          c.lesser.ensures.either,
    )
