use Rattle.std.proofs.Common.{◌≡◌, ◌∙◌, ◌<◌, ◌-◌, length, arith, refl}
use Rattle.std.specs.Prelude.{suc}
use Rattle.link_walk.proofs.MarkLaws.{get_among}
use Rattle.link_tiers.proofs.PickLaws.{hit_within, some_within, either_among, least_next}
use Rattle.link_tiers.proofs.picking.least.Goals as goal

pub lesser_with-least-requires-clause-hit : goal.lesser_with-least-requires-clause-hit
lesser_with-least-requires-clause-hit c =
    let lt : c.loop-at.at - 1 < length c.args.hits.now = omega (arith, c.loop-at.invariant.0, c.loop-at-test.true) in
    hit_within c.args.models.now c.args.hits.now (c.loop-at.at - 1) _ c.requires lt

pub lesser_with-least-requires-clause-least : goal.lesser_with-least-requires-clause-least
lesser_with-least-requires-clause-least c = some_within c.args.models.now c.args.hits.now c.loop-at.least c.requires c.loop-at.invariant.2

pub loop-at-preserved : goal.loop-at-preserved
loop-at-preserved c =
    let lt : c.loop-at.at - 1 < length c.args.hits.now = omega (arith, c.loop-at.invariant.0, c.loop-at-test.true) in
    let up : c.loop-at.at ≡ suc (c.loop-at.at - 1) = omega (arith, c.loop-at-test.true) in (
      omega (arith, lt),
      c.lesser_with-least.ensures.lesser
          ∙ least_next c.args.models.now c.args.without c.args.hits.now (c.loop-at.at - 1) c.loop-at.at _ _ _ lt up refl c.loop-at.invariant.1,
      either_among c.args.hits.now _ c.loop-at.least c.lesser_with-least.result (get_among c.args.hits.now (c.loop-at.at - 1) _ lt) c.loop-at.invariant.2
          c.lesser_with-least.ensures.either,
    )
