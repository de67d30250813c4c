use Rattle.link_walk.proofs.MarkLaws.{get_among}
use Rattle.link_asking.proofs.hiding.unseen.Goals as goal

pub is_unseen-kept-requires : goal.is_unseen-kept-requires
is_unseen-kept-requires c = (c.requires _ (get_among c.args.hits.now c.loop-hit.hit-index _ c.loop-hit-test.true)).0
