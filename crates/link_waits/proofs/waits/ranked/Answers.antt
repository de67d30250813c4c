use Rattle.link_waits.proofs.WaitLaws.{among}
use Rattle.link_waits.proofs.waits.ranked.Goals as goal

pub rank-rank-requires : goal.rank-rank-requires
rank-rank-requires c = c.requires _ (among c.args.waits.now c.loop-key.key-index _ c.loop-key-test.true)
