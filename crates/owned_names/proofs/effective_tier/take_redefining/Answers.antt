use Rattle.std.proofs.Common.{refl}
use Rattle.link_walk.proofs.GainLaws.{gained_next}
use Rattle.link_walk.specs.Calls.{read_by}
use Rattle.owned_names.specs.Walked.{effective_part}
use Rattle.owned_names.proofs.effective_tier.take_redefining.Goals as goal

pub loop-index-preserved : goal.loop-index-preserved
loop-index-preserved c =
    gained_next (read_by c.args.view.now)
    (effective_part c.args.model.now c.args.at.file c.args.name.now) c.redefining-members.result.now c.loop-index.index-index _ _ c.args.gains.now
    c.loop-index.gains c.take_effective.new.gains
    c.loop-index-test.true refl c.loop-index.invariant c.in_ok-take_effective.ensures
