use Rattle.std.proofs.Common.{refl}
use Rattle.link_walk.proofs.GainLaws.{gained_next}
use Rattle.link_walk.specs.Calls.{read_by}
use Rattle.feature_facts.specs.Stages.{told_of}
use Rattle.member_candidates.specs.Stages.{open_effective}
use Rattle.member_candidates.proofs.open_members.take_open_redefining.Goals as goal

pub loop-index-preserved : goal.loop-index-preserved
loop-index-preserved c =
    gained_next (read_by c.args.view.now) (told_of c.args.model.now (open_effective c.args.name.now c.args.at.file)) c.redefining-members.result.now
    c.loop-index.index-index _ _ c.args.gains.now c.loop-index.gains c.take_open_effective.new.gains c.loop-index-test.true refl c.loop-index.invariant
    c.in_ok-take_open_effective.ensures
