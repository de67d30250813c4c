use Rattle.std.proofs.Common.{◌≡◌, ◌∙◌, ◌<◌, ◌≤◌, length, sym, subst, arith}
use Rattle.link_waits.proofs.RankLaws.{below_none, below_more, below_all}
use Rattle.link_waits.proofs.ranks.Ranks.of.Goals as goal

pub loop-rank-init : goal.loop-rank-init
loop-rank-init c = below_none c.args.models.now _ (c.in_ok-ranks.ensures ∙ c.files-files.ensures.count)

pub loop-rank-preserved : goal.loop-rank-preserved
loop-rank-preserved c =
    below_more c.args.models.now c.loop-rank.ranks.items c.loop-rank.rank c.at_rank-file.result.0 c.files-files.ensures.kept.names c.at_rank-file.ensures.ranked
    c.loop-rank.invariant

pub returns : goal.returns
returns c =
    let le : length c.args.models.now ≤ c.loop-rank.rank = omega (arith, c.files-files.ensures.count, c.loop-rank-test.false) in
    below_all c.args.models.now c.loop-rank.ranks.items c.loop-rank.rank le c.loop-rank.invariant
