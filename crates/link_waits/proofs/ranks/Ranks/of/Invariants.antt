-- the ranks below this one are written
use Rattle.link_waits.proofs.RankLaws.{AreBelow}
use Rattle.link_waits.proofs.ranks.Ranks.of.Given as goal

abbrev pub invariant-loop-rank : goal.invariant-loop-rank
invariant-loop-rank l = AreBelow l.models l.ranks.items l.rank
