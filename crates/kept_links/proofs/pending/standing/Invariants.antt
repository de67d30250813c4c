use Rattle.std.proofs.Common.{take}
use Rattle.kept_links.specs.Kept.{AreStanding}
use Rattle.kept_links.proofs.pending.standing.Given as goal

-- those of the first so many that stand
abbrev pub invariant-loop-key : goal.invariant-loop-key
invariant-loop-key l = AreStanding l.models (take l.key-index l.keys) l.standing.items
