use Rattle.std.proofs.Common.{◌≡◌, ◌++◌, drop}
use Rattle.import_walk.proofs.hunt.append_hits.Given as goal

abbrev pub invariant-loop-hit : goal.invariant-loop-hit
invariant-loop-hit l = l.hits ++ drop l.hit-index l.more ≡ l.initial.hits ++ l.more
