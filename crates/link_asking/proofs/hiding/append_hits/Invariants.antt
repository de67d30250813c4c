-- what is appended, and what is left, is all
use Rattle.std.proofs.Common.{◌≡◌, ◌++◌, drop}
use Rattle.link_asking.proofs.hiding.append_hits.Given as goal

abbrev pub invariant-loop-hit : goal.invariant-loop-hit
invariant-loop-hit l = l.hits ++ drop l.hit-index l.more ≡ l.initial.hits ++ l.more
