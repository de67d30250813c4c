use Rattle.link_walk.specs.Calls.{reading}
use Rattle.implied_rules.specs.Implied.{AreListed}
use Rattle.implied_rules.proofs.implying.implied.Given as goal

-- the files of lesser ranks are listed with their rows
abbrev pub invariant-loop-rank : goal.invariant-loop-rank
invariant-loop-rank l = AreListed l.models (reading l.models l.table) l.rank l.rows
