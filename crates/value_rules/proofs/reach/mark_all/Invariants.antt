use Rattle.value_rules.specs.Reach.{IsReached}
use Rattle.value_rules.proofs.reach.mark_all.Given as goal

abbrev pub invariant-loop-place : goal.invariant-loop-place
invariant-loop-place g l = IsReached (g.M.Meanings.links l.meanings) (g.M.Meanings.library l.meanings) l.fn.marks l.place l.marks
