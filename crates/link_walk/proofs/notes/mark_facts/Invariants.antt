use Rattle.std.proofs.Common.{◌≡◌, drop}
use Rattle.link_walk.specs.Marks.{marked_all, same_fact}
use Rattle.link_walk.proofs.notes.mark_facts.Given as goal

-- what is marked, and the rest marked from here, is all marked
abbrev pub invariant-loop-fact : goal.invariant-loop-fact
invariant-loop-fact l = marked_all same_fact l.marks (drop l.fact-index l.more) ≡ marked_all same_fact l.initial.marks l.more
