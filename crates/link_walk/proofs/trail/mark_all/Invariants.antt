use Rattle.std.proofs.Common.{◌≡◌, drop}
use Rattle.link_model.specs.Keys.{same_element}
use Rattle.link_walk.specs.Marks.{marked_all}
use Rattle.link_walk.proofs.trail.mark_all.Given as goal

-- what is marked, and the rest marked from here, is all marked
abbrev pub invariant-loop-node : goal.invariant-loop-node
invariant-loop-node l = marked_all same_element l.marks (drop l.node-index l.more) ≡ marked_all same_element l.initial.marks l.more
