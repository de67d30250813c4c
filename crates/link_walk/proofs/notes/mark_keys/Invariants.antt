use Rattle.std.proofs.Common.{◌≡◌, drop}
use Rattle.link_model.specs.Keys.{same_key}
use Rattle.link_walk.specs.Marks.{marked_all}
use Rattle.link_walk.proofs.notes.mark_keys.Given as goal

-- what is marked, and the rest marked from here, is all marked
abbrev pub invariant-loop-key : goal.invariant-loop-key
invariant-loop-key l = marked_all same_key l.marks (drop l.key-index l.more) ≡ marked_all same_key l.initial.marks l.more
