use Rattle.std.proofs.Common.{◌≡◌, ◌++◌}
use Rattle.text_model.specs.Drafts.{mentions, names}
use Rattle.draft_walk.proofs.nodes.mention_all.Given as goal

abbrev pub invariant-loop-node : goal.invariant-loop-node
invariant-loop-node l = l.into ≡ l.fn.into ++ mentions l.role (names l.yielded)
