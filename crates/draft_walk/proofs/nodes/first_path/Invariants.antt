use Rattle.std.proofs.Common.{◌≡◌}
use Rattle.text_model.specs.Drafts.{names}
use Rattle.draft_walk.specs.Telling.{first_path}
use Rattle.draft_walk.proofs.nodes.first_path.Given as goal

abbrev pub invariant-loop-node : goal.invariant-loop-node
invariant-loop-node l = l.found ≡ first_path (names l.yielded)
