use Rattle.std.proofs.Common.{◌≡◌, take, []}
use Rattle.std.specs.Prelude.{reverse}
use Rattle.text_model.specs.Numbering.{depths}
use Rattle.draft_limits.proofs.limits.greatest_depth.Given as goal

abbrev pub invariant-loop-node : goal.invariant-loop-node
invariant-loop-node l = reverse l.values.items ≡ depths (take l.node-index l.nodes) []
