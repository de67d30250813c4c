use Rattle.std.proofs.Common.{◌≡◌, ◌++◌, drop}
use Rattle.link_walk.specs.Calls.{keys_for}
use Rattle.link_walk.proofs.answering.references.Given as goal

-- what is copied, and what is left, is all
abbrev pub invariant-loop-key : goal.invariant-loop-key
invariant-loop-key l = keys_for l.refs ++ drop l.key-index l.keys ≡ l.keys
