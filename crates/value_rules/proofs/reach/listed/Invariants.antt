use Rattle.std.proofs.Common.{◌≡◌, take}
use Rattle.value_rules.proofs.reach.listed.Given as goal

abbrev pub invariant-loop-key : goal.invariant-loop-key
invariant-loop-key l = l.keys ≡ take l.key-index l.marks
