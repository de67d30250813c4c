use Rattle.std.proofs.Common.{◌≡◌}
use Rattle.rules_example.specs.Numbers.{numbers}
use Rattle.rules_example.proofs.example.Example.keys.Given as goal

abbrev pub invariant-loop-place : goal.invariant-loop-place
invariant-loop-place l = l.keys ≡ numbers l.place
