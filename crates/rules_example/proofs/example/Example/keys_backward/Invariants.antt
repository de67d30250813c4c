use Rattle.std.proofs.Common.{◌-◌, ◌<◌, ◌≤◌}
use Rattle.linker_base.specs.Members.{IsMember}
use Rattle.rules_example.specs.declared.number.Number.{Number}
use Rattle.rules_example.proofs.example.Example.keys_backward.Given as goal

-- the last numbers are there
abbrev pub invariant-loop-place : goal.invariant-loop-place
invariant-loop-place l = record {
  from : (q : Number) → IsMember l.keys q → (l.count - l.place ≤ q.0) × (q.0 < l.count);
  to : (q : Number) → l.count - l.place ≤ q.0 → q.0 < l.count → IsMember l.keys q;
}
