use Rattle.std.proofs.Common.{◌≡◌, drop}
use Rattle.std.specs.Prelude.{None}
use Rattle.linker_base.specs.Members.{IsMember}
use Rattle.demand_core.specs.Tables.{entry_of}
use Rattle.demand_core.proofs.frame.open_from.Given as goal

-- where all are looked through, what is open is still to come
abbrev pub invariant-loop-place : goal.invariant-loop-place
invariant-loop-place g l = l.from ≡ 0 → (q : _) → IsMember l.keys q → entry_of g.K.PartialEq.eq l.table q ≡ None → IsMember (drop l.place l.keys) q
