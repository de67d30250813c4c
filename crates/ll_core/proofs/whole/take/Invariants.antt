use Rattle.std.proofs.Common.{◌≡◌, ◌⊎◌}
use Rattle.std.specs.Prelude.{Some, None}
use Rattle.ll_core.proofs.whole.take.Given as goal

abbrev pub invariant-loop-events : goal.invariant-loop-events
invariant-loop-events l = record {
  table : l.parser.table ≡ l.fn.parser.table;
  shifted : l.parser.shifted ≡ l.fn.parser.shifted;
  ahead : (l.parser.ahead ≡ None) ⊎ (l.parser.ahead ≡ Some (Some l.token));
  fault : l.parser.fault ≡ None;
  kept : l.events.items ≡ l.parser.given;
}

abbrev pub decreases-loop-events : goal.decreases-loop-events
decreases-loop-events l = l.parser.bound
