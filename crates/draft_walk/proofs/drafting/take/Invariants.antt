use Rattle.std.proofs.Common.{◌≡◌, ◌⊎◌}
use Rattle.std.specs.Prelude.{Some, None}
use Rattle.draft_walk.specs.Drafted.{IsHeard}
use Rattle.draft_walk.proofs.drafting.take.Given as goal

abbrev pub invariant-loop-teller : goal.invariant-loop-teller
invariant-loop-teller l = record {
  table : l.parser.table ≡ l.fn.parser.table;
  shifted : l.parser.shifted ≡ l.fn.parser.shifted;
  ahead : (l.parser.ahead ≡ None) ⊎ (l.parser.ahead ≡ Some (Some l.token));
  fault : l.parser.fault ≡ None;
  heard : IsHeard l.source l.parser l.teller;
}

abbrev pub decreases-loop-teller : goal.decreases-loop-teller
decreases-loop-teller l = l.parser.bound
