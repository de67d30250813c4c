use Rattle.std.proofs.Common.{◌≡◌, ◌⊎◌}
use Rattle.std.specs.Prelude.{Some, None}
use Rattle.draft_walk.specs.Drafted.{IsHeard}
use Rattle.draft_walk.proofs.drafting.finish.Given as goal

abbrev pub invariant-loop-number : goal.invariant-loop-number
invariant-loop-number l = record {
  table : l.parser.table ≡ l.fn.parser.table;
  shifted : l.parser.shifted ≡ l.fn.parser.shifted;
  ahead : (l.parser.ahead ≡ None) ⊎ (l.parser.ahead ≡ Some None);
  fault : l.parser.fault ≡ None;
  heard : IsHeard l.source l.parser l.teller;
}

abbrev pub decreases-loop-number : goal.decreases-loop-number
decreases-loop-number l = l.parser.bound
