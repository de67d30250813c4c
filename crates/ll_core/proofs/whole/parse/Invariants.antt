use Rattle.std.proofs.Common.{◌≡◌, take}
use Rattle.std.specs.Prelude.{None}
use Rattle.ll_core.specs.Table.{table_of}
use Rattle.ll_core.proofs.whole.parse.Given as goal

abbrev pub invariant-loop-place : goal.invariant-loop-place
invariant-loop-place l = record {
  table : l.parser.table ≡ table_of l.fn.grammar;
  shifted : l.parser.shifted ≡ take l.place l.tokens;
  ahead : l.parser.ahead ≡ None;
  fault : l.parser.fault ≡ None;
  kept : l.events.items ≡ l.parser.given;
}
