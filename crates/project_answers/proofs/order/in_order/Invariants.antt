-- the files of the first ranks were noted
use Rattle.std.proofs.Common.{◌<◌, ◌≤◌}
use Rattle.std.specs.Prelude.{All, length}
use Rattle.project_book.specs.Named.{IsOwn}
use Rattle.project_answers.proofs.OrderLaws.{HaveRanks, own_count}
use Rattle.project_answers.proofs.order.in_order.Given as goal

abbrev pub invariant-loop-rank : goal.invariant-loop-rank
invariant-loop-rank l = record {
  ranks : HaveRanks l.files l.rank l.order.items;
  stand : All (λ n. n.0 < length l.files) l.order.items;
  own : All (IsOwn l.files) l.order.items;
  few : l.rank ≤ own_count l.files;
}
