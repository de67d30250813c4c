use Rattle.std.proofs.Common.{rules, leb}
use Rattle.std.proofs.lemmas.List.Sorted.{IsPartitionPoint-from_clause, IsPartitionedBy-leb}
use Rattle.element_store.proofs.NumberLaws.{passed}
use Rattle.element_store.proofs.number_search.count_passed.Goals as goal

pub returns : goal.returns
returns c = passed c.args.numbers.now c.args.last c.partition_point.result
    (IsPartitionPoint-from_clause (λ n. leb n c.args.last) _ _ c.partition_point.ensures.partitioned (IsPartitionedBy-leb (λ n. n) _ c.args.last c.requires) (λ a r q k. search rules))
