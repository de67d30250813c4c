use Rattle.std.proofs.Common.{rules, ltb, ◌≡◌, true, false}
use Rattle.std.proofs.lemmas.List.Sorted.{IsPartitionPoint-from_clause, IsPartitionedBy-ltb}
use Rattle.std.specs.List.Sorted.{IsPartitionPoint}
use Rattle.element_store.proofs.ReferenceLaws.{parted_count, parted_at}
use Rattle.element_store.proofs.model.count_before.Goals as goal

point : (c : goal.After-partition_point) → IsPartitionPoint (λ y. ltb y.context c.args.context ≡ true) (λ y. ltb y.context c.args.context ≡ false) c.args.references.now c.partition_point.result
point c =
    IsPartitionPoint-from_clause (λ r. ltb r.context c.args.context) _ _ c.partition_point.ensures.partitioned
    (IsPartitionedBy-ltb (λ r. r.context) _ c.args.context c.requires) (λ a r q k. search rules)

pub returns-clause-count : goal.returns-clause-count
returns-clause-count c = parted_count (λ r. ltb r.context c.args.context) c.args.references.now c.partition_point.result c.partition_point.ensures.bound (point c)

pub returns-clause-parts : goal.returns-clause-parts
returns-clause-parts c = parted_at c.args.references.now c.args.context c.partition_point.result c.partition_point.ensures.bound (point c)
