use Rattle.std.proofs.Common.{◌≡◌, true, false, ◌≤◌, rules, ltb, subst, sym, length}
use Rattle.std.proofs.lemmas.List.Sorted.{IsPartitionPoint-from_clause, IsPartitionedBy-ltb}
use Rattle.std.specs.List.Sorted.{IsNonDecreasingBy, IsPartitionPoint}
use Rattle.source_text.proofs.LineLaws.{end_before, ends_rise}
use Rattle.source_text.proofs.source.ended_before.Goals as goal

pub returns : goal.returns
returns c text is within =
    let up : IsNonDecreasingBy (λ k. k) c.args.ends.now = subst (IsNonDecreasingBy (λ k. k)) (sym is) (ends_rise text) in
    let parts = IsPartitionPoint-from_clause (λ n. ltb n c.args.at) _ _ c.partition_point.ensures.partitioned
    (IsPartitionedBy-ltb (λ n. n) _ c.args.at up) (λ a r q k. search rules) in
    end_before text c.args.at c.partition_point.result within
    (subst (λ ends. IsPartitionPoint (λ e. ltb e c.args.at ≡ true) (λ e. ltb e c.args.at ≡ false) ends c.partition_point.result) is parts)
    (subst (λ ends. c.partition_point.result ≤ length ends) is c.partition_point.ensures.bound)
