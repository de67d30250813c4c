use Rattle.std.proofs.Common.{rules}
use Rattle.std.proofs.lemmas.List.Sorted.{answers_always, ties_still_rise, IsNonDecreasingBy-from_sort_by_key, IsPermutation-trans}
use Rattle.link_waits.proofs.WaitLaws.{rises_after}
use Rattle.link_waits.proofs.waits.put_in_order.Goals as goal

pub returns-clause-order : goal.returns-clause-order
returns-clause-order c =
    rises_after c.sort_by_key-2.new.self.items
    (IsNonDecreasingBy-from_sort_by_key (λ p. p.rank) _ c.in_ok-sort_by_key-2.ensures.sorted (λ a r q k. search rules))
    (ties_still_rise (λ p. p.key.0.index) (λ p. p.rank) _ _
    (c.in_ok-sort_by_key.ensures.sorted (λ p. p.key.0.index) (answers_always _ _ _ (λ f a r g h. search rules)))
    (c.sort_by_key-2.ensures.stable (λ p. p.rank) (answers_always _ _ _ (λ f a r g h. search rules))))

pub returns-clause-same : goal.returns-clause-same
returns-clause-same c = IsPermutation-trans _ _ _ c.sort_by_key.ensures.permutation c.sort_by_key-2.ensures.permutation
