use Rattle.std.proofs.Common.{rules, arith, subst, sym}
use Rattle.std.proofs.lemmas.List.Sorted.{answers_always, length_permutation, ties_still_rise, IsNonDecreasingBy-from_sort_by_key}
use Rattle.std.specs.List.Sorted.{IsSortedByKey}
use Rattle.std.specs.Ordering.{nat_cmp}
use Rattle.project_answers.proofs.SpotLaws.{numbers_rise, sorted_spots}
use Rattle.project_answers.proofs.spots.rising.Goals as goal

pub returns : goal.returns
returns c =
    let long = length_permutation _ _ c.sort_by_key.ensures.permutation in
    let few = c.in_ok-spots.ensures.few in
    let rising = sorted_spots c.args.model.now _ _ c.in_ok-spots.ensures.spots c.sort_by_key.ensures.permutation
    (IsNonDecreasingBy-from_sort_by_key (λ s. s.place) _ c.in_ok-sort_by_key.ensures.sorted (λ a r q k. search rules))
    (ties_still_rise (λ s. s.number) (λ s. s.place) _ _
    (subst (IsSortedByKey (λ s. s.number) nat_cmp) (sym c.in_ok-spots.ensures.spots) (numbers_rise c.args.model.now))
    (c.sort_by_key.ensures.stable (λ s. s.place) (answers_always _ _ _ (λ f a r g h. search rules)))) in
    record { spots = rising; few = omega (arith, long, few) }
