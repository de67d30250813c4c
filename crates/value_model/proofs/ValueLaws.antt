-- The rules of values are lawful over every list of keys that is closed under waits; what names reach is such a list; and which list it is
-- changes no value.
use Rattle.std.proofs.Common.{◌≡◌, Bool, true, cond, List, [], ◌∷◌, ◌&&◌, refl, ap, subst}
use Rattle.std.specs.Prelude.{None, Some}
use Rattle.std.specs.List.{list_any}
use Rattle.linker_base.specs.Members.{IsMember}
use Rattle.linker_base.proofs.MemberLaws.{member_test, test_member}
use Rattle.demand_core.specs.Tables.{Decided}
use Rattle.demand_core.specs.Rules.{Meaning, IsLawful, first_wait}
use Rattle.linker_base.proofs.Cases.{both_true, and_true}
use Rattle.demand_core.specs.Computed.{world, each_once, ordered_step}
use Rattle.demand_core.specs.Least.{least, cyclic_on}
use Rattle.demand_core.specs.Kept.{IsKept}
use Rattle.demand_core.proofs.ComputedLaws.{lawful_computed, alike_computed, each_once_is_order}
use Rattle.demand_core.proofs.KeptLaws.{kept_same, kept_asking}
use Rattle.link_model.specs.Outside.{Library}
use Rattle.link_model.specs.Readers.{LinkWorld}
use Rattle.value_model.specs.declared.values.NoFact.{NoFact}
use Rattle.value_model.specs.declared.values.ValueAnswer.{ValueAnswer}
use Rattle.value_model.specs.declared.values.ValueAnswer.TheVariants.{Refused}
use Rattle.value_model.specs.declared.values.ValueFault.TheVariants.{Circular}
use Rattle.value_model.specs.declared.values.ValueKey.{ValueKey}
use Rattle.value_model.specs.Keys.{same_value_key, value_key_is_exact}
use Rattle.value_model.specs.Reading.{ask}
use Rattle.value_model.specs.Valuing.{MayStand, nothing, value_meaning, AreValueKeys, IsReachable, answered, value_by}
use Rattle.linker_base.specs.Orders.{AreInOrder}
use Rattle.demand_core.specs.Rules.{ListsInOrder}
use Rattle.demand_core.specs.declared.step.Step.{Step}
use Rattle.demand_core.specs.declared.step.Step.TheVariants.{Done, Waits}
use Rattle.value_model.specs.Laws.{NeverBefore}
use Rattle.value_model.proofs.ReadingLaws.{IsOne, ask_rule}

module _ (w : LinkWorld) (lib : Library) where
  -- what is closed under what may be read is closed under waits
  pub reachable_keys : (keys : List ValueKey) → IsReachable w lib keys → AreValueKeys w lib keys
  reachable_keys keys are = record {
    once = are.once;
    each = are.each;
    closed = λ s k q member waits. are.closed k q member ((ask_rule w lib k).among (world nothing s) q waits);
  }

  -- THE LAWS
  pub value_lawful : (keys : List ValueKey) → AreValueKeys w lib keys → IsLawful (value_meaning w lib keys)
  value_lawful keys are = lawful_computed (each_once same_value_key) (each_once_is_order same_value_key value_key_is_exact) keys are.once
      (λ k v. MayStand w v) nothing (ask w lib) (record {
        regular = λ k. (ask_rule w lib k).regular;
        among = λ s k q member fit waits. are.closed s k q member waits;
        fitting = λ s k v member fit e. (ask_rule w lib k).final (are.each k member) (world nothing s) fit v e;
      })

  module _ (xs ys : List ValueKey) (of_xs : AreValueKeys w lib xs) (of_ys : AreValueKeys w lib ys) where
    in_both : ValueKey → Bool
    in_both k = list_any (same_value_key k) xs && list_any (same_value_key k) ys

    in_first : (k : ValueKey) → in_both k ≡ true → IsMember xs k
    unfolding in_both
    in_first k e = test_member same_value_key value_key_is_exact xs k (both_true (list_any (same_value_key k) xs) (list_any (same_value_key k) ys) e).0

    in_second : (k : ValueKey) → in_both k ≡ true → IsMember ys k
    unfolding in_both
    in_second k e = test_member same_value_key value_key_is_exact ys k (both_true (list_any (same_value_key k) xs) (list_any (same_value_key k) ys) e).1

    both_in : (k : ValueKey) → IsMember xs k → IsMember ys k → in_both k ≡ true
    unfolding in_both
    both_in k i j = and_true (list_any (same_value_key k) xs) (list_any (same_value_key k) ys) (member_test same_value_key value_key_is_exact xs k i)
        (member_test same_value_key value_key_is_exact ys k j)

    kept : IsKept same_value_key (value_meaning w lib xs) (value_meaning w lib ys) in_both
    kept = record {
      before = in_first;
      after = in_second;
      alike = λ k is t fit agree.
          alike_computed (each_once same_value_key) (each_once same_value_key) xs ys (λ k v. MayStand w v) (λ k v. MayStand w v) nothing nothing (ask w lib) k
          (ask_rule w lib k).regular
          (least same_value_key (value_meaning w lib xs)) t (λ ks e. refl) agree (λ f m. refl);
      closed = λ k q is look.
          let waits = (ask_rule w lib k).alone (world nothing (least same_value_key (value_meaning w lib xs))) q look in
          let s : Decided ValueKey ValueAnswer = λ p. cond (same_value_key q p) None (least same_value_key (value_meaning w lib xs) p) in
          both_in q (of_xs.closed s k q (in_first k is) waits) (of_ys.closed s k q (in_second k is) waits);
    }

    same_answered : (k : ValueKey) → IsMember xs k → IsMember ys k → least same_value_key (value_meaning w lib ys) k
        ≡ least same_value_key (value_meaning w lib xs) k
    same_answered k i j = kept_same same_value_key value_key_is_exact (value_meaning w lib xs) (value_meaning w lib ys) (value_lawful xs of_xs)
        (value_lawful ys of_ys) in_both kept k (both_in k i j)

    same_cyclic : (k : ValueKey) → IsMember xs k → IsMember ys k → cyclic_on same_value_key (value_meaning w lib ys) k
        ≡ cyclic_on same_value_key (value_meaning w lib xs) k
    same_cyclic k i j =
        let asked = (kept_asking same_value_key value_key_is_exact (value_meaning w lib xs) (value_meaning w lib ys) (value_lawful xs of_xs)
        (value_lawful ys of_ys) in_both kept k (both_in k i j)).0 in
        rw (member_test same_value_key value_key_is_exact xs k i, member_test same_value_key value_key_is_exact ys k j) (ap first_wait asked)

    -- WHICH LIST IT IS CHANGES NO VALUE
    pub same_values : (k : ValueKey) → IsMember xs k → IsMember ys k → value_by (value_meaning w lib ys) k ≡ value_by (value_meaning w lib xs) k
    same_values k i j = λ h. answered k (same_answered k i j h) (same_cyclic k i j h)

-- what is held of a key says its value
pub decided_value : (m : Meaning ValueKey ValueAnswer NoFact) (k : ValueKey) (v : ValueAnswer) → least same_value_key m k ≡ Some v → v ≡ value_by m k
decided_value m k v e = rw e refl

pub cyclic_value : (m : Meaning ValueKey ValueAnswer NoFact) (k q : ValueKey) → least same_value_key m k ≡ None → cyclic_on same_value_key m k ≡ Some q
    → Refused (Circular q.feature) ≡ value_by m k
cyclic_value m k q e h = rw (e, h) refl

-- a step that waits on one key at the most lists its waits in any order
one_in_order : (step : Step ValueKey ValueAnswer) → IsOne step → (ks : List ValueKey) → ordered_step (each_once same_value_key) step ≡ Waits ks
    → AreInOrder NeverBefore ks
one_in_order (Done v) one ks e = cc
one_in_order (Waits []) one ks e = let same : [] ≡ ks = cc in subst (AreInOrder NeverBefore) same tt
one_in_order (Waits (k ∷ [])) one ks e = let same : k ∷ [] ≡ ks = cc in subst (AreInOrder NeverBefore) same ((λ y m. absurd m), tt)
one_in_order (Waits (k ∷ l ∷ more)) one ks e = absurd one

-- the rules of values wait on one key at a time
pub ordered_values : (w : LinkWorld) (lib : Library) (keys : List ValueKey) → ListsInOrder NeverBefore (value_meaning w lib keys)
ordered_values w lib keys = record {
  one_way = λ a b h g. h;
  through = λ a b c h g. h;
  waits = λ s k ks member fit e. one_in_order (ask w lib k (world nothing s)).step ((ask_rule w lib k).one (world nothing s)) ks e;
}
