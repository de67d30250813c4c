-- From what was forgotten to what may be settled again.
use Rattle.std.proofs.Common.{◌≡◌, Bool, true, false, cond, List, [], refl, sym, ◌∙◌, ap, subst, inl, inr}
use Rattle.std.specs.Prelude.{None, is_some, not, ◌&&◌, ◌||◌, ◌⊎◌}
use Rattle.std.specs.List.{list_any}
use Rattle.linker_base.specs.Members.{IsMember, SameMembers, IsExact}
use Rattle.linker_base.proofs.Cases.{bool_cases, both_true, and_true}
use Rattle.linker_base.proofs.MemberLaws.{member_test, test_member}
use Rattle.demand_core.specs.Again.{HoldsAll, Changes, AreFresh, HasForgotten, MaySettleAgain}
use Rattle.demand_core.specs.EngineState.{EngineState}
use Rattle.demand_core.specs.Forgotten.{Direct, Through, is_held}
use Rattle.demand_core.specs.Kept.{IsKept}
use Rattle.demand_core.specs.Least.{least, cyclic_on, HoldsLeast}
use Rattle.demand_core.specs.Rules.{Meaning, value_of, first_wait, IsLawful}
use Rattle.demand_core.specs.Settled.{CanSettle}
use Rattle.demand_core.specs.Tables.{entry_of}
use Rattle.demand_core.specs.declared.looks.Fact.{Fact}
use Rattle.demand_core.specs.declared.looks.Fact.TheVariants.{Key}
use Rattle.demand_core.proofs.KeptLaws.{kept_same, kept_asking}
use Rattle.demand_core.proofs.LeastLaws.{least_fixed}
use Rattle.demand_core.proofs.RoundsLaws.{cyclic_step}
use Rattle.demand_core.proofs.SettledLaws.{in_or_out}

-- an engine that holds nothing may settle all keys
pub can_begin : {K V F : Type 0} (eq : K → K → Bool) (m : Meaning K V F) (fresh : List K) → SameMembers fresh m.keys
    → CanSettle eq m fresh (record { table = []; cyclic = []; looks = []; stamps = []; asked = 0 })
can_begin eq m fresh are = record {
  keys = are.left;
  unheld = λ k i. (refl, refl);
  held = λ k i out. absurd (out (are.right k i));
  looks = λ k i out. absurd (out (are.right k i));
  only = λ k out. (refl, refl);
}

off_list : {K : Type 0} (eq : K → K → Bool) → IsExact eq → (ks : List K) (k : K) → (IsMember ks k → ⊥) → list_any (eq k) ks ≡ false
off_list eq exact ks k out = elim (bool_cases (list_any (eq k) ks)) [ inl a ↦ absurd (out (test_member eq exact ks k a)) | inr b ↦ b ]

-- what is no key of the rules isn't held
outside : {K V F : Type 0} (eq : K → K → Bool) (exact : IsExact eq) (m : Meaning K V F) → IsLawful m → (e : EngineState K V F) → HoldsLeast eq m e
    → (k : K) → (IsMember m.keys k → ⊥) → (entry_of eq e.table k ≡ None) × (entry_of eq e.cyclic k ≡ None)
outside eq exact m law e h k out =
    let off = off_list eq exact m.keys k out in
    let none : least eq m k ≡ None = sym (least_fixed eq exact m law k) ∙ ap (λ b. cond b (value_of (m.answer (least eq m) k)) None) off in
    (h.decided k ∙ none, h.cyclic k ∙ ap (λ b. cond b (first_wait (m.answer (least eq m) k)) None) off)

-- what is held is a key of the rules
pub held_key : {K V F : Type 0} (eq : K → K → Bool) (exact : IsExact eq) (m : Meaning K V F) → IsLawful m → (e : EngineState K V F) → HoldsLeast eq m e
    → (k : K) → is_held eq e k ≡ true → IsMember m.keys k
held_key eq exact m law e h k is = elim (in_or_out eq exact m.keys k) [
  | inl i ↦ i
  | inr out ↦ absurd (
      let none = outside eq exact m law e h k out in
      let off : is_held eq e k ≡ false = λ i. is_some (none.0 i) || is_some (none.1 i) in
      let bad : true ≡ false = sym is ∙ off in
      cc
      )
]

module _
    {K V F : Type 0} (eq : K → K → Bool) (exact : IsExact eq) (m n : Meaning K V F) (law : IsLawful m) (lawn : IsLawful n)
    (facts : List (Fact K F)) (gone : List K) (e e2 : EngineState K V F)
    (h : HoldsAll eq m e) (ch : Changes eq m n facts gone) (f : HasForgotten eq facts gone e e2)
  where
    is_kept : K → Bool
    is_kept k = list_any (eq k) m.keys && (list_any (eq k) n.keys && not (list_any (eq k) gone))

    not_true : (b : Bool) → not b ≡ true → b ≡ false
    not_true true e = cc
    not_true false e = refl

    kept_parts : (k : K) → is_kept k ≡ true → IsMember m.keys k × IsMember n.keys k × (IsMember gone k → ⊥)
    unfolding is_kept
    kept_parts k is =
        let first = both_true (list_any (eq k) m.keys) (list_any (eq k) n.keys && not (list_any (eq k) gone)) is in
        let rest = both_true (list_any (eq k) n.keys) (not (list_any (eq k) gone)) first.1 in
        let off = not_true (list_any (eq k) gone) rest.1 in (
          test_member eq exact m.keys k first.0,
          test_member eq exact n.keys k rest.0,
          λ i. let bad : true ≡ false = sym (member_test eq exact gone k i) ∙ off in cc,
        )

    to_kept : (k : K) → IsMember m.keys k → IsMember n.keys k → (IsMember gone k → ⊥) → is_kept k ≡ true
    unfolding is_kept
    to_kept k i j out =
        and_true (list_any (eq k) m.keys) (list_any (eq k) n.keys && not (list_any (eq k) gone)) (member_test eq exact m.keys k i)
        (and_true (list_any (eq k) n.keys) (not (list_any (eq k) gone)) (member_test eq exact n.keys k j) (ap not (off_list eq exact gone k out)))

    -- a kept key looked at none of the facts
    avoids : (k : K) → is_kept k ≡ true → (x : Fact K F) → IsMember facts x → IsMember (m.looked (least eq m) k) x → ⊥
    avoids k is x given look =
        let parts = kept_parts k is in
        let looks = h.looks k parts.0 in
        parts.2 (f.all k (Direct looks.0 x looks.1 (looks.2.right x look) given))

    stays : (k q : K) → is_kept k ≡ true → IsMember (m.looked (least eq m) k) (Key q) → is_kept q ≡ true
    stays k q is look =
        let parts = kept_parts k is in
        let looks = h.looks k parts.0 in
        let key = ch.keyed k q parts.0 look in
        let out : IsMember gone q → ⊥ = λ i. parts.2 (f.all k (Through q looks.0 looks.1 (looks.2.right (Key q) look) (f.stale.stale q i))) in
        to_kept q key (elim (in_or_out eq exact n.keys q) [ inl i ↦ i | inr off ↦ absurd (out (ch.removed q key off)) ]) out

    all_kept : IsKept eq m n is_kept
    all_kept = record {
      before = λ k is. (kept_parts k is).0;
      after = λ k is. (kept_parts k is).1;
      alike = λ k is t fits agree. let parts = kept_parts k is in ch.alike k parts.0 parts.1 (avoids k is) t fits agree;
      closed = stays;
    }

    cyclic_same : (k : K) → is_kept k ≡ true → cyclic_on eq n k ≡ cyclic_on eq m k
    cyclic_same k is =
        let parts = kept_parts k is in
        cyclic_step eq exact n lawn k parts.1 ∙ ap first_wait (kept_asking eq exact m n law lawn is_kept all_kept k is).0
        ∙ sym (cyclic_step eq exact m law k parts.0)

    -- nothing is held of what is gone, or wasn't a key
    lost : (k : K) → IsMember gone k ⊎ (IsMember m.keys k → ⊥) → (entry_of eq e2.table k ≡ None) × (entry_of eq e2.cyclic k ≡ None)
    lost k (inl i) = let g = f.without.gone k i in (g.0, g.1)
    lost k (inr out) = elim (in_or_out eq exact gone k) [
      | inl i ↦ let g = f.without.gone k i in (g.0, g.1)
      | inr off ↦
          let same = f.without.others k off in
          let none = outside eq exact m law e h.least_held k out in
          (same.table ∙ none.0, same.cyclic ∙ none.1)
    ]

    module _ (fresh : List K) (fr : AreFresh m n gone fresh) where
      unlost : (k : K) → IsMember n.keys k → (IsMember fresh k → ⊥) → is_kept k ≡ true
      unlost k i out = to_kept k (elim (in_or_out eq exact m.keys k) [ inl j ↦ j | inr off ↦ absurd (out (fr.all k i (inr off))) ]) i
          (λ g. out (fr.all k i (inl g)))

      can_again : CanSettle eq n fresh e2
      can_again = record {
        keys = fr.keys;
        unheld = λ k i. lost k (fr.lost k i);
        held = λ k i out.
            let is = unlost k i out in
            let same = f.without.others k (kept_parts k is).2 in (
              same.table ∙ h.least_held.decided k ∙ sym (kept_same eq exact m n law lawn is_kept all_kept k is),
              same.cyclic ∙ h.least_held.cyclic k ∙ sym (cyclic_same k is),
            );
        looks = λ k i out.
            let is = unlost k i out in
            let parts = kept_parts k is in
            let same = f.without.others k parts.2 in
            let looks = h.looks k parts.0 in
            (looks.0, same.looks ∙ looks.1, subst (SameMembers looks.0) (sym (kept_asking eq exact m n law lawn is_kept all_kept k is).1) looks.2);
        only = λ k out. lost k (elim (in_or_out eq exact m.keys k) [ inl j ↦ inl (ch.removed k j out) | inr off ↦ inr off ]);
      }

pub may_settle_again : {K V F : Type 0} (eq : K → K → Bool) (exact : IsExact eq) (m n : Meaning K V F) → IsLawful m → IsLawful n → MaySettleAgain eq m n
may_settle_again eq exact m n law lawn facts gone fresh e e2 h ch f fr = can_again eq exact m n law lawn facts gone e e2 h ch f fresh fr
