-- What stays right over a change of the rules, and what settling brings back.
use Rattle.std.proofs.Common.{◌≡◌, Bool, true, false, cond, List, [], ◌++◌, refl, sym, ◌∙◌, ap, subst, inl, inr}
use Rattle.std.specs.Prelude.{Option, None, Some, is_some, not, ◌&&◌, ◌||◌, ◌⊎◌}
use Rattle.std.specs.List.{list_any}
use Rattle.linker_base.specs.Members.{IsMember, SameMembers, IsExact}
use Rattle.linker_base.proofs.Cases.{bool_cases, both_true, and_true}
use Rattle.linker_base.proofs.MemberLaws.{member_test, test_member, member_left, member_right, member_cases}
use Rattle.demand_core.specs.Again.{HoldsAll, HasForgotten}
use Rattle.demand_core.specs.EngineState.{EngineState}
use Rattle.demand_core.specs.Forgotten.{Direct, Through, is_held}
use Rattle.demand_core.specs.Kept.{IsKept}
use Rattle.demand_core.specs.Least.{least, cyclic_on, HoldsLeast}
use Rattle.demand_core.specs.Rules.{Meaning, AgreeAt, AllFit, first_wait, value_of, IsLawful}
use Rattle.demand_core.specs.Settled.{CanSettle, HasLooks}
use Rattle.demand_core.specs.Tables.{Decided, entry_of}
use Rattle.demand_core.specs.declared.looks.Fact.{Fact}
use Rattle.demand_core.specs.declared.looks.Fact.TheVariants.{Key}
use Rattle.demand_core.proofs.AgainLaws.{held_key}
use Rattle.demand_core.proofs.KeptLaws.{kept_same, kept_asking}
use Rattle.demand_core.proofs.LeastLaws.{least_fixed}
use Rattle.demand_core.proofs.RoundsLaws.{cyclic_step}
use Rattle.demand_core.proofs.SettledLaws.{in_or_out}
use Rattle.kept_links.specs.Kept.{IsRight, IsUnheld}

-- The rules m became n with these facts. A key of both that looked at none of them is answered by n, over a table that agrees at what it looked at, as by
-- m over its least table. Keys look at keys of the rules alone; a key that is lost looked at one of the facts; new are the keys that weren't keys before.
pub record Alters {K V F : Type 0} (eq : K → K → Bool) (m n : Meaning K V F) (facts : List (Fact K F)) (new : List K) : Type 0 where
  pub alike : (k : K) → IsMember m.keys k → IsMember n.keys k → ((f : Fact K F) → IsMember facts f → IsMember (m.looked (least eq m) k) f → ⊥)
      → (t : Decided K V) → AllFit n.fits t → AgreeAt (m.looked (least eq m) k) (least eq m) t
      → (n.answer t k ≡ m.answer (least eq m) k) × (n.looked t k ≡ m.looked (least eq m) k)
  pub keyed : (k q : K) → IsMember m.keys k → IsMember (m.looked (least eq m) k) (Key q) → IsMember m.keys q
  pub lost : (k : K) → IsMember m.keys k → (IsMember n.keys k → ⊥) → (f : Fact K F) × IsMember facts f × IsMember (m.looked (least eq m) k) f
  pub come : (k : K) → IsMember n.keys k → IsMember m.keys k ⊎ IsMember new k
  pub fresh : (k : K) → IsMember new k → IsMember m.keys k → ⊥

off_list : {K : Type 0} (eq : K → K → Bool) → IsExact eq → (ks : List K) (k : K) → (IsMember ks k → ⊥) → list_any (eq k) ks ≡ false
off_list eq exact ks k out = elim (bool_cases (list_any (eq k) ks)) [ inl a ↦ absurd (out (test_member eq exact ks k a)) | inr b ↦ b ]

not_true : (b : Bool) → not b ≡ true → b ≡ false
not_true true e = cc
not_true false e = refl

-- an engine that holds nothing is right where all keys are pending
pub nothing_right : {K V F : Type 0} (eq : K → K → Bool) (m : Meaning K V F) (e : EngineState K V F)
    → e ≡ record { table = []; cyclic = []; looks = []; stamps = []; asked = 0 } → IsRight eq m m.keys e
nothing_right {K} {V} {F} eq m e empty = subst (λ (z : EngineState K V F). IsRight eq m m.keys z) (sym empty) (record {
  unheld = λ k i. (refl, refl);
  held = λ k i out. absurd (out i);
  looks = λ k i out. absurd (out i);
  closed = λ k q i out. absurd (out i);
  only = λ k out. (refl, refl);
})

none_there : {A : Type 0} (o : Option A) → is_some o ≡ false → o ≡ None
none_there None e = refl
none_there (Some x) e = cc

left_none : (a b : Bool) → (a || b) ≡ false → a ≡ false
left_none true b e = e
left_none false b e = refl

right_none : (a b : Bool) → (a || b) ≡ false → b ≡ false
right_none true true e = e
right_none true false e = refl
right_none false b e = e

module _ {K V F : Type 0} (eq : K → K → Bool) (exact : IsExact eq) (m : Meaning K V F) (law : IsLawful m) where
  -- what is no key isn't held
  unheld_outside : (e : EngineState K V F) → HoldsLeast eq m e → (k : K) → (IsMember m.keys k → ⊥) → IsUnheld eq e k
  unheld_outside e h k out = elim (bool_cases (is_held eq e k)) [
    | inl is ↦ absurd (out (held_key eq exact m law e h k is))
    | inr off ↦ (
      none_there (entry_of eq e.table k) (left_none (is_some (entry_of eq e.table k)) (is_some (entry_of eq e.cyclic k)) off),
      none_there (entry_of eq e.cyclic k) (right_none (is_some (entry_of eq e.table k)) (is_some (entry_of eq e.cyclic k)) off),
    )
  ]

  -- an engine that holds all is right, with nothing pending
  pub all_right : (e : EngineState K V F) → HoldsLeast eq m e → ((k : K) → IsMember m.keys k → HasLooks eq m e k) → IsRight eq m [] e
  all_right e h looks = record {
    unheld = λ k i. absurd i;
    held = λ k i out. (h.decided k, h.cyclic k);
    looks = λ k i out. looks k i;
    closed = λ k q i out there j. j;
    only = unheld_outside e h;
  }

-- the pending keys that are keys of the rules may be settled
pub right_settles : {K V F : Type 0} (eq : K → K → Bool) (exact : IsExact eq) (m : Meaning K V F) (pending fresh : List K) (e : EngineState K V F)
    → IsRight eq m pending e → ((k : K) → IsMember fresh k → IsMember pending k) → ((k : K) → IsMember fresh k → IsMember m.keys k)
    → ((k : K) → IsMember pending k → IsMember m.keys k → IsMember fresh k) → CanSettle eq m fresh e
right_settles eq exact m pending fresh e h among keys all = record {
  keys = keys;
  unheld = λ k i. h.unheld k (among k i);
  held = λ k i out. h.held k i (λ p. out (all k p i));
  looks = λ k i out. h.looks k i (λ p. out (all k p i));
  only = h.only;
}

module _
    {K V F : Type 0} (eq : K → K → Bool) (exact : IsExact eq) (m n : Meaning K V F) (law : IsLawful m) (lawn : IsLawful n)
    (facts : List (Fact K F)) (new gone pending : List K) (e e2 : EngineState K V F)
    (h : IsRight eq m pending e) (alters : Alters eq m n facts new) (f : HasForgotten eq facts gone e e2)
  where
    blocked : List K
    blocked = pending ++ gone

    is_kept : K → Bool
    is_kept k = list_any (eq k) m.keys && (list_any (eq k) n.keys && not (list_any (eq k) (pending ++ gone)))

    kept_parts : (k : K) → is_kept k ≡ true → IsMember m.keys k × IsMember n.keys k × (IsMember pending k → ⊥) × (IsMember gone k → ⊥)
    unfolding is_kept
    kept_parts k is =
        let first = both_true (list_any (eq k) m.keys) (list_any (eq k) n.keys && not (list_any (eq k) (pending ++ gone))) is in
        let rest = both_true (list_any (eq k) n.keys) (not (list_any (eq k) (pending ++ gone))) first.1 in
        let off = not_true (list_any (eq k) (pending ++ gone)) rest.1 in
        let out : IsMember (pending ++ gone) k → ⊥ =
        λ i. let bad : true ≡ false = sym (member_test eq exact (pending ++ gone) k i) ∙ off in cc in (
          test_member eq exact m.keys k first.0,
          test_member eq exact n.keys k rest.0,
          (λ i. out (member_left pending gone k i)),
          (λ i. out (member_right pending gone k i)),
        )

    to_kept : (k : K) → IsMember m.keys k → IsMember n.keys k → (IsMember pending k → ⊥) → (IsMember gone k → ⊥) → is_kept k ≡ true
    unfolding is_kept
    to_kept k i j out off =
        and_true (list_any (eq k) m.keys) (list_any (eq k) n.keys && not (list_any (eq k) (pending ++ gone))) (member_test eq exact m.keys k i)
        (and_true (list_any (eq k) n.keys) (not (list_any (eq k) (pending ++ gone))) (member_test eq exact n.keys k j)
        (ap not (off_list eq exact (pending ++ gone) k (λ b. elim (member_cases pending gone k b) [ inl p ↦ out p | inr g ↦ off g ]))))

    -- a key that isn't pending and looked at one of the facts is gone
    met_is_gone : (k : K) → IsMember m.keys k → (IsMember pending k → ⊥) → (x : Fact K F) → IsMember facts x
        → IsMember (m.looked (least eq m) k) x → IsMember gone k
    met_is_gone k i out x given look = let looks = h.looks k i out in f.all k (Direct looks.0 x looks.1 (looks.2.right x look) given)

    through_is_gone : (k q : K) → IsMember m.keys k → (IsMember pending k → ⊥) → IsMember (m.looked (least eq m) k) (Key q) → IsMember gone q
        → IsMember gone k
    through_is_gone k q i out look there =
        let looks = h.looks k i out in f.all k (Through q looks.0 looks.1 (looks.2.right (Key q) look) (f.stale.stale q there))

    stays : (k q : K) → is_kept k ≡ true → IsMember (m.looked (least eq m) k) (Key q) → is_kept q ≡ true
    stays k q is look =
        let parts = kept_parts k is in
        let key = alters.keyed k q parts.0 look in
        let apart = h.closed k q parts.0 parts.2 look in
        let out : IsMember gone q → ⊥ = λ g. parts.3 (through_is_gone k q parts.0 parts.2 look g) in
        to_kept q key (elim (in_or_out eq exact n.keys q) [
          | inl i ↦ i
          | inr off ↦ let met = alters.lost q key off in absurd (out (met_is_gone q key apart met.0 met.1 met.2))
        ]) apart out

    all_kept : IsKept eq m n is_kept
    all_kept = record {
      before = λ k is. (kept_parts k is).0;
      after = λ k is. (kept_parts k is).1;
      alike = λ k is t fits agree. let parts = kept_parts k is in
          alters.alike k parts.0 parts.1 (λ x given look. parts.3 (met_is_gone k parts.0 parts.2 x given look)) t fits agree;
      closed = stays;
    }

    same_looks : (k : K) → is_kept k ≡ true → n.looked (least eq n) k ≡ m.looked (least eq m) k
    same_looks k is = (kept_asking eq exact m n law lawn is_kept all_kept k is).1

    cyclic_same : (k : K) → is_kept k ≡ true → cyclic_on eq n k ≡ cyclic_on eq m k
    cyclic_same k is =
        let parts = kept_parts k is in
        cyclic_step eq exact n lawn k parts.1 ∙ ap first_wait (kept_asking eq exact m n law lawn is_kept all_kept k is).0
        ∙ sym (cyclic_step eq exact m law k parts.0)

    -- what isn't held before isn't held after forgetting
    unheld_still : (k : K) → IsUnheld eq e k → IsUnheld eq e2 k
    unheld_still k none = elim (in_or_out eq exact gone k) [
      | inl i ↦ let g = f.without.gone k i in (g.0, g.1)
      | inr off ↦ let same = f.without.others k off in (same.table ∙ none.0, same.cyclic ∙ none.1)
    ]

    gone_unheld : (k : K) → IsMember gone k → IsUnheld eq e2 k
    gone_unheld k i = let g = f.without.gone k i in (g.0, g.1)

    unpending : (k : K) → (IsMember ((pending ++ gone) ++ new) k → ⊥) → (IsMember pending k → ⊥) × (IsMember gone k → ⊥) × (IsMember new k → ⊥)
    unpending k out = (
      (λ i. out (member_left (pending ++ gone) new k (member_left pending gone k i))),
      (λ i. out (member_left (pending ++ gone) new k (member_right pending gone k i))),
      (λ i. out (member_right (pending ++ gone) new k i)),
    )

    unlost : (k : K) → IsMember n.keys k → (IsMember ((pending ++ gone) ++ new) k → ⊥) → is_kept k ≡ true
    unlost k i out =
        let apart = unpending k out in
        to_kept k (elim (alters.come k i) [ inl j ↦ j | inr fresh ↦ absurd (apart.2 fresh) ]) i apart.0 apart.1

    pub still_right : IsRight eq n ((pending ++ gone) ++ new) e2
    still_right = record {
      unheld = λ k i. elim (member_cases (pending ++ gone) new k i) [
        | inl a ↦ elim (member_cases pending gone k a) [ inl p ↦ unheld_still k (h.unheld k p) | inr g ↦ gone_unheld k g ]
        | inr b ↦ unheld_still k (h.only k (alters.fresh k b))
      ];
      held = λ k i out.
          let is = unlost k i out in
          let parts = kept_parts k is in
          let same = f.without.others k parts.3 in
          let before = h.held k parts.0 parts.2 in (
            same.table ∙ before.0 ∙ sym (kept_same eq exact m n law lawn is_kept all_kept k is),
            same.cyclic ∙ before.1 ∙ sym (cyclic_same k is),
          );
      looks = λ k i out.
          let is = unlost k i out in
          let parts = kept_parts k is in
          let same = f.without.others k parts.3 in
          let looks = h.looks k parts.0 parts.2 in
          (looks.0, same.looks ∙ looks.1, subst (SameMembers looks.0) (sym (same_looks k is)) looks.2);
      closed = λ k q i out look j.
          let is = unlost k i out in
          let here = subst (λ (xs : List (Fact K F)). IsMember xs (Key q)) (same_looks k is) look in
          let parts = kept_parts q (stays k q is here) in
          elim (member_cases (pending ++ gone) new q j) [
            | inl a ↦ elim (member_cases pending gone q a) [ inl p ↦ parts.2 p | inr g ↦ parts.3 g ]
            | inr b ↦ alters.fresh q b parts.0
          ];
      only = λ k out. elim (in_or_out eq exact m.keys k) [
        | inl j ↦ elim (in_or_out eq exact pending k) [
          | inl p ↦ unheld_still k (h.unheld k p)
          | inr off ↦ let met = alters.lost k j out in gone_unheld k (met_is_gone k j off met.0 met.1 met.2)
        ]
        | inr off ↦ unheld_still k (h.only k off)
      ];
    }

-- where nothing is pending the engine holds the least table
pub right_holds : {K V F : Type 0} (eq : K → K → Bool) (exact : IsExact eq) (m : Meaning K V F) → IsLawful m → (e : EngineState K V F)
    → IsRight eq m [] e → HoldsLeast eq m e
right_holds {K} {V} eq exact m law e h = record {
  decided = λ k. elim (in_or_out eq exact m.keys k) [ inl i ↦ (h.held k i (λ none. none)).0 | inr out ↦ (h.only k out).0 ∙ sym (unlisted k out) ];
  cyclic = λ k. elim (in_or_out eq exact m.keys k) [
    | inl i ↦ (h.held k i (λ none. none)).1
    | inr out ↦ (h.only k out).1 ∙ sym (ap (λ b. cond b (first_wait (m.answer (least eq m) k)) None) (off_list eq exact m.keys k out))
  ];
}
  where
    unlisted : (k : K) → (IsMember m.keys k → ⊥) → least eq m k ≡ None
    unlisted k out =
        sym (least_fixed eq exact m law k) ∙ ap (λ b. cond b (value_of (m.answer (least eq m) k)) None) (off_list eq exact m.keys k out)
