-- Askings one after another, by what code noted.
use Rattle.std.proofs.Common.{◌≡◌, ◌∙◌, Bool, true, false, List, [], ◌∷◌, ◌++◌, refl, sym, ap, subst, inl, inr, append-nil, append_assoc}
use Rattle.std.specs.Prelude.{◌⊎◌, not, Option, None, Some}
use Rattle.linker_base.specs.Members.{IsMember, SameMembers}
use Rattle.linker_base.proofs.Cases.{some_same}
use Rattle.linker_base.proofs.MemberLaws.{member_left, member_right, member_cases, same_members, same_through, same_joined}
use Rattle.demand_core.specs.Computation.{done, then_step, ◌>>=◌, join, join_step}
use Rattle.demand_core.specs.Search.{IsStep, IsAsked}
use Rattle.demand_core.specs.declared.looks.Fact.{Fact}
use Rattle.demand_core.specs.declared.step.Step.{Step}
use Rattle.demand_core.specs.declared.step.Step.TheVariants.{Done, Waits}
use Rattle.link_model.specs.declared.keys.LinkKey.{LinkKey}
use Rattle.link_model.specs.declared.keys.LinkFact.{LinkFact}
use Rattle.link_model.specs.Keys.{same_key, key_is_exact}
use Rattle.link_model.specs.Readers.{Lookup, LinkWorld, is_nil}
use Rattle.link_walk.specs.Marks.{marked_all, same_fact}
use Rattle.link_walk.specs.Noted.{Noted, Asks, LinkTrail, noted}
use Rattle.link_walk.proofs.MarkLaws.{all_kept, all_now, all_new, fact_is_exact}
use Rattle.link_tiers.specs.Answered.{IsAnswer, Answered, Agrees}

-- what is marked is what was, and these
pub keys_joined : (old more : List LinkKey) → SameMembers (marked_all same_key old more) (old ++ more)
keys_joined old more = record {
  left = λ k m. elim (all_new same_key key_is_exact more old k m) [ inl a ↦ member_left old more k a | inr b ↦ member_right old more k b ];
  right = λ k m. elim (member_cases old more k m) [ inl a ↦ all_kept same_key key_is_exact more old k a | inr b ↦ all_now same_key key_is_exact more old k b ];
}

pub facts_joined : (old more : List (Fact LinkKey LinkFact)) → SameMembers (marked_all same_fact old more) (old ++ more)
facts_joined old more = record {
  left = λ k m. elim (all_new same_fact fact_is_exact more old k m) [ inl a ↦ member_left old more k a | inr b ↦ member_right old more k b ];
  right = λ k m. elim (member_cases old more k m) [
    | inl a ↦ all_kept same_fact fact_is_exact more old k a
    | inr b ↦ all_now same_fact fact_is_exact more old k b
  ];
}

pub same_back : {A : Type 0} {xs ys : List A} → SameMembers xs ys → SameMembers ys xs
same_back s = record { left = s.right; right = s.left }

pub same_equal : {A : Type 0} (xs ys : List A) → xs ≡ ys → SameMembers xs ys
same_equal xs ys e = subst (SameMembers xs) e (same_members xs)

-- facts that are noted are what was, and others with the same members
pub facts_noted : (old mid more looks : List (Fact LinkKey LinkFact)) → mid ≡ marked_all same_fact old more → SameMembers more looks → SameMembers mid (old
    ++ looks)
facts_noted old mid more looks is s =
    subst (λ z. SameMembers z (old ++ looks)) (sym is) (same_through (facts_joined old more) (same_joined old more old looks (same_members old) s))

-- what was before, then the first looks, then those after it
looks_on : (old mid new first after : List (Fact LinkKey LinkFact)) → SameMembers mid (old ++ first) → SameMembers new (mid ++ after) → SameMembers new (old
    ++ (first ++ after))
looks_on old mid new first after a b =
    subst (SameMembers new) (append_assoc old first after) (same_through b (same_joined mid after (old ++ first) after a (same_members after)))

-- an answer without a look
pub answered_done : {A : Type 0} (w : LinkWorld) (x : A) (n : Noted) → Answered (done x w) (Some x) n n
answered_done w x n = record { step = (refl, refl); looks = same_equal n.looks (n.looks ++ []) (sym (append-nil n.looks)) }

-- ONE AFTER ANOTHER: the first is answered, and then the second
pub answered_then : {A B : Type 0} (w : LinkWorld) (c : Lookup A) (f : A → Lookup B) (v : A) (y : Option B) (old mid new : Noted)
    → Answered (c w) (Some v) old mid → Answered (f v w) y mid new → Answered ((c >>= f) w) y old new
answered_then {A} {B} w c f v y old mid new a b = by (c w).step (c w).looks a.step a.looks
  where
    by : (step : Step LinkKey A) (looks : List (Fact LinkKey LinkFact)) → IsAnswer step (Some v) old.waits mid.waits → SameMembers mid.looks (old.looks
        ++ looks)
        → Answered (then_step (record { step = step; looks = looks }) (λ x. f x w) step) y old new
    by (Done u) looks s l =
        let same : v ≡ u = some_same v u s.0 in
        subst (λ z. Answered (then_step (record { step = Done u; looks = looks }) (λ x. f x w) (Done z)) y old new) same
        (record {
          step = subst (λ z. IsAnswer (f v w).step y z new.waits) s.1 b.step;
          looks = looks_on old.looks mid.looks new.looks looks (f v w).looks l b.looks;
        })
    by (Waits ks) looks s l = let bad = s.0 in cc

-- the first waits
pub answered_stop : {A B : Type 0} (w : LinkWorld) (c : Lookup A) (f : A → Lookup B) (old new : Noted) → Answered (c w) None old new → Answered
    ((c >>= f) w) None old new
answered_stop {A} {B} w c f old new a = by (c w).step (c w).looks a.step a.looks
  where
    by : (step : Step LinkKey A) (looks : List (Fact LinkKey LinkFact)) → IsAnswer step None old.waits new.waits → SameMembers new.looks (old.looks ++ looks)
        → Answered {A = B} (then_step (record { step = step; looks = looks }) (λ x. f x w) step) None old new
    by (Done u) looks s l = let bad = s.0 in cc
    by (Waits ks) looks s l = record { step = (refl, s.1); looks = l }

-- an asking that agrees is answered alike
pub answered_alike : {A : Type 0} (a b : Asks A) (x : Option A) (old new : Noted) → Agrees a b → Answered a x old new → Answered b x old new
answered_alike a b x old new e h = record {
  step = subst (λ z. IsAnswer z x old.waits new.waits) e.step h.step;
  looks = same_through h.looks (same_joined old.looks a.looks old.looks b.looks (same_members old.looks) e.looks);
}

-- A FIRST STAGE THAT GIVES A LIST, from nothing: it is done, and the second goes on over the code's own list
pub answered_on : {C B : Type 0} (w : LinkWorld) (g : LinkTrail C) (c : Lookup (List C)) (f : List C → Lookup B) (y : Option B) (old mid new : Noted)
    → IsAsked g (c w) → g.waits ≡ [] → mid ≡ noted g.waits g.looks old → ((ys : List C) → SameMembers g.found ys → Agrees (f g.found w) (f ys w))
    → Answered (f g.found w) y mid new → Answered ((c >>= f) w) y old new
answered_on {C} {B} w g c f y old mid new h none is same a = by (c w).step (c w).looks g.waits h.step h.looks none is
  where
    by : (step : Step LinkKey (List C)) (looks : List (Fact LinkKey LinkFact)) (waits : List LinkKey) → IsStep g.found waits step → SameMembers g.looks looks
        → waits ≡ [] → mid ≡ noted waits g.looks old → Answered (then_step (record { step = step; looks = looks }) (λ x. f x w) step) y old new
    by (Done ys) looks [] s l none is =
        let b : Answered (f ys w) y mid new = answered_alike (f g.found w) (f ys w) y mid new (same ys s) a in
        record {
          step = subst (λ (z : Noted). IsAnswer (f ys w).step y z.waits new.waits) is b.step;
          looks = looks_on old.looks mid.looks new.looks looks (f ys w).looks (facts_noted old.looks mid.looks g.looks looks (ap (λ n. n.looks) is) l) b.looks;
        }
    by (Done ys) looks (v ∷ vs) s l none is = absurd s
    by (Waits ks) looks [] s l none is = absurd s
    by (Waits ks) looks (v ∷ vs) s l none is = cc

-- it waits
pub answered_wait : {C B : Type 0} (w : LinkWorld) (g : LinkTrail C) (c : Lookup (List C)) (f : List C → Lookup B) (old mid : Noted)
    → IsAsked g (c w) → (g.waits ≡ [] → ⊥) → mid ≡ noted g.waits g.looks old → Answered {A = B} ((c >>= f) w) None old mid
answered_wait {C} {B} w g c f old mid h some is = by (c w).step (c w).looks g.waits h.step h.looks some is
  where
    by : (step : Step LinkKey (List C)) (looks : List (Fact LinkKey LinkFact)) (waits : List LinkKey) → IsStep g.found waits step → SameMembers g.looks looks
        → (waits ≡ [] → ⊥) → mid ≡ noted waits g.looks old → Answered {A = B} (then_step (record { step = step; looks = looks }) (λ x. f x w) step) None old mid
    by (Done ys) looks [] s l some is = absurd (some refl)
    by (Done ys) looks (v ∷ vs) s l some is = absurd s
    by (Waits ks) looks [] s l some is = absurd s
    by (Waits ks) looks (v ∷ vs) s l some is = record {
      step = (
        refl,
        subst (λ (z : Noted). SameMembers z.waits (old.waits ++ ks)) (sym is)
            (same_through (keys_joined old.waits (v ∷ vs)) (same_joined old.waits (v ∷ vs) old.waits ks (same_members old.waits) s)),
      );
      looks = facts_noted old.looks mid.looks g.looks looks (ap (λ n. n.looks) is) l;
    }

-- an asking with the same step and the same looks
pub asked_over : {B : Type 0} (t : LinkTrail B) (a b : Asks (List B)) → a.step ≡ b.step → SameMembers a.looks b.looks → IsAsked t a → IsAsked t b
asked_over t a b e l h = record { step = subst (IsStep t.found t.waits) e h.step; looks = same_through h.looks l }

-- what is waited on, where anything is
pub waits_are : {B : Type 0} (found : List B) (waits ks : List LinkKey) (k : LinkKey) → IsMember ks k → SameMembers waits ks → IsStep {B = B} found waits
    (Waits ks)
waits_are found [] ks k m s = absurd (s.right k m)
waits_are found (v ∷ vs) ks k m s = s

-- TWO PARTS of one stage are united
pub asked_join : {B : Type 0} (w : LinkWorld) (c d : Lookup (List B)) (g h t : LinkTrail B) → IsAsked g (c w) → IsAsked h (d w)
    → t.found ≡ g.found ++ h.found → t.waits ≡ marked_all same_key g.waits h.waits → t.looks ≡ marked_all same_fact g.looks h.looks → IsAsked t (join c d w)
asked_join {B} w c d g h t a b found waits looks = record {
  step = subst (λ z. IsStep t.found z (join_step (c w).step (d w).step)) (sym waits)
      (subst (λ z. IsStep z (marked_all same_key g.waits h.waits) (join_step (c w).step (d w).step)) (sym found)
      (by (c w).step (d w).step g.waits h.waits a.step b.step));
  looks = subst (λ z. SameMembers z ((c w).looks ++ (d w).looks)) (sym looks)
      (same_through (facts_joined g.looks h.looks) (same_joined g.looks h.looks (c w).looks (d w).looks a.looks b.looks));
}
  where
    by : (m n : Step LinkKey (List B)) (us vs : List LinkKey) → IsStep g.found us m → IsStep h.found vs n → IsStep (g.found ++ h.found)
        (marked_all same_key us vs) (join_step m n)
    by (Done xs) (Done ys) [] [] p q = same_joined g.found h.found xs ys p q
    by (Done xs) (Done ys) [] (v ∷ vs) p q = absurd q
    by (Done xs) (Done ys) (u ∷ us) vs p q = absurd p
    by (Done xs) (Waits ls) [] [] p q = absurd q
    by (Done xs) (Waits ls) [] (v ∷ vs) p q =
        waits_are (g.found ++ h.found) (marked_all same_key [] (v ∷ vs)) ls v (q.left v (inl refl)) (same_through (keys_joined [] (v ∷ vs)) q)
    by (Done xs) (Waits ls) (u ∷ us) vs p q = absurd p
    by (Waits ks) (Done ys) [] vs p q = absurd p
    by (Waits ks) (Done ys) (u ∷ us) [] p q = p
    by (Waits ks) (Done ys) (u ∷ us) (v ∷ vs) p q = absurd q
    by (Waits ks) (Waits ls) [] vs p q = absurd p
    by (Waits ks) (Waits ls) (u ∷ us) [] p q = absurd q
    by (Waits ks) (Waits ls) (u ∷ us) (v ∷ vs) p q =
        waits_are (g.found ++ h.found) (marked_all same_key (u ∷ us) (v ∷ vs)) (ks ++ ls) u (member_left ks ls u (p.left u (inl refl)))
        (same_through (keys_joined (u ∷ us) (v ∷ vs)) (same_joined (u ∷ us) (v ∷ vs) ks ls p q))
