-- Parts of a stage that code adds one after another, and looks before a stage.
use Rattle.std.proofs.Common.{◌≡◌, ◌∙◌, ℕ, ◌+◌, ◌<◌, ◌≤◌, List, [], ◌∷◌, ◌++◌, map, length, take, get_or, refl, sym, ap, subst, inl, inr, append-nil, append_assoc, add-one, take-suc}
use Rattle.std.specs.Prelude.{Option, None, Some}
use Rattle.std.proofs.lemmas.List.{take_all}
use Rattle.linker_base.specs.Members.{IsMember, SameMembers}
use Rattle.linker_base.proofs.MemberLaws.{member_left, member_right, member_cases, same_members, same_through, same_joined}
use Rattle.demand_core.specs.Computation.{done, then_step, ◌>>=◌, join, join_step, joined, IsSound}
use Rattle.demand_core.specs.Search.{IsStep, IsAsked}
use Rattle.demand_core.specs.declared.looks.Fact.{Fact}
use Rattle.demand_core.specs.declared.step.Step.{Step}
use Rattle.demand_core.specs.declared.step.Step.TheVariants.{Done, Waits}
use Rattle.demand_core.proofs.LoopLaws.{join_assoc, join_first, join_last}
use Rattle.link_model.specs.declared.keys.LinkKey.{LinkKey}
use Rattle.link_model.specs.declared.keys.LinkFact.{LinkFact}
use Rattle.link_model.specs.declared.keys.Hit.{Hit}
use Rattle.link_model.specs.Keys.{same_key}
use Rattle.link_model.specs.Readers.{Lookup, LinkWorld, listed}
use Rattle.link_walk.specs.Marks.{marked_all, same_fact}
use Rattle.link_walk.specs.Noted.{Noted, Asks, LinkTrail, noted, Reads, Tells, TellsStep, waits_of}
use Rattle.link_walk.proofs.MarkLaws.{marked_append}
use Rattle.link_tiers.specs.Tiers.{Joins}
use Rattle.link_tiers.proofs.AnsweredLaws.{asked_over, asked_join, facts_joined, same_back, same_equal}

-- the union of all but the last, and the last
joined_last : {A B : Type 0} (w : LinkWorld) (f : A → Lookup (List B)) (xs : List A) (x : A) → joined f (xs ++ x ∷ []) w ≡ join (joined f xs) (f x) w
joined_last w f [] x = λ i. record { step = (join_last (f x w).step ∙ sym (join_first (f x w).step)) i; looks = append-nil (f x w).looks i }
joined_last w f (y ∷ xs) x =
    let more = joined_last w f xs x in
    λ i. record {
      step = (ap (λ a. join_step (f y w).step a.step) more ∙ sym (join_assoc (f y w).step (joined f xs w).step (f x w).step)) i;
      looks = (ap (λ a. (f y w).looks ++ a.looks) more ∙ sym (append_assoc (f y w).looks (joined f xs w).looks (f x w).looks)) i;
    }

-- one part more
pub asked_next : {C : Type 0} (w : LinkWorld) (f : C → Lookup (List Hit)) (xs : List C) (i : ℕ) (d e : C) (old new : LinkTrail Hit) → i < length xs → d
    ≡ get_or xs i e
    → IsAsked old (joined f (take i xs) w) → Joins w (f d) old new → IsAsked new (joined f (take (i + 1) xs) w)
asked_next w f xs i d e old new lt is a j =
    let more : take (i + 1) xs ≡ take i xs ++ d ∷ [] = rw add-one (take-suc xs i e lt) ∙ ap (λ z. take i xs ++ z ∷ []) (sym is) in
    subst (λ ys. IsAsked new (joined f ys w)) (sym more) (subst (IsAsked new) (sym (joined_last w f (take i xs) d)) (j.joins (joined f (take i xs)) a))

-- after the last part
pub asked_all : {C : Type 0} (w : LinkWorld) (f : C → Lookup (List Hit)) (xs : List C) (i : ℕ) (new : LinkTrail Hit) → length xs ≤ i → IsAsked new (joined f
    (take i xs) w) → IsAsked new (joined f xs w)
asked_all w f xs i new all h = subst (λ ys. IsAsked new (joined f ys w)) (take_all i xs all) h

-- before the first
pub asked_none : (w : LinkWorld) (t : LinkTrail Hit) → t ≡ record { nodes = []; found = []; waits = []; looks = [] } → IsAsked t (done [] w)
asked_none w t e = subst (λ z. IsAsked z (done [] w)) (sym e) (record { step = same_members []; looks = same_members [] })

-- a part that is nothing
pub joins_none : (w : LinkWorld) (t : LinkTrail Hit) → Joins w (done []) t t
joins_none w t = record {
  joins = λ c h. asked_over t (c w) (join c (done []) w) (sym (join_last (c w).step)) (same_equal (c w).looks ((c w).looks ++ [])
      (sym (append-nil (c w).looks))) h;
}

-- an asking of its own
pub joins_asked : (w : LinkWorld) (part : Lookup (List Hit)) (g old new : LinkTrail Hit) → IsAsked g (part w) → new.found ≡ old.found ++ g.found
    → new.waits ≡ marked_all same_key old.waits g.waits → new.looks ≡ marked_all same_fact old.looks g.looks → Joins w part old new
joins_asked w part g old new h found waits looks = record { joins = λ c a. asked_join w c part old g new a h found waits looks }

-- a part that agrees
pub joins_over : (w : LinkWorld) (p q : Lookup (List Hit)) (old new : LinkTrail Hit) → (p w).step ≡ (q w).step → SameMembers (p w).looks (q w).looks
    → Joins w p old new → Joins w q old new
joins_over w p q old new e l j = record {
  joins = λ c a. asked_over new (join c p w) (join c q w) (ap (join_step (c w).step) e) (same_joined (c w).looks (p w).looks (c w).looks (q w).looks
      (same_members (c w).looks) l) (j.joins c a);
}

swap : {A : Type 0} (us vs : List A) (x : A) → IsMember (us ++ vs) x → IsMember (vs ++ us) x
swap us vs x m = elim (member_cases us vs x m) [ inl a ↦ member_right vs us x a | inr b ↦ member_left vs us x b ]

turned : {A : Type 0} (xs ys : List A) → SameMembers (xs ++ ys) (ys ++ xs)
turned xs ys = record { left = swap xs ys; right = swap ys xs }

abbrev ready : {C : Type 0} → C → Step LinkKey C
ready z = Done z

done_same : {C : Type 0} (u v : C) → ready u ≡ ready v → u ≡ v
done_same u v e = cc

-- LOOKS BEFORE a stage are noted after it
pub asked_seen : {B : Type 0} (g t : LinkTrail B) (a b : Asks (List B)) (more : List (Fact LinkKey LinkFact)) → IsAsked g b → t.found ≡ g.found → t.waits
    ≡ g.waits
    → t.looks ≡ marked_all same_fact g.looks more → a.step ≡ b.step → a.looks ≡ more ++ b.looks → IsAsked t a
asked_seen g t a b more h found waits looks step ls = record {
  step = subst (IsStep t.found t.waits) (sym step) (subst (λ z. IsStep z t.waits b.step) (sym found) (subst (λ z. IsStep g.found z b.step) (sym waits) h.step));
  looks = subst (λ z. SameMembers z a.looks) (sym looks) (subst (SameMembers (marked_all same_fact g.looks more)) (sym ls)
      (same_through (facts_joined g.looks more) (same_through (same_joined g.looks more b.looks more h.looks (same_members more)) (turned b.looks more))));
}

-- the same where a stage reads one thing, and then
pub asked_read : {C B : Type 0} (w : LinkWorld) (c : Lookup C) (f : C → Lookup (List B)) (v : C) (old mid : Noted) (g t : LinkTrail B) → Reads
    (c w) v old mid → old ≡ record { waits = []; looks = [] }
    → IsAsked g (f v w) → t.found ≡ g.found → t.waits ≡ marked_all same_key g.waits mid.waits → t.looks ≡ marked_all same_fact g.looks mid.looks → IsAsked t
    ((c >>= f) w)
asked_read {C} {B} w c f v old mid g t r empty h found waits looks = by (c w).step (c w).looks r.step r.noted
  where
    by : (step : Step LinkKey C) (ls : List (Fact LinkKey LinkFact)) → step ≡ Done v → mid ≡ noted [] ls old → IsAsked t (then_step {B = List B}
        (record { step = step; looks = ls }) (λ x. f x w) step)
    by (Done u) ls s n =
        let same : u ≡ v = done_same u v s in
        let none : mid.waits ≡ [] = ap (λ (z : Noted). z.waits) (n ∙ ap (noted [] ls) empty) in
        let seen : mid.looks ≡ marked_all same_fact [] ls = ap (λ (z : Noted). z.looks) (n ∙ ap (noted [] ls) empty) in
        subst (λ z. IsAsked t (then_step {B = List B} (record { step = Done u; looks = ls }) (λ x. f x w) (Done z))) (sym same) (record {
          step = subst (IsStep t.found t.waits) refl (subst (λ z. IsStep z t.waits (f v w).step) (sym found) (subst (λ z. IsStep g.found z (f v w).step)
              (sym (waits ∙ ap (marked_all same_key g.waits) none)) h.step));
          looks = subst (λ z. SameMembers z (ls ++ (f v w).looks)) (sym (looks ∙ ap (marked_all same_fact g.looks) seen))
              (same_through (facts_joined g.looks (marked_all same_fact [] ls)) (same_through (same_joined g.looks (marked_all same_fact [] ls)
              (f v w).looks ls h.looks (facts_joined [] ls)) (turned (f v w).looks ls)));
        })
    by (Waits ks) ls s n = cc

-- a reading, and then what is told
pub tells_after : {C B : Type 0} (w : LinkWorld) (c : Lookup C) (f : C → Lookup (List B)) (v : C) (o : Option B) (old mid new : Noted) → Reads
    (c w) v old mid → Tells (f v w) o mid new
    → Tells ((c >>= f) w) o old new
tells_after {C} {B} w c f v o old mid new r h = by (c w).step (c w).looks r.step r.noted
  where
    by : (step : Step LinkKey C) (ls : List (Fact LinkKey LinkFact)) → step ≡ Done v → mid ≡ noted [] ls old → Tells (then_step {B = List B}
        (record { step = step; looks = ls }) (λ x. f x w) step) o old new
    by (Done u) ls s n =
        let same : u ≡ v = done_same u v s in
        subst (λ z. Tells (then_step {B = List B} (record { step = Done u; looks = ls }) (λ x. f x w) (Done z)) o old new) (sym same) (record {
          step = h.step;
          noted = h.noted ∙ (ap (noted (waits_of (f v w).step) (f v w).looks) n
              ∙ λ i. record {
                waits = marked_all same_key old.waits (waits_of (f v w).step);
                looks = sym (marked_append same_fact old.looks ls
                    (f v w).looks) i;
              });
        })
    by (Waits ks) ls s n = cc
