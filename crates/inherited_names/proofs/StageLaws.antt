-- The stages over lists of the code's own, and what stands.
use Rattle.std.proofs.Common.{◌≡◌, ℕ, ◌<◌, Bool, true, false, cond, List, [], ◌∷◌, ◌++◌, map, get_or, refl, sym, ◌∙◌, ap, subst, inl, inr, arith}
use Rattle.std.proofs.lemmas.Bool.Decides.{nat_tests}
use Rattle.std.specs.Prelude.{◌⊎◌, ◌&&◌, ◌||◌, not, nat_lt, slice_get, length, Option, None, Some}
use Rattle.std.specs.List.{list_any}
use Rattle.linker_base.specs.Members.{IsMember, SameMembers}
use Rattle.linker_base.proofs.Cases.{bool_cases, both_true, and_true}
use Rattle.linker_base.proofs.MemberLaws.{same_members, same_joined}
use Rattle.demand_core.specs.Alike.{Alike}
use Rattle.demand_core.specs.Computation.{done, then_step, ◌>>=◌, both, joined}
use Rattle.demand_core.specs.Gather.{follow}
use Rattle.demand_core.proofs.AlikeLaws.{alike_itself, any_over, joined_respects, then_respects, both_respects}
use Rattle.element_store.specs.declared.numbers.ElementNo.{ElementNo}
use Rattle.link_model.specs.declared.keys.Hit.{Hit}
use Rattle.link_model.specs.Keys.{same_element, is_in}
use Rattle.link_model.specs.Outside.{Library}
use Rattle.link_model.specs.Readers.{Lookup, LinkWorld, most, is_nil, only_if, of_members}
use Rattle.link_model.specs.Inheritance as inheritance
use Rattle.link_model.specs.Inheritance.{general, Candidate, candidate, candidates, Redefines, redefiners, Removal, removals, is_removed_with, blocks, is_redefined_elsewhere, general_links, unblocked, stays}
use Rattle.link_model.proofs.TameLaws.{candidate_stage_tame, redefiners_tame, removals_tame, stays_tame}
use Rattle.feature_facts.specs.Stages.{facts_asked}
use Rattle.removed_features.specs.Stages.{gone}
use Rattle.inherited_names.specs.Stages.{conditions, after_reached, is_blocking, open_reached}
use Rattle.feature_facts.specs.Known.{KnownBy, HasAnswer, answered, library_for, world_of}
use Rattle.removed_features.specs.Known.{AreRemoved}
use Rattle.inherited_names.specs.Known.{IsSettled, facts_in, gone_in}
use Rattle.feature_facts.specs.declared.heir.Candidate.{Candidate as Given}
use Rattle.inherited_names.specs.declared.conditions.Stage.{Stage}
use Rattle.feature_facts.proofs.SearchParts.{quiet_done}
use Rattle.link_walk.specs.Noted.{Noted}
use Rattle.link_model.specs.Settled.{answers_of}
use Rattle.link_model.specs.declared.keys.LinkKey.{LinkKey}
use Rattle.demand_core.specs.declared.step.Step.{Step}
use Rattle.demand_core.specs.declared.step.Step.TheVariants.{Done, Waits}
use Rattle.feature_facts.specs.declared.facts.Facts.{Facts}
use Rattle.feature_facts.proofs.Tests.{bool_by, three_true, true_three, any_member, member_any}

-- lists with the same members (as in link_model's own laws, which are private there)
elsewhere_same : (us vs : List ElementNo) (rs qs : List Redefines) (e : ElementNo) → SameMembers us vs → SameMembers rs qs → is_redefined_elsewhere us rs e
    ≡ is_redefined_elsewhere vs qs e
elsewhere_same us vs rs qs e hu hr =
    any_over (λ (r : Redefines). not r.direct && not (same_element r.feature e) && same_element r.redefined e && not r.hidden && is_in r.owner us) rs qs hr
    ∙ (λ i. list_any (λ (r : Redefines). not r.direct && not (same_element r.feature e) && same_element r.redefined e && not r.hidden
    && any_over (same_element r.owner) us vs hu i) qs)

blocks_same : (rs qs : List Redefines) (ps os : List Removal) (e u : ElementNo) → SameMembers rs qs → SameMembers ps os → blocks rs ps e u ≡ blocks qs os e u
blocks_same rs qs ps os e u hr hp =
    any_over (λ (r : Redefines). r.direct && same_element r.owner u && is_removed_with ps e r.redefined) rs qs hr
    ∙ (λ i. list_any (λ (r : Redefines). r.direct && same_element r.owner u
    && (same_element e r.redefined || any_over (λ (p : Removal). same_element p.of e && same_element p.redefined r.redefined) ps os hp i)) qs)

same_front : {A : Type 0} (a : A) (xs ys : List A) → SameMembers xs ys → SameMembers (a ∷ xs) (a ∷ ys)
same_front a xs ys h = same_joined (a ∷ []) xs (a ∷ []) ys (same_members (a ∷ [])) h

module _ (lib : Library) where
  unblocked_same : (rs qs : List Redefines) (ps os : List Removal) (e t : ElementNo) → SameMembers rs qs → SameMembers ps os → unblocked lib rs ps e t
      ≡ unblocked lib qs os e t
  unblocked_same rs qs ps os e t hr hp =
      λ i. follow same_element (λ u. cond (blocks_same rs qs ps os e u hr hp i) (done []) (general_links lib u)) general most t

  stays_same : (us vs : List ElementNo) (t : ElementNo) (rs qs : List Redefines) (ps os : List Removal) → SameMembers us vs → SameMembers rs qs
      → SameMembers ps os → stays lib us t rs ps ≡ stays lib vs t qs os
  stays_same us vs t rs qs ps os hu hr hp =
      λ i c. cond (elsewhere_same us vs rs qs c.hit.element hu hr i) (done [])
      (unblocked_same rs qs ps os c.hit.element t hr hp i >>= λ vs. done (only_if (is_in c.owner vs) c.hit))

  module _ (s : LinkWorld) (raw : Bool) (t : ElementNo) where
    -- over other lists of what is redefined
    pub decided_respects : (us : List ElementNo) (cs : List Candidate) (rs qs : List Redefines) (ps os : List Removal) → SameMembers rs qs
        → SameMembers ps os → Alike (joined (stays lib us t rs ps) cs s) (joined (stays lib us t qs os) cs s)
    decided_respects us cs rs qs ps os hr hp =
        subst (λ f. Alike (joined (stays lib us t rs ps) cs s) (joined f cs s)) (stays_same us us t rs qs ps os (same_members us) hr hp)
        (alike_itself (joined (stays lib us t rs ps) cs s))

    -- over other lists of types and of candidates
    pub conditions_respect : (us vs : List ElementNo) → SameMembers us vs → (cs ds : List Candidate) → SameMembers cs ds
        → Alike (conditions lib raw t us cs s) (conditions lib raw t vs ds s)
    unfolding facts_asked gone
    conditions_respect us vs hu [] [] h = alike_itself (done [] s)
    conditions_respect us vs hu [] (d ∷ ds) h = absurd (h.right d (inl refl))
    conditions_respect us vs hu (c ∷ cs) [] h = absurd (h.left c (inl refl))
    conditions_respect us vs hu (c ∷ cs) (d ∷ ds) h =
        let one = joined_respects s (redefiners raw t) (λ u. (redefiners_tame raw t u).regular) (t ∷ us) (t ∷ vs) (same_front t us vs hu) in
        let two = joined_respects s (removals raw t) (λ k. (removals_tame raw t k).regular) (c ∷ cs) (d ∷ ds) h in
        both_respects s _ _ _ _ _ _ (λ p. joined (stays lib us t p.0 p.1) (c ∷ cs)) (λ p. joined (stays lib vs t p.0 p.1) (d ∷ ds))
        (same_joined _ _ _ _ one.looks two.looks) one.step two.step
        (λ rs qs ps os hr hp. subst (λ f. Alike (joined (stays lib us t rs ps) (c ∷ cs) s) (joined f (d ∷ ds) s)) (stays_same us vs t rs qs ps os hu hr hp)
        (joined_respects s (stays lib us t rs ps) (λ k. (stays_tame lib us t rs ps k).regular) (c ∷ cs) (d ∷ ds) h))

    pub after_reached_respects : (x : List ℕ) (us vs : List ElementNo) → SameMembers us vs
        → Alike (after_reached lib raw x t us s) (after_reached lib raw x t vs s)
    after_reached_respects x us vs h =
        then_respects s (candidates x t us s) (candidates x t vs s) (conditions lib raw t us) (conditions lib raw t vs)
        (joined_respects s (λ u. cond (same_element u t) (done []) (of_members (candidate x u) u)) (λ u. (candidate_stage_tame x t u).regular) us vs h)
        (conditions_respect us vs h)

  -- WHERE THE SET OF TYPES THAT BLOCK IS READ OFF THE DIRECT REDEFINITIONS, the search is the definition's.
  pub blocks_are : (w : LinkWorld) (rs : List Redefines) (ps : List Removal) (f : Facts) (e : ElementNo) (gs : List ElementNo) → KnownBy w rs f
      → ((g : ElementNo) → is_in g gs ≡ is_removed_with ps e g) → (u : ElementNo) → list_any (is_blocking gs u) f.directs ≡ blocks rs ps e u
  blocks_are w rs ps f e gs known removed u = bool_by (list_any (is_blocking gs u) f.directs) (blocks rs ps e u)
      (λ h.
      let d = any_member (is_blocking gs u) f.directs h in
      let two = both_true (is_in d.0.redefined gs) (same_element d.0.by.owner u) d.2 in
      let r = known.direct_in d.0 d.1 in
      member_any (λ (r : Redefines). r.direct && same_element r.owner u && is_removed_with ps e r.redefined) rs r.0 r.1
      (true_three r.0.direct (same_element r.0.owner u) (is_removed_with ps e r.0.redefined) r.2 (ap (λ z. same_element z u) r.3 ∙ two.1)
      (ap (is_removed_with ps e) r.4 ∙ (sym (removed d.0.redefined) ∙ two.0))))
      (λ h.
      let r = any_member (λ (r : Redefines). r.direct && same_element r.owner u && is_removed_with ps e r.redefined) rs h in
      let three = three_true r.0.direct (same_element r.0.owner u) (is_removed_with ps e r.0.redefined) r.2 in
      let d = known.direct_out r.0 r.1 three.0 in
      member_any (is_blocking gs u) f.directs d.0 d.1 (and_true (is_in d.0.redefined gs) (same_element d.0.by.owner u)
      (removed d.0.redefined ∙ (ap (is_removed_with ps e) (sym d.3) ∙ three.2)) (ap (λ z. same_element z u) (sym d.2) ∙ three.1)))

  pub open_is : (rs : List Redefines) (ps : List Removal) (e t : ElementNo) (bs : List ElementNo) → ((u : ElementNo) → is_in u bs ≡ blocks rs ps e u)
      → open_reached lib bs t ≡ unblocked lib rs ps e t
  open_is rs ps e t bs is = λ i. follow same_element (λ u. cond (is u i) (done []) (general_links lib u)) general most t

-- the definition's stages
pub inherited_is : (lib : Library) (raw : Bool) (x : List ℕ) (t : ElementNo) (w : LinkWorld)
    → (inheritance.reached lib t >>= after_reached lib raw x t) w ≡ inheritance.inherited lib raw x t w
unfolding facts_asked gone
inherited_is lib raw x t w = refl

-- the search of a stage's candidate
pub ways_are : (s : Stage) → IsSettled s → (c : Given) → IsMember s.candidates.now c → (gs bs : List ElementNo) → AreRemoved s.heir.now c.hit.element gs
    → ((u : ElementNo) → is_in u bs ≡ list_any (is_blocking gs u) s.facts.now.directs)
    → open_reached (library_for s.heir.now) bs s.heir.now.of ≡ unblocked (library_for s.heir.now) (facts_in s) (gone_in s) c.hit.element s.heir.now.of
ways_are s settled c m gs bs removed blocking =
    open_is (library_for s.heir.now) (facts_in s) (gone_in s) c.hit.element s.heir.now.of bs
    (λ u. blocking u ∙ blocks_are (library_for s.heir.now) (world_of s.heir.now) (facts_in s) (gone_in s) s.facts.now c.hit.element gs settled.facts
    (removed s.candidates.now c m refl (gone_in s) settled.gone) u)

-- where neither of two askings waits
pub neither : {A : Type 0} (a b : List A) → (not (is_nil a) || not (is_nil b)) ≡ false → (a ≡ []) × (b ≡ [])
neither [] [] e = (refl, refl)
neither [] (y ∷ b) e = cc
neither (x ∷ a) b e = cc

pub either : {A : Type 0} (a b : List A) → (not (is_nil a) || not (is_nil b)) ≡ true → a ≡ [] → b ≡ [] → ⊥
either [] [] e p q = (let bad : ⊥ = cc in bad)
either [] (y ∷ b) e p q = (let bad : ⊥ = cc in bad)
either (x ∷ a) b e p q = (let bad : ⊥ = cc in bad)

abbrev waiting : {B : Type 0} → List LinkKey → Step LinkKey (List B)
waiting ks = Waits ks

no_answer : {B : Type 0} (ks : List LinkKey) (ys : List B) → waiting {B = B} ks ≡ Done ys → ⊥
no_answer ks ys e = cc

-- what an asking that waits on nothing answers
pub answer_is : {B : Type 0} (c : Lookup (List B)) (w : LinkWorld) (n : Noted) → HasAnswer c w n → n.waits ≡ []
    → (c w).step ≡ Done (answers_of (c w).step)
answer_is {B} c w n h quiet = by (c w).step (quiet_done (answered c w n) (c w) h quiet)
  where
    by : (step : Step LinkKey (List B)) → (ys : List B) × (step ≡ Done ys) → step ≡ Done (answers_of step)
    by (Done ys) d = refl
    by (Waits ks) d = absurd (no_answer ks d.0 d.1)
