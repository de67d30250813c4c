-- What is inherited, over lists of the code's own: the stages ask of a list only which members it has.
use Rattle.std.proofs.Common.{◌≡◌, ℕ, Bool, cond, List, [], ◌∷◌, refl, ◌∙◌, subst, inl}
use Rattle.std.specs.Prelude.{◌||◌, ◌&&◌, not}
use Rattle.std.specs.List.{list_any}
use Rattle.linker_base.specs.Members.{SameMembers}
use Rattle.linker_base.proofs.MemberLaws.{same_members, same_joined}
use Rattle.demand_core.specs.Alike.{Alike}
use Rattle.demand_core.specs.Computation.{Asked, done, then_step, ◌>>=◌, both, joined}
use Rattle.demand_core.specs.Gather.{follow}
use Rattle.demand_core.proofs.AlikeLaws.{alike_itself, any_over, joined_respects, then_respects, both_respects}
use Rattle.element_store.specs.declared.numbers.ElementNo.{ElementNo}
use Rattle.link_model.specs.declared.keys.LinkKey.{LinkKey}
use Rattle.link_model.specs.declared.keys.LinkFact.{LinkFact}
use Rattle.link_model.specs.declared.keys.Hit.{Hit}
use Rattle.link_model.specs.Keys.{same_element, is_in}
use Rattle.link_model.specs.Outside.{Library}
use Rattle.link_model.specs.Readers.{Lookup, LinkWorld, most, is_nil, only_if, of_members}
use Rattle.link_model.specs.Inheritance.{general, Candidate, candidate, candidates, Redefines, redefiners, Removal, removals, is_removed_with, blocks, is_redefined_elsewhere, general_links, reached, unblocked, stays, inherited}
use Rattle.link_model.proofs.TameLaws.{candidate_stage_tame, redefiners_tame, removals_tame, stays_tame}

elsewhere_same : (us vs : List ElementNo) (rs qs : List Redefines) (e : ElementNo) → SameMembers us vs → SameMembers rs qs → is_redefined_elsewhere us rs e
    ≡ is_redefined_elsewhere vs qs e
elsewhere_same us vs rs qs e hu hr =
    any_over (λ (r : Redefines). not r.direct && not (same_element r.feature e) && same_element r.redefined e && not r.hidden && is_in r.owner us) rs qs hr
    ∙ (λ i. list_any (λ (r : Redefines). not r.direct && not (same_element r.feature e) && same_element r.redefined e && not r.hidden
    && any_over (same_element r.owner) us vs hu i) qs)

blocks_same : (rs qs : List Redefines) (ps os : List Removal) (e u : ElementNo) → SameMembers rs qs → SameMembers ps os → blocks rs ps e u ≡ blocks qs os e u
blocks_same rs qs ps os e u hr hp =
    any_over (λ (r : Redefines). r.direct && same_element r.owner u && is_removed_with ps e r.redefined) rs qs hr
    ∙ (λ i. list_any (λ (r : Redefines). r.direct && same_element r.owner u
    && (same_element e r.redefined || any_over (λ (p : Removal). same_element p.of e && same_element p.redefined r.redefined) ps os hp i)) qs)

same_front : {A : Type 0} (a : A) (xs ys : List A) → SameMembers xs ys → SameMembers (a ∷ xs) (a ∷ ys)
same_front a xs ys h = same_joined (a ∷ []) xs (a ∷ []) ys (same_members (a ∷ [])) h

module _ (lib : Library) where
  unblocked_same : (rs qs : List Redefines) (ps os : List Removal) (e t : ElementNo) → SameMembers rs qs → SameMembers ps os → unblocked lib rs ps e t
      ≡ unblocked lib qs os e t
  unblocked_same rs qs ps os e t hr hp =
      λ i. follow same_element (λ u. cond (blocks_same rs qs ps os e u hr hp i) (done []) (general_links lib u)) general most t

  stays_same : (us vs : List ElementNo) (t : ElementNo) (rs qs : List Redefines) (ps os : List Removal) → SameMembers us vs → SameMembers rs qs
      → SameMembers ps os → stays lib us t rs ps ≡ stays lib vs t qs os
  stays_same us vs t rs qs ps os hu hr hp =
      λ i c. cond (elsewhere_same us vs rs qs c.hit.element hu hr i) (done [])
      (unblocked_same rs qs ps os c.hit.element t hr hp i >>= λ vs. done (only_if (is_in c.owner vs) c.hit))

  -- stage three and the conditions, for these types and candidates
  abbrev pub conditions : Bool → ElementNo → List ElementNo → List Candidate → Lookup (List Hit)
  conditions raw t us cs = cond (is_nil cs) (done [])
      (both (joined (redefiners raw t) (t ∷ us)) (joined (removals raw t) cs) >>= λ p. joined (stays lib us t p.0 p.1) cs)

  -- the stages after the types are reached
  abbrev pub after_reached : Bool → List ℕ → ElementNo → List ElementNo → Lookup (List Hit)
  after_reached raw x t us = candidates x t us >>= conditions raw t us

  module _ (s : LinkWorld) (raw : Bool) (x : List ℕ) (t : ElementNo) where
    conditions_respect : (us vs : List ElementNo) → SameMembers us vs → (cs ds : List Candidate) → SameMembers cs ds
        → Alike (conditions raw t us cs s) (conditions raw t vs ds s)
    conditions_respect us vs hu [] [] h = alike_itself (done [] s)
    conditions_respect us vs hu [] (d ∷ ds) h = absurd (h.right d (inl refl))
    conditions_respect us vs hu (c ∷ cs) [] h = absurd (h.left c (inl refl))
    conditions_respect us vs hu (c ∷ cs) (d ∷ ds) h =
        let one = joined_respects s (redefiners raw t) (λ u. (redefiners_tame raw t u).regular) (t ∷ us) (t ∷ vs) (same_front t us vs hu) in
        let two = joined_respects s (removals raw t) (λ k. (removals_tame raw t k).regular) (c ∷ cs) (d ∷ ds) h in
        both_respects s _ _ _ _ _ _ (λ p. joined (stays lib us t p.0 p.1) (c ∷ cs)) (λ p. joined (stays lib vs t p.0 p.1) (d ∷ ds))
        (same_joined _ _ _ _ one.looks two.looks) one.step two.step
        (λ rs qs ps os hr hp. subst (λ f. Alike (joined (stays lib us t rs ps) (c ∷ cs) s) (joined f (d ∷ ds) s)) (stays_same us vs t rs qs ps os hu hr hp)
        (joined_respects s (stays lib us t rs ps) (λ k. (stays_tame lib us t rs ps k).regular) (c ∷ cs) (d ∷ ds) h))

    after_reached_respects : (us vs : List ElementNo) → SameMembers us vs → Alike (after_reached raw x t us s) (after_reached raw x t vs s)
    after_reached_respects us vs h =
        then_respects s (candidates x t us s) (candidates x t vs s) (conditions raw t us) (conditions raw t vs)
        (joined_respects s (λ u. cond (same_element u t) (done []) (of_members (candidate x u) u)) (λ u. (candidate_stage_tame x t u).regular) us vs h)
        (conditions_respect us vs h)

    -- THE STAGES IN CODE: over an asking of its own for the types that are reached, alike to the definition's
    pub inherited_over : (a : Asked LinkKey LinkFact (List ElementNo)) → Alike (reached lib t s) a
        → Alike (inherited lib raw x t s) (then_step a (λ us. after_reached raw x t us s) a.step)
    inherited_over a h = then_respects s (reached lib t s) a (after_reached raw x t) (after_reached raw x t) h after_reached_respects

    -- and over candidates of its own
    pub conditions_over : (us vs : List ElementNo) → SameMembers us vs → (a : Asked LinkKey LinkFact (List Candidate)) → Alike (candidates x t us s) a
        → Alike (after_reached raw x t us s) (then_step a (λ cs. conditions raw t vs cs s) a.step)
    conditions_over us vs hu a h = then_respects s (candidates x t us s) a (conditions raw t us) (conditions raw t vs) h (conditions_respect us vs hu)
