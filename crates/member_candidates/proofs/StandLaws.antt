-- What is found stands in the models: the elements of candidates.
use Rattle.std.proofs.Common.{◌≡◌, ℕ, ◌+◌, ◌<◌, Bool, true, false, cond, List, [], ◌∷◌, map, length, refl, sym, ◌∙◌, ap, subst, inl, inr, arith}
use Rattle.std.proofs.lemmas.Bool.Decides.{nat_tests}
use Rattle.std.specs.Prelude.{◌⊎◌, ◌&&◌, nat_eq, nat_lt, slice_get, Option, None, Some}
use Rattle.linker_base.specs.Members.{IsMember}
use Rattle.linker_base.proofs.Cases.{both_true}
use Rattle.demand_core.specs.Computation.{done, ◌>>=◌, join, joined}
use Rattle.demand_core.specs.Search.{Part, Finds, Awaits, LooksAt, Has, Shows}
use Rattle.demand_core.specs.declared.step.Step.TheVariants.{Done}
use Rattle.demand_core.proofs.PartLaws.{shows_nothing, shows_join, shows_joined, shows_then}
use Rattle.element_store.specs.BaseRules.{StandsIn}
use Rattle.element_store.specs.Condition.{IsModel, members_of, member_stands, target_stands}
use Rattle.element_store.specs.Model.{Data, bears}
use Rattle.element_store.specs.Stored.{AreFiles}
use Rattle.element_store.specs.declared.numbers.FileNo.{FileNo}
use Rattle.element_store.specs.declared.numbers.ElementNo.{ElementNo}
use Rattle.element_store.specs.declared.outcome.Outcome.{Outcome}
use Rattle.element_store.specs.declared.records.Member.{Member}
use Rattle.element_store.specs.declared.records.Target.{Target}
use Rattle.element_store.specs.declared.records.Target.TheVariants.{Owned, Alias}
use Rattle.element_store.specs.declared.models.StoredFile.{StoredFile}
use Rattle.element_store.proofs.ModelLaws.{all_at}
use Rattle.link_model.specs.declared.keys.LinkKey.{LinkKey}
use Rattle.link_model.specs.declared.keys.LinkFact.{LinkFact}
use Rattle.link_model.specs.declared.keys.Hit.{Hit}
use Rattle.link_model.specs.Keys.{same_element}
use Rattle.link_model.specs.Outside.{model_in, is_private}
use Rattle.link_model.specs.Readers.{Lookup, LinkWorld, told, model, of_members, is_nil, is_named, only_if, key}
use Rattle.link_model.specs.Names.{declared_names, names, leads_to, hit, declared_hit, hit_named, effective_hit}
use Rattle.link_model.specs.Inheritance.{Candidate, candidate, candidates}
use Rattle.link_walk.specs.Calls.{reading, AreLinks}
use Rattle.inheritance.proofs.ExpandLaws.{model_same}
use Rattle.feature_facts.specs.Stages.{told_of}
use Rattle.feature_facts.proofs.Asides.{done_of}
use Rattle.feature_facts.proofs.PartNames.{Maps, shows_map, shows_if, shows_unless}
use Rattle.feature_facts.proofs.TableLaws.{number_at}
use Rattle.feature_facts.proofs.SearchParts.{target_there}
use Rattle.feature_facts.proofs.OwnedStands.{owned_stands}

module _ (files : List StoredFile) (are : AreFiles files) where
  module _ (table : List (LinkKey × Outcome)) (links : AreLinks files table) where
    abbrev w : LinkWorld
    w = reading files table

    abbrev HitPart : Type 0
    HitPart = Part LinkKey LinkFact Hit

    module _ (u : ElementNo) (stands : StandsIn files u) (k : ℕ) (m : Member) (at : slice_get (model_in (slice_get files u.file.0)).members k ≡ Some m) where
      abbrev f : FileNo
      f = u.file

      lead_stands : (t : Target) → m.target ≡ t → (e : ElementNo) → Has (leads_to f t w).step e → StandsIn files e
      lead_stands (Owned o) is e (inl same) = subst (StandsIn files) same (owned_stands files are u stands k m o at is)
      lead_stands (Owned o) is e (inr none) = absurd none
      lead_stands (Alias r) is e h = target_there files table links (key f r) e h

      hit_stands : (h : Hit) → Shows (hit f k m w) (Finds h) → StandsIn files h.element
      hit_stands h s =
          let z = shows_map w (λ e. record { member = record { file = f; index = k }; element = e }) (leads_to f m.target) (Finds h) s in
          by z.0 z.1 z.2
        where
          by : (z : Part LinkKey LinkFact ElementNo) → Shows (leads_to f m.target w) z
              → Maps (λ e. record { member = record { file = f; index = k }; element = e }) z (Finds h) → StandsIn files h.element
          by (Finds e) s is = subst (StandsIn files) (ap (λ (x : Hit). x.element) is) (lead_stands m.target refl e s)
          by (Awaits q) s is = absurd is
          by (LooksAt l) s is = absurd is

      named_stands : (x : List ℕ) (t : Target) → m.target ≡ t → (h : Hit) → Shows (hit_named x f k t w) (Finds h) → StandsIn files h.element
      named_stands x (Owned e) is h s = elim (shows_then w (names (record { file = f; index = e }))
          (λ ns. done (only_if (is_named x ns) (record { member = record { file = f; index = k }; element = record { file = f; index = e } }))) (Finds h) s) [
            | inl aside ↦ absurd aside
            | inr ns ↦ by (is_named x ns.0) ns.2
          ]
        where
          by : (b : Bool) → IsMember (only_if b (record { member = record { file = f; index = k }; element = record { file = f; index = e } })) h
              → StandsIn files h.element
          by true (inl same) = subst (StandsIn files) (ap (λ (z : Hit). z.element) same) (owned_stands files are u stands k m e at is)
          by true (inr none) = absurd none
          by false none = absurd none
      named_stands x (Alias r) is h s = absurd s

      either_stands : (x : List ℕ) (h : Hit) → Shows (join (declared_hit x f k m) (effective_hit x f k m) w) (Finds h) → StandsIn files h.element
      either_stands x h s = elim (shows_join w (declared_hit x f k m) (effective_hit x f k m) (Finds h) s) [
        | inl one ↦ hit_stands h (shows_if w (bears x m) (hit f k m) (Finds h) one).1
        | inr two ↦ named_stands x m.target refl h
            (shows_if w (is_nil (declared_names m.short m.name)) (hit_named x f k m.target) (Finds h) two).1
      ]

    -- THE ELEMENT OF A CANDIDATE
    pub candidate_stands : (x : List ℕ) (t : ElementNo) (us : List ElementNo) → ((u : ElementNo) → IsMember us u → StandsIn files u) → (c : Candidate)
        → Has (candidates x t us w).step c → StandsIn files c.hit.element
    candidate_stands x t us stand c h =
        let j = shows_joined w (λ u. cond (same_element u t) (done []) (of_members (candidate x u) u)) us (Finds c) h in
        let u = j.0 in
        let s = shows_unless w (same_element u t) (of_members (candidate x u) u) (Finds c) j.2 in
        elim (shows_then w (model u.file) (λ d. joined (told_of d (candidate x u)) (members_of d u.index)) (Finds c) s.1) [
          | inl aside ↦ absurd aside
          | inr b ↦ in_model u (stand u j.1) (subst (λ (d : Data). Shows (joined (told_of d (candidate x u)) (members_of d u.index) w) (Finds c))
              (done_of b.0 (model_in (slice_get files u.file.0)) (model u.file w).step b.1 refl) b.2)
        ]
      where
        in_model : (u : ElementNo) → StandsIn files u
            → Shows (joined (told_of (model_in (slice_get files u.file.0)) (candidate x u)) (members_of (model_in (slice_get files u.file.0)) u.index) w)
            (Finds c) → StandsIn files c.hit.element
        in_model u stands h =
            let d = model_in (slice_get files u.file.0) in
            let j = shows_joined w (told_of d (candidate x u)) (members_of d u.index) (Finds c) h in
            let p = number_at 0 (λ n. nat_eq n.owner u.index) d.members j.0 j.1 in
            let at : slice_get d.members j.0 ≡ Some p.1 = subst (λ i. slice_get d.members i ≡ Some p.1) (omega (arith, p.2)) p.3 in
            let both = join (declared_hit x u.file j.0 p.1) (effective_hit x u.file j.0 p.1) in
            let open_one = shows_unless w (is_private p.1.visibility) (both >>= λ hs. done (map (λ h. record { owner = u; hit = h }) hs)) (Finds c)
            (subst (λ (o : Option Member). Shows (told o (candidate x u j.0) w) (Finds c)) at j.2) in
            let z = shows_map w (λ h. record { owner = u; hit = h }) both (Finds c) open_one.1 in
            by j.0 p.1 at z.0 z.1 z.2
          where
            by : (k : ℕ) (m : Member) → slice_get (model_in (slice_get files u.file.0)).members k ≡ Some m → (z : HitPart)
                → Shows (join (declared_hit x u.file k m) (effective_hit x u.file k m) w) z
                → Maps (λ h. record { owner = u; hit = h }) z (Finds c) → StandsIn files c.hit.element
            by k m at (Finds h) s is = subst (StandsIn files) (ap (λ (x : Candidate). x.hit.element) is) (either_stands u stands k m at x h s)
            by k m at (Awaits q) s is = absurd is
            by k m at (LooksAt l) s is = absurd is
