-- Stage three's facts as code asks them: the features that redefine, their direct redefinitions, and one search from all.
use Rattle.std.proofs.Common.{◌≡◌, ℕ, Bool, true, false, cond, List, [], ◌∷◌, ◌++◌, map, refl, sym, ◌∙◌, ap, subst, inl, inr}
use Rattle.std.specs.Prelude.{◌⊎◌, ◌&&◌, slice_get, Option, None, Some}
use Rattle.linker_base.specs.Members.{IsMember}
use Rattle.linker_base.proofs.Cases.{bool_cases}
use Rattle.linker_base.proofs.MemberLaws.{member_map}
use Rattle.demand_core.specs.Rules.{WaitsOn}
use Rattle.demand_core.specs.Computation.{Asked, done, ◌>>=◌, join, joined, IsSound}
use Rattle.demand_core.specs.Search.{Part, Finds, Awaits, LooksAt, Has, MayHave, Shows, Admits, Aside, IsAsked}
use Rattle.demand_core.specs.declared.step.Step.{Step}
use Rattle.demand_core.specs.declared.step.Step.TheVariants.{Done, Waits}
use Rattle.demand_core.proofs.ComputationLaws.{regular_joined}
use Rattle.demand_core.proofs.PartLaws.{shows_join, shows_joined, admits_left, admits_right, admits_joined}
use Rattle.element_store.specs.BaseRules.{StandsIn}
use Rattle.element_store.specs.Condition.{members_of}
use Rattle.element_store.specs.Model.{Data}
use Rattle.element_store.specs.Readings.{redefining_of}
use Rattle.element_store.specs.Stored.{AreFiles}
use Rattle.element_store.specs.declared.numbers.ElementNo.{ElementNo}
use Rattle.element_store.specs.declared.outcome.Outcome.{Outcome}
use Rattle.element_store.specs.declared.records.Member.{Member}
use Rattle.element_store.specs.declared.records.Target.{Target}
use Rattle.element_store.specs.declared.records.Target.TheVariants.{Owned, Alias}
use Rattle.element_store.specs.declared.models.StoredFile.{StoredFile}
use Rattle.link_model.specs.declared.keys.LinkKey.{LinkKey}
use Rattle.link_model.specs.declared.keys.LinkFact.{LinkFact}
use Rattle.link_model.specs.Keys.{same_element}
use Rattle.link_model.specs.Outside.{model_in, is_private}
use Rattle.link_model.specs.Readers.{Lookup, LinkWorld, told, model}
use Rattle.link_model.specs.Settled.{answers_of}
use Rattle.link_model.specs.Inheritance.{Redefines, all_redefined, redefines, redefined_by, redefiners}
use Rattle.link_model.proofs.TameLaws.{all_redefined_tame, redefiners_tame}
use Rattle.link_walk.specs.Calls.{reading, AreLinks, HasLinks}
use Rattle.link_walk.specs.Noted.{LinkTrail, Noted, noted}
use Rattle.inheritance.specs.Sights.{direct_targets}
use Rattle.feature_facts.specs.Stages.{told_of, feature_at, own_redefiner, owned_redefiner, redefiners_of, direct_by, directs_of, facts_asked}
use Rattle.feature_facts.specs.Known.{KnownBy, AreFacts, answered, HasAnswer, files_for, world_of}
use Rattle.feature_facts.specs.declared.heir.Heir.{Heir}
use Rattle.feature_facts.specs.declared.facts.Redefiner.{Redefiner}
use Rattle.feature_facts.specs.declared.facts.Direct.{Direct}
use Rattle.feature_facts.proofs.Asides.{nothing_aside, aside_joined, joined_aside, aside_join, left_aside, right_aside, aside_then, first_aside, aside_map, may_has}
use Rattle.feature_facts.proofs.PartNames.{Maps, member_back, shows_map, admits_map, shows_admits}
use Rattle.feature_facts.proofs.FactLaws.{Place, placed, listed_there, place_admits, shown_by, look_there, direct_way}
use Rattle.feature_facts.proofs.Noting.{joined_done, done_quiet, none_waits, answers_has, answers_in, IsNoted, noted_old, noted_now, noted_cases, notes_of, aside_noted, noted_aside, has_answer}
use Rattle.feature_facts.proofs.SearchParts.{found_has, has_found, quiet_done, redefined_admits}
use Rattle.feature_facts.proofs.OwnedStands.{owned_stands}

never : true ≡ false → ⊥
never h = cc

module _ (files : List StoredFile) (table : List (LinkKey × Outcome)) (links : AreLinks files table) (are : AreFiles files) (raw : Bool) (t : ElementNo)
    (us : List ElementNo) (stand : (u : ElementNo) → IsMember (t ∷ us) u → StandsIn files u) where
  abbrev w : LinkWorld
  w = reading files table

  abbrev types : List ElementNo
  types = t ∷ us

  abbrev listing : Lookup (List Redefiner)
  listing = joined (redefiners_of raw t) types

  abbrev whole : Lookup (List Redefines)
  whole = joined (redefiners raw t) types

  abbrev here_at : ElementNo → Data
  here_at u = model_in (slice_get files u.file.0)

  abbrev members_told : ElementNo → Data → Lookup (List Redefines)
  members_told u d = joined (λ k. told (slice_get d.members k) (λ m. redefined_by u (is_private m.visibility) m.target)) (members_of d u.index)

  abbrev in_table : ElementNo → Data → Lookup (List Redefiner)
  in_table u d = joined (told_of d (own_redefiner u)) (redefining_of d u.index)

  -- the features are told without a wait
  own_done : (u : ElementNo) (o : Option Member) (k : ℕ) → (ys : List Redefiner) × ((told o (own_redefiner u k) w).step ≡ Done ys)
  own_done u None k = ([], refl)
  own_done u (Some m) k = by m.target
    where
      by : (g : Target) → (ys : List Redefiner) × ((owned_redefiner u (is_private m.visibility) g w).step ≡ Done ys)
      by (Owned e) = (record { owner = u; feature = feature_at u e; hidden = is_private m.visibility } ∷ [], refl)
      by (Alias r) = ([], refl)

  type_done : (u : ElementNo) → (ys : List Redefiner) × ((redefiners_of raw t u w).step ≡ Done ys)
  type_done u = by (raw && same_element u t)
    where
      inside : (ys : List Redefiner) × ((joined (told_of (here_at u) (own_redefiner u)) (redefining_of (here_at u) u.index) w).step ≡ Done ys)
      inside = joined_done w (told_of (here_at u) (own_redefiner u)) (λ k. own_done u (slice_get (here_at u).members k) k) (redefining_of (here_at u) u.index)

      by : (b : Bool) → (ys : List Redefiner)
          × ((cond b (done []) (model u.file >>= in_table u) w).step ≡ Done ys)
      by true = ([], refl)
      by false = inside

  listing_done : (ys : List Redefiner) × ((listing w).step ≡ Done ys)
  listing_done = joined_done w (redefiners_of raw t) type_done types

  module _ (gr : LinkTrail Redefiner) (hr : IsAsked gr (listing w)) where
    listed_quiet : gr.waits ≡ []
    listed_quiet = done_quiet gr (listing w) listing_done.0 hr listing_done.1

    -- a listed feature: its type, and its place there
    pub place_of : (q : Redefiner) → IsMember gr.found q → (u : ElementNo) × IsMember types u × ((raw && same_element u t) ≡ false)
        × Place files table links are u q
    place_of q m =
        let j = shows_joined w (redefiners_of raw t) types (Finds q) (found_has gr (listing w) hr listed_quiet q m) in
        let p = placed files table links are raw t j.0 q j.2 in
        (j.0, j.1, p.0, p.1)

    pub listed : (u : ElementNo) (q : Redefiner) → IsMember types u → (raw && same_element u t) ≡ false → Place files table links are u q
        → IsMember gr.found q
    listed u q m off p =
        has_found gr (listing w) hr q (may_has (listing w).step listing_done.0 q listing_done.1
        (admits_joined w (redefiners_of raw t) types u (Finds q) m (listed_there files table links are raw t u q off p)))

    -- it stands
    pub listed_stands : (q : Redefiner) → IsMember gr.found q → StandsIn files q.feature
    listed_stands q m =
        let p = place_of q m in
        subst (λ (z : Redefiner). StandsIn files z.feature) (sym p.3.is)
        (owned_stands files are p.0 (stand p.0 p.1) p.3.number p.3.member p.3.owned p.3.at p.3.leads)

  module _ (gr : LinkTrail Redefiner) (gd : LinkTrail Direct) (ga : LinkTrail ElementNo) (hr : IsAsked gr (listing w)) (hd : IsAsked gd
      (joined directs_of gr.found w)) (ha : IsAsked ga (joined all_redefined (map (λ (q : Redefiner). q.feature) gr.found) w)) where
    abbrev features : List ElementNo
    features = map (λ (q : Redefiner). q.feature) gr.found

    -- the notes of all three
    abbrev pub three : Noted
    three = noted ga.waits ga.looks (noted gd.waits gd.looks (notes_of gr))

    abbrev near : Redefiner → Lookup (List Redefines)
    near q = direct_targets q.feature >>= λ gs. done (map (redefines q.owner q.feature q.hidden true) gs)

    abbrev far : Redefiner → Lookup (List Redefines)
    far q = all_redefined q.feature >>= λ gs. done (map (redefines q.owner q.feature q.hidden false) gs)

    -- what is asked of a listed feature is asked
    asked_there : (q : Redefiner) (x : Part LinkKey LinkFact Redefines) → IsMember gr.found q → Admits (join (near q) (far q) w) x → Admits (whole w) x
    asked_there q x m h =
        let p = place_of gr hr q m in
        admits_joined w (redefiners raw t) types p.0 x p.1
        (place_admits files table links are raw t p.0 q (stand p.0 p.1) p.2 p.3 x
        (subst (λ (z : Redefiner). Admits (join (near z) (far z) w) x) p.3.is h))

    abbrev RedefinesPart : Type 0
    RedefinesPart = Part LinkKey LinkFact Redefines

    -- WAITS AND LOOKS
    listing_aside : (x : RedefinesPart) → Aside (listing w) x → Aside (whole w) x
    listing_aside x h =
        let j = aside_joined w (redefiners_of raw t) types x h in
        joined_aside w (redefiners raw t) types j.0 x j.1 (by j.0 (raw && same_element j.0 t) j.2)
      where
        look_alone : (u : ElementNo) → Aside ((model u.file >>= in_table u) w) x
            → Aside (model u.file w) x
        look_alone u h = elim (aside_then w (model u.file) (in_table u) x h) [
          | inl a ↦ a
          | inr b ↦ let j = aside_joined w (told_of b.0 (own_redefiner u)) (redefining_of b.0 u.index) x b.2 in
              absurd (no_look u (slice_get b.0.members j.0) j.0 j.2)
        ]
          where
            no_look : (u : ElementNo) (o : Option Member) (k : ℕ) → Aside (told o (own_redefiner u k) w) x → ⊥
            no_look u None k h = nothing_aside w {C = List Redefiner} [] x h
            no_look u (Some m) k h = by m.target h
              where
                by : (g : Target) → Aside (owned_redefiner u (is_private m.visibility) g w) x → ⊥
                by (Owned e) h = nothing_aside w {C = List Redefiner}
                    (record { owner = u; feature = feature_at u e; hidden = is_private m.visibility } ∷ []) x h
                by (Alias r) h = nothing_aside w {C = List Redefiner} [] x h

        by : (u : ElementNo) (b : Bool)
            → Aside (cond b (done []) (model u.file >>= in_table u) w) x
            → Aside (cond b (done []) (model u.file >>= members_told u) w) x
        by u true h = absurd (nothing_aside w {C = List Redefiner} [] x h)
        by u false h = first_aside w (model u.file) (members_told u) x (look_alone u h)

    asked_aside : (q : Redefiner) (x : RedefinesPart) → IsMember gr.found q → Aside (join (near q) (far q) w) x → Aside (whole w) x
    asked_aside q (Finds y) m h = absurd h
    asked_aside q (Awaits k) m h = asked_there q (Awaits k) m h
    asked_aside q (LooksAt g) m h = asked_there q (LooksAt g) m h

    direct_aside : (x : RedefinesPart) → Aside (joined directs_of gr.found w) x → Aside (whole w) x
    direct_aside x h =
        let j = aside_joined w directs_of gr.found x h in
        asked_aside j.0 x j.1 (left_aside w (near j.0) (far j.0) x
        (first_aside w (direct_targets j.0.feature) (λ gs. done (map (redefines j.0.owner j.0.feature j.0.hidden true) gs)) x
        (aside_map w (direct_targets j.0.feature) (direct_by j.0) x j.2)))

    far_aside : (x : RedefinesPart) → Aside (joined all_redefined features w) x → Aside (whole w) x
    far_aside x h =
        let j = aside_joined w all_redefined features x h in
        let q = member_back (λ (q : Redefiner). q.feature) gr.found j.0 j.1 in
        asked_aside q.0 x q.1 (right_aside w (near q.0) (far q.0) x
        (first_aside w (all_redefined q.0.feature) (λ gs. done (map (redefines q.0.owner q.0.feature q.0.hidden false) gs)) x
        (subst (λ f. Aside (all_redefined f w) x) (sym q.2) j.2)))

    -- what the definition shows: a look at a type's file, or what is asked of a listed feature
    shown_as : (x : RedefinesPart) → Shows (whole w) x
        → Aside (listing w) x ⊎ ((q : Redefiner) × IsMember gr.found q × Shows (join (near q) (far q) w) x)
    shown_as x h =
        let j = shows_joined w (redefiners raw t) types x h in
        let s = shown_by files table links are raw t j.0 x j.2 in
        elim s.1 [
          | inl look ↦ inl (joined_aside w (redefiners_of raw t) types j.0 x j.1 (subst (λ b. Aside (cond b (done []) (model j.0.file >>= in_table j.0) w) x)
              (sym s.0) (first_aside w (model j.0.file) (in_table j.0) x (look_there files table links are j.0 x look))))
          | inr p ↦ inr (
            p.0,
            listed gr hr j.0 p.0 j.1 s.0 p.1,
            subst (λ (z : Redefiner). Shows (join (near z) (far z) w) x) (sym p.1.is) p.2,
          )
        ]

    aside_as : (x : RedefinesPart) → Aside (whole w) x → Aside (listing w) x ⊎ ((q : Redefiner) × IsMember gr.found q × Aside (join (near q) (far q) w) x)
    aside_as (Finds y) h = absurd h
    aside_as (Awaits k) h = shown_as (Awaits k) h
    aside_as (LooksAt g) h = shown_as (LooksAt g) h

    all_noted : (x : RedefinesPart) → Aside (whole w) x → IsNoted three x
    all_noted x h = elim (aside_as x h) [
      | inl own ↦ noted_old (noted gd.waits gd.looks (notes_of gr)) (notes_of ga) x
          (noted_old (notes_of gr) (notes_of gd) x (aside_noted gr (listing w) x hr own))
      | inr q ↦ elim (aside_join w (near q.0) (far q.0) x q.2) [
        | inl one ↦ noted_old (noted gd.waits gd.looks (notes_of gr)) (notes_of ga) x (noted_now (notes_of gr) (notes_of gd) x
            (aside_noted gd (joined directs_of gr.found w) x hd (joined_aside w directs_of gr.found q.0 x q.1
            (first_aside w (direct_targets q.0.feature) (λ gs. done (map (direct_by q.0) gs)) x
            (aside_map w (direct_targets q.0.feature) (redefines q.0.owner q.0.feature q.0.hidden true) x one)))))
        | inr two ↦ noted_now (noted gd.waits gd.looks (notes_of gr)) (notes_of ga) x
            (aside_noted ga (joined all_redefined features w) x ha (joined_aside w all_redefined features q.0.feature x
            (member_map (λ (z : Redefiner). z.feature) gr.found q.0 q.1)
            (aside_map w (all_redefined q.0.feature) (redefines q.0.owner q.0.feature q.0.hidden false) x two)))
      ]
    ]

    none_more : (x : RedefinesPart) → IsNoted three x → Aside (whole w) x
    none_more x h = elim (noted_cases (noted gd.waits gd.looks (notes_of gr)) (notes_of ga) x h) [
      | inl old ↦ elim (noted_cases (notes_of gr) (notes_of gd) x old) [
        | inl first ↦ listing_aside x (noted_aside gr (listing w) x hr first)
        | inr second ↦ direct_aside x (noted_aside gd (joined directs_of gr.found w) x hd second)
      ]
      | inr last ↦ far_aside x (noted_aside ga (joined all_redefined features w) x ha last)
    ]

    -- THE NOTES ARE THOSE OF THE DEFINITION
    pub facts_noted : HasAnswer (facts_asked raw t us) w three
    unfolding facts_asked
    facts_noted = has_answer w whole three (regular_joined (redefiners raw t) (λ u. (redefiners_tame raw t u).regular) types) all_noted none_more

    -- WHAT IS KNOWN where none of it waits
    module _ (quiet : three.waits ≡ []) where
      directs_quiet : gd.waits ≡ []
      directs_quiet = none_waits gd.waits (λ k m. subst (λ z. IsMember z k) quiet
          (noted_old {B = Redefines} (noted gd.waits gd.looks (notes_of gr)) (notes_of ga)
          (Awaits k) (noted_now {B = Redefines} (notes_of gr) (notes_of gd) (Awaits k) m)))

      far_quiet : ga.waits ≡ []
      far_quiet = none_waits ga.waits (λ k m. subst (λ z. IsMember z k) quiet (noted_now {B = Redefines} (noted gd.waits gd.looks (notes_of gr)) (notes_of ga)
          (Awaits k) m))

      abbrev rs : List Redefines
      rs = answers_of (facts_asked raw t us w).step

      whole_done : (ys : List Redefines) × ((facts_asked raw t us w).step ≡ Done ys)
      whole_done = quiet_done (answered (facts_asked raw t us) w three) (facts_asked raw t us w) facts_noted quiet

      -- a redefinition that is asked of a listed feature is in the definition's list
      in_list : (q : Redefiner) (r : Redefines) → IsMember gr.found q → Admits (join (near q) (far q) w) (Finds r) → IsMember rs r
      unfolding facts_asked
      in_list q r m h = answers_has (whole w).step whole_done.0 r whole_done.1 (asked_there q (Finds r) m h)

      -- and the other way round
      from_list : (r : Redefines) → IsMember rs r → (q : Redefiner) × IsMember gr.found q × Shows (join (near q) (far q) w) (Finds r)
      unfolding facts_asked
      from_list r m = elim (shown_as (Finds r) (answers_in (whole w).step r m)) [ inl aside ↦ absurd aside | inr q ↦ q ]

      directs_done : (ys : List Direct) × ((joined directs_of gr.found w).step ≡ Done ys)
      directs_done = quiet_done gd (joined directs_of gr.found w) hd directs_quiet

      -- a found direct redefinition: by a listed feature
      direct_by_listed : (d : Direct) → IsMember gd.found d → (q : Redefiner) × (g : ElementNo) × IsMember gr.found q
          × Has (direct_targets q.feature w).step g × (direct_by q g ≡ d)
      direct_by_listed d m =
          let j = shows_joined w directs_of gr.found (Finds d) (found_has gd (joined directs_of gr.found w) hd directs_quiet d m) in
          let z = shows_map w (direct_by j.0) (direct_targets j.0.feature) (Finds d) j.2 in
          by j.0 j.1 z.0 z.1 z.2
        where
          by : (q : Redefiner) → IsMember gr.found q → (z : Part LinkKey LinkFact ElementNo) → Shows (direct_targets q.feature w) z
              → Maps (direct_by q) z (Finds d) → (q : Redefiner) × (g : ElementNo) × IsMember gr.found q
              × Has (direct_targets q.feature w).step g × (direct_by q g ≡ d)
          by q m (Finds g) s e = (q, g, m, s, e)
          by q m (Awaits k) s e = absurd e
          by q m (LooksAt l) s e = absurd e

      known_direct_in : (d : Direct) → IsMember gd.found d → (r : Redefines) × IsMember rs r × (r.direct ≡ true)
          × (r.owner ≡ d.by.owner) × (r.redefined ≡ d.redefined)
      known_direct_in d m =
          let b = direct_by_listed d m in
          let r = redefines b.0.owner b.0.feature b.0.hidden true b.1 in (
            r,
            in_list b.0 r b.2 (admits_left w (near b.0) (far b.0) (Finds r)
                (admits_map w (redefines b.0.owner b.0.feature b.0.hidden true) (direct_targets b.0.feature) (Finds b.1) (Finds r) refl
                (shows_admits (direct_targets b.0.feature w) (Finds b.1) b.3))),
            refl,
            ap (λ (z : Direct). z.by.owner) b.4,
            ap (λ (z : Direct). z.redefined) b.4,
          )

      is_near : (q : Redefiner) (r : Redefines) → r.direct ≡ true → Shows (join (near q) (far q) w) (Finds r)
          → (g : ElementNo) × Has (direct_targets q.feature w).step g × (redefines q.owner q.feature q.hidden true g ≡ r)
      is_near q r direct h = elim (shows_join w (near q) (far q) (Finds r) h) [
        | inl one ↦
            let z = shows_map w (redefines q.owner q.feature q.hidden true) (direct_targets q.feature) (Finds r) one in
            by z.0 z.1 z.2
        | inr two ↦
            let z = shows_map w (redefines q.owner q.feature q.hidden false) (all_redefined q.feature) (Finds r) two in
            absurd (no z.0 z.2)
      ]
        where
          by : (z : Part LinkKey LinkFact ElementNo) → Shows (direct_targets q.feature w) z
              → Maps (redefines q.owner q.feature q.hidden true) z (Finds r)
              → (g : ElementNo) × Has (direct_targets q.feature w).step g × (redefines q.owner q.feature q.hidden true g ≡ r)
          by (Finds g) s e = (g, s, e)
          by (Awaits k) s e = absurd e
          by (LooksAt l) s e = absurd e

          no : (z : Part LinkKey LinkFact ElementNo) → Maps (redefines q.owner q.feature q.hidden false) z (Finds r) → ⊥
          no (Finds g) e = never (sym (ap (λ (x : Redefines). x.direct) e ∙ direct))
          no (Awaits k) e = e
          no (LooksAt l) e = e

      is_far : (q : Redefiner) (r : Redefines) → r.direct ≡ false → Shows (join (near q) (far q) w) (Finds r)
          → (g : ElementNo) × Has (all_redefined q.feature w).step g × (redefines q.owner q.feature q.hidden false g ≡ r)
      is_far q r direct h = elim (shows_join w (near q) (far q) (Finds r) h) [
        | inl one ↦
            let z = shows_map w (redefines q.owner q.feature q.hidden true) (direct_targets q.feature) (Finds r) one in
            absurd (no z.0 z.2)
        | inr two ↦
            let z = shows_map w (redefines q.owner q.feature q.hidden false) (all_redefined q.feature) (Finds r) two in
            by z.0 z.1 z.2
      ]
        where
          by : (z : Part LinkKey LinkFact ElementNo) → Shows (all_redefined q.feature w) z
              → Maps (redefines q.owner q.feature q.hidden false) z (Finds r)
              → (g : ElementNo) × Has (all_redefined q.feature w).step g × (redefines q.owner q.feature q.hidden false g ≡ r)
          by (Finds g) s e = (g, s, e)
          by (Awaits k) s e = absurd e
          by (LooksAt l) s e = absurd e

          no : (z : Part LinkKey LinkFact ElementNo) → Maps (redefines q.owner q.feature q.hidden true) z (Finds r) → ⊥
          no (Finds g) e = never (ap (λ (x : Redefines). x.direct) e ∙ direct)
          no (Awaits k) e = e
          no (LooksAt l) e = e

      known_direct_out : (r : Redefines) → IsMember rs r → r.direct ≡ true → (d : Direct) × IsMember gd.found d
          × (r.owner ≡ d.by.owner) × (r.redefined ≡ d.redefined)
      known_direct_out r m direct =
          let q = from_list r m in
          let g = is_near q.0 r direct q.2 in
          let d = direct_by q.0 g.0 in (
            d,
            has_found gd (joined directs_of gr.found w) hd d (may_has (joined directs_of gr.found w).step directs_done.0 d directs_done.1
                (admits_joined w directs_of gr.found q.0 (Finds d) q.1 (admits_map w (direct_by q.0) (direct_targets q.0.feature) (Finds g.0) (Finds d) refl
                (shows_admits (direct_targets q.0.feature w) (Finds g.0) g.1)))),
            sym (ap (λ (x : Redefines). x.owner) g.2),
            sym (ap (λ (x : Redefines). x.redefined) g.2),
          )

      known_far_in : (q : Redefiner) (g : ElementNo) → IsMember gr.found q → Has (all_redefined q.feature w).step g
          → (r : Redefines) × IsMember rs r × (r.direct ≡ false) × (r.owner ≡ q.owner) × (r.feature ≡ q.feature)
          × (r.hidden ≡ q.hidden) × (r.redefined ≡ g)
      known_far_in q g m h =
          let r = redefines q.owner q.feature q.hidden false g in (
            r,
            in_list q r m (admits_right w (near q) (far q) (Finds r)
                (admits_map w (redefines q.owner q.feature q.hidden false) (all_redefined q.feature) (Finds g) (Finds r) refl
                (shows_admits (all_redefined q.feature w) (Finds g) h))),
            refl,
            refl,
            refl,
            refl,
            refl,
          )

      known_far_out : (r : Redefines) → IsMember rs r → r.direct ≡ false → (q : Redefiner) × IsMember gr.found q
          × (r.owner ≡ q.owner) × (r.feature ≡ q.feature) × (r.hidden ≡ q.hidden) × Has (all_redefined q.feature w).step r.redefined
      known_far_out r m direct =
          let q = from_list r m in
          let g = is_far q.0 r direct q.2 in (
            q.0,
            q.1,
            sym (ap (λ (x : Redefines). x.owner) g.2),
            sym (ap (λ (x : Redefines). x.feature) g.2),
            sym (ap (λ (x : Redefines). x.hidden) g.2),
            subst (Has (all_redefined q.0.feature w).step) (ap (λ (x : Redefines). x.redefined) g.2) g.1,
          )

      known_quiet : (q : Redefiner) (k : LinkKey) → IsMember gr.found q → WaitsOn (all_redefined q.feature w).step k → ⊥
      known_quiet q k m h = subst (λ z. IsMember z k) far_quiet (aside_noted {B = Redefines} ga (joined all_redefined features w) (Awaits k) ha
          (joined_aside {B = Redefines} w all_redefined features q.feature (Awaits k) (member_map (λ (z : Redefiner). z.feature) gr.found q m) h))

      known_sure : (stands : (q : Redefiner) → IsMember gr.found q → StandsIn files q.feature) → (d : Direct) → IsMember gd.found d
          → IsMember gr.found d.by × Has (all_redefined d.by.feature w).step d.redefined
      known_sure stands d m =
          let b = direct_by_listed d m in
          subst (λ (z : Direct). IsMember gr.found z.by × Has (all_redefined z.by.feature w).step z.redefined) b.4 (
            b.2,
            far_has b.0 b.1 b.2 (redefined_admits files table links are b.0.feature (Finds b.1) (stands b.0 b.2)
                (direct_way files table links are b.0.feature b.1 b.3)),
          )
        where
          far_has : (q : Redefiner) (g : ElementNo) → IsMember gr.found q → Admits (all_redefined q.feature w) (Finds g)
              → Has (all_redefined q.feature w).step g
          far_has q g m h = by (all_redefined q.feature w).step ((all_redefined_tame q.feature).regular.sound w) (known_quiet q) h
            where
              by : (step : Step LinkKey (List ElementNo)) → IsSound w.table step (all_redefined q.feature w).looks
                  → ((k : LinkKey) → IsMember gr.found q → WaitsOn step k → ⊥) → MayHave step g → Has step g
              by (Done ys) s none h = h
              by (Waits []) s none h = absurd (s.0 refl)
              by (Waits (k ∷ ks)) s none h = absurd (none k m (inl refl))

      pub known_by : KnownBy w rs (record { redefiners = gr.found; directs = gd.found; notes = three })
      known_by = record {
        direct_in = known_direct_in;
        direct_out = known_direct_out;
        far_in = known_far_in;
        far_out = known_far_out;
        sure = known_sure (listed_stands gr hr);
        quiet = known_quiet;
      }

-- the features themselves stand
pub features_stand : (files : List StoredFile) (table : List (LinkKey × Outcome)) (links : AreLinks files table) (are : AreFiles files) (raw : Bool)
    (t : ElementNo) (us : List ElementNo) (stand : (u : ElementNo) → IsMember (t ∷ us) u → StandsIn files u) (gr : LinkTrail Redefiner)
    → IsAsked gr (joined (redefiners_of raw t) (t ∷ us) (reading files table)) → (e : ElementNo) → IsMember (map (λ (q : Redefiner). q.feature) gr.found) e
    → StandsIn files e
features_stand files table links are raw t us stand gr hr e m =
    let q = member_back (λ (q : Redefiner). q.feature) gr.found e m in
    subst (StandsIn files) q.2 (listed_stands files table links are raw t us stand gr hr q.0 q.1)

-- THE FACTS, from what code asked
pub facts_are : (h : Heir) (us : List ElementNo) (links : HasLinks h.view.now) (are : AreFiles (files_for h))
    (stand : (u : ElementNo) → IsMember (h.of ∷ us) u → StandsIn (files_for h) u) (gr : LinkTrail Redefiner) (gd : LinkTrail Direct)
    (ga : LinkTrail ElementNo) → IsAsked gr (joined (redefiners_of h.raw h.of) (h.of ∷ us) (world_of h)) → IsAsked gd (joined directs_of gr.found (world_of h))
    → IsAsked ga (joined all_redefined (map (λ (q : Redefiner). q.feature) gr.found) (world_of h)) → (n : Noted)
    → n ≡ noted ga.waits ga.looks (noted gd.waits gd.looks (notes_of gr))
    → AreFacts h us (record { redefiners = gr.found; directs = gd.found; notes = n })
facts_are h us links are stand gr gd ga hr hd ha n is =
    let files = files_for h in
    let table = h.view.now.table.now in
    subst (λ z. AreFacts h us (record { redefiners = gr.found; directs = gd.found; notes = z })) (sym is) (record {
      asked = facts_noted files table links are h.raw h.of us stand gr gd ga hr hd ha;
      stand = listed_stands files table links are h.raw h.of us stand gr hr;
      known = λ quiet. known_by files table links are h.raw h.of us stand gr gd ga hr hd ha quiet;
    })
