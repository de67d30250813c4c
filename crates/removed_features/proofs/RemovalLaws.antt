-- What the candidates' elements redefine: asked by one search, and of one element.
use Rattle.std.proofs.Common.{◌≡◌, ℕ, Bool, true, false, cond, List, [], ◌∷◌, ◌++◌, map, get_or, length, refl, sym, ◌∙◌, ap, subst, inl, inr, append-nil}
use Rattle.std.specs.Prelude.{◌⊎◌, ◌&&◌, ◌||◌, not, nat_lt, slice_get, Option, None, Some}
use Rattle.std.specs.List.{list_any}
use Rattle.linker_base.specs.Members.{IsMember}
use Rattle.linker_base.proofs.Cases.{bool_cases, both_true, and_true}
use Rattle.linker_base.proofs.MemberLaws.{member_map, member_left}
use Rattle.demand_core.specs.Rules.{WaitsOn}
use Rattle.demand_core.specs.Computation.{Asked, done, then_step, ◌>>=◌, joined, read, IsSound, IsRegular}
use Rattle.demand_core.specs.Gather.{Led}
use Rattle.demand_core.specs.Search.{Part, Finds, Awaits, LooksAt, Has, MayHave, Shows, Admits, Aside, LedHas, IsAsked, Own, Onward}
use Rattle.demand_core.specs.declared.looks.Fact.{Fact}
use Rattle.demand_core.specs.declared.looks.Fact.TheVariants.{Outer}
use Rattle.demand_core.specs.declared.step.Step.{Step}
use Rattle.demand_core.specs.declared.step.Step.TheVariants.{Done, Waits}
use Rattle.demand_core.proofs.ComputationLaws.{regular_done, regular_then, regular_joined}
use Rattle.demand_core.proofs.LoopLaws.{join_last}
use Rattle.demand_core.proofs.PartLaws.{shows_nothing, shows_joined, shows_then, admits_joined, admits_then}
use Rattle.element_store.specs.BaseRules.{StandsIn}
use Rattle.element_store.specs.Kinds.{is_feature}
use Rattle.element_store.specs.Numbers.{chosen}
use Rattle.element_store.specs.Model.{Data, root_element}
use Rattle.element_store.specs.Stored.{AreFiles}
use Rattle.element_store.specs.declared.numbers.ElementNo.{ElementNo}
use Rattle.element_store.specs.declared.outcome.Outcome.{Outcome}
use Rattle.element_store.specs.declared.outcome.Outcome.TheVariants.{Linked, Absent, Ambiguous, Hidden, Cyclic}
use Rattle.element_store.specs.declared.records.Element.{Element}
use Rattle.element_store.specs.declared.models.StoredFile.{StoredFile}
use Rattle.link_model.specs.declared.keys.LinkKey.{LinkKey}
use Rattle.link_model.specs.declared.keys.LinkFact.{LinkFact}
use Rattle.link_model.specs.declared.keys.LinkFact.TheVariants.{File}
use Rattle.link_model.specs.Keys.{same_element, is_in}
use Rattle.link_model.specs.Names.{redefinitions}
use Rattle.link_model.specs.Outside.{model_in}
use Rattle.link_model.specs.Readers.{Lookup, LinkWorld, only_if, model, element, led_to, target}
use Rattle.link_model.specs.Settled.{answers_of}
use Rattle.link_model.specs.Inheritance as inheritance
use Rattle.link_model.specs.Inheritance.{Removal, all_redefined, removals, is_owned_by, is_removed_with}
use Rattle.link_model.proofs.TameLaws.{element_tame, all_redefined_tame, removals_tame}
use Rattle.link_walk.specs.Calls.{reading, AreLinks, HasLinks, ends}
use Rattle.link_walk.specs.Noted.{LinkTrail, Noted, noted}
use Rattle.feature_facts.specs.Stages.{as_candidate}
use Rattle.removed_features.specs.Stages.{gone, removing_of, given_gone, features_among}
use Rattle.feature_facts.specs.Known.{HasAnswer, files_for, world_of}
use Rattle.removed_features.specs.Known.{AreRemoved, is_own_in}
use Rattle.feature_facts.specs.declared.heir.Heir.{Heir}
use Rattle.feature_facts.specs.declared.heir.Candidate.{Candidate}
use Rattle.feature_facts.proofs.Asides.{nothing_aside, aside_joined, joined_aside, aside_then, first_aside, second_aside, done_of}
use Rattle.feature_facts.proofs.PartNames.{member_back, shows_admits}
use Rattle.feature_facts.proofs.FactLaws.{IsLook, element_look}
use Rattle.feature_facts.proofs.Noting.{joined_done, done_quiet, IsNoted, noted_old, noted_now, noted_cases, notes_of, aside_noted, noted_aside, has_answer}
use Rattle.feature_facts.proofs.SearchParts.{Way, found_has, has_found, redefined_way, redefined_admits, redefined_stands}
use Rattle.feature_facts.proofs.Tests.{bool_by, one_moved, or_cases, or_left, or_right, any_member, member_any, in_member, member_in, same_is, is_same, where_member, member_where}

never : true ≡ false → ⊥
never h = cc

-- a look at the file of an element
abbrev a_look : ElementNo → Fact LinkKey LinkFact
a_look z = Outer (File z.file)

-- an element, and one that it redefines
abbrev pair : ElementNo → ElementNo → Removal
pair a g = record { of = a; redefined = g }

-- the element as it is read
abbrev pub at_read : Heir → ElementNo → Element
at_read h e = get_or (model_in (slice_get (files_for h) e.file.0)).elements e.index root_element

module _ (files : List StoredFile) (table : List (LinkKey × Outcome)) (links : AreLinks files table) (are : AreFiles files) where
  abbrev w : LinkWorld
  w = reading files table

  abbrev ElementPart : Type 0
  ElementPart = Part LinkKey LinkFact ElementNo

  abbrev file_of : ElementNo → ElementPart
  file_of g = LooksAt (Outer (File g.file))

  -- where a reference leads its file was looked at
  led_look : (o : Outcome) (g : ElementNo) → Has (led_to o w).step g → Aside (led_to o w) (file_of g)
  led_look (Linked steps e) g (inl is) = inl (ap a_look is)
  led_look (Linked steps e) g (inr none) = absurd none
  led_look (Absent n) g h = absurd h
  led_look (Ambiguous n a b) g h = absurd h
  led_look (Hidden n a) g h = absurd h
  led_look (Cyclic on) g h = absurd h

  target_look : (r : LinkKey) (g : ElementNo) → Has (target r w).step g → Aside (target r w) (file_of g)
  target_look r g h = elim (shows_then w (model r.0.file) (λ d. cond (nat_lt r.0.index (length d.references)) (read r >>= led_to) (done [])) (Finds g) h) [
    | inl aside ↦ absurd aside
    | inr d ↦ second_aside w (model r.0.file) (λ d. cond (nat_lt r.0.index (length d.references)) (read r >>= led_to) (done [])) d.0 (file_of g) d.1
        (by (nat_lt r.0.index (length d.0.references)) d.2)
  ]
    where
      by : (b : Bool) → Shows (cond b (read r >>= led_to) (done []) w) (Finds g) → Aside (cond b (read r >>= led_to) (done []) w) (file_of g)
      by true h = elim (shows_then w (read r) led_to (Finds g) h) [
        | inl aside ↦ absurd aside
        | inr o ↦ second_aside w (read r) led_to o.0 (file_of g) o.1 (led_look o.0 g o.2)
      ]
      by false h = absurd (shows_nothing w (Finds g) h)

  led_target : (l : LinkKey) (g : ElementNo) → LedHas (ends target l w).step g → Has (target l w).step g
  led_target l g h = by (target l w) (target l w).step h
    where
      by : (a : Asked LinkKey LinkFact (List ElementNo)) (step : Step LinkKey (List ElementNo))
          → LedHas (then_step {B = Led ElementNo ElementNo} a (λ ts. done (record { found = ts; onward = ts }) w) step).step g → Has step g
      by a (Done ts) h = h
      by a (Waits ks) h = absurd h

  ends_look : (l : LinkKey) (g : Fact LinkKey LinkFact) → IsMember (target l w).looks g → IsMember (ends target l w).looks g
  ends_look l g h = by (target l w) (target l w).step h
    where
      by : (a : Asked LinkKey LinkFact (List ElementNo)) (step : Step LinkKey (List ElementNo)) → IsMember a.looks g
          → IsMember (then_step {B = Led ElementNo ElementNo} a (λ ts. done (record { found = ts; onward = ts }) w) step).looks g
      by a (Done ts) h = member_left a.looks [] g h
      by a (Waits ks) h = h

  -- on a way to an element its file was looked at
  way_look : (a g : ElementNo) → Way redefinitions target w a (Finds g) → Way redefinitions target w a (file_of g)
  way_look a g (Own (inl aside)) = absurd aside
  way_look a g (Own (inr o)) = Own (inr (o.0, o.1, ends_look o.0 (Outer (File g.file)) (target_look o.0 g (led_target o.0 g o.2))))
  way_look a g (Onward {t = b} go off rest) = Onward go off (way_look b g rest)

  redefined_look : (e g : ElementNo) → StandsIn files e → Has (all_redefined e w).step g → IsMember (all_redefined e w).looks (Outer (File g.file))
  redefined_look e g stands h = redefined_admits files table links are e (file_of g) stands (way_look e g (redefined_way files table links are e (Finds g) h))

  module _ (raw : Bool) (t : ElementNo) where
    abbrev at_element : ElementNo → Element
    at_element e = get_or (model_in (slice_get files e.file.0)).elements e.index root_element

    -- the element is the type's own, and is taken to redefine nothing
    abbrev is_own : ElementNo → Bool
    is_own e = raw && is_owned_by t e (at_element e).owner

    abbrev removal_of : ElementNo → ElementNo → Lookup (List Removal)
    removal_of e g = element g >>= λ y. done (only_if (is_feature y.kind) (record { of = e; redefined = g }))

    abbrev after_read : ElementNo → Element → Lookup (List Removal)
    after_read e x = cond (raw && is_owned_by t e x.owner) (done []) (all_redefined e >>= joined (removal_of e))

    removing_has : (e a : ElementNo) → Has (removing_of raw t e w).step a → (is_own e ≡ false) × (e ≡ a)
    removing_has e a h = by (is_own e) h
      where
        by : (b : Bool) → IsMember (only_if (not b) e) a → (b ≡ false) × (e ≡ a)
        by true m = absurd m
        by false (inl is) = (refl, is)
        by false (inr none) = absurd none

    has_removing : (e : ElementNo) → is_own e ≡ false → Has (removing_of raw t e w).step e
    has_removing e off = subst (λ b. IsMember (only_if (not b) e) e) (sym off) (inl refl)

    removing_done : (e : ElementNo) → (ys : List ElementNo) × ((removing_of raw t e w).step ≡ Done ys)
    removing_done e = (only_if (not (is_own e)) e, refl)

    module _ (cs : List Candidate) where
      abbrev given : List inheritance.Candidate
      given = map as_candidate cs

      abbrev whole : Lookup (List Removal)
      whole = joined (removals raw t) given

      abbrev listing : Lookup (List ElementNo)
      listing = joined (given_gone raw t) cs

      listing_done : (ys : List ElementNo) × ((listing w).step ≡ Done ys)
      listing_done = joined_done w (given_gone raw t) (λ c. removing_done c.hit.element) cs

      module _ (stand : (c : Candidate) → IsMember cs c → StandsIn files c.hit.element) (gr : LinkTrail ElementNo) (hr : IsAsked gr (listing w)) where
        -- an element that is listed
        pub listed_from : (e : ElementNo) → IsMember gr.found e → (c : Candidate) × IsMember cs c × (c.hit.element ≡ e) × (is_own e ≡ false)
        listed_from e m =
            let j = shows_joined w (given_gone raw t) cs (Finds e)
            (found_has gr (listing w) hr (done_quiet gr (listing w) listing_done.0 hr listing_done.1) e m) in
            let o = removing_has j.0.hit.element e j.2 in
            (j.0, j.1, o.1, subst (λ z. is_own z ≡ false) o.1 o.0)

        pub listed : (c : Candidate) → IsMember cs c → is_own c.hit.element ≡ false → IsMember gr.found c.hit.element
        listed c m off =
            has_found gr (listing w) hr c.hit.element (subst (λ z. Has z c.hit.element) (sym listing_done.1)
            (subst (λ z. MayHave z c.hit.element) listing_done.1
            (admits_joined w (given_gone raw t) cs c (Finds c.hit.element) m
            (shows_admits (removing_of raw t c.hit.element w) (Finds c.hit.element) (has_removing c.hit.element off)))))

        pub listed_stands : (e : ElementNo) → IsMember gr.found e → StandsIn files e
        listed_stands e m = let c = listed_from e m in subst (StandsIn files) c.2 (stand c.0 c.1)

      module _ (stand : (c : Candidate) → IsMember cs c → StandsIn files c.hit.element) (gr : LinkTrail ElementNo) (ga : LinkTrail ElementNo)
          (hr : IsAsked gr (listing w)) (ha : IsAsked ga (joined all_redefined gr.found w)) where
        abbrev pub both : Noted
        both = noted ga.waits ga.looks (notes_of gr)

        to_notes : (x : Part LinkKey LinkFact Removal) → Aside (whole w) x → IsNoted both x
        to_notes x h =
            let j = aside_joined w (removals raw t) given x h in
            let c = member_back as_candidate cs j.0 j.1 in
            by_candidate c.0 c.1 (subst (λ (z : inheritance.Candidate). Aside (removals raw t z w) x) (sym c.2) j.2)
          where
            look_noted : (c : Candidate) → IsMember cs c → (y : Part LinkKey LinkFact Removal) → Aside (element c.hit.element w) y → IsNoted both y
            look_noted c m y a = noted_old (notes_of gr) (notes_of ga) y (aside_noted gr (listing w) y hr (joined_aside w (given_gone raw t) cs c y m
                (first_aside w (element c.hit.element) (λ z. done (only_if (not (raw && is_owned_by t c.hit.element z.owner)) c.hit.element)) y a)))

            far_noted : (c : Candidate) → IsMember cs c → is_own c.hit.element ≡ false → (y : Part LinkKey LinkFact Removal)
                → Aside (all_redefined c.hit.element w) y → IsNoted both y
            far_noted c m off y a = noted_now (notes_of gr) (notes_of ga) y (aside_noted ga (joined all_redefined gr.found w) y ha
                (joined_aside w all_redefined gr.found c.hit.element y (listed stand gr hr c m off) a))

            by_look : (c : Candidate) → IsMember cs c → is_own c.hit.element ≡ false → (g : ElementNo) → Has (all_redefined c.hit.element w).step g
                → (y : Part LinkKey LinkFact Removal) → IsLook files table links are g y → IsNoted both y
            by_look c m off g has (Finds z) l = absurd l
            by_look c m off g has (Awaits k) l = absurd l
            by_look c m off g has (LooksAt f) l = far_noted c m off (LooksAt f)
                (subst (IsMember (all_redefined c.hit.element w).looks) l (redefined_look c.hit.element g (stand c m) has))

            by_candidate : (c : Candidate) → IsMember cs c → Aside (removals raw t (as_candidate c) w) x → IsNoted both x
            by_candidate c m h = elim (aside_then w (element c.hit.element) (after_read c.hit.element) x h) [
              | inl a ↦ look_noted c m x a
              | inr b ↦ by_own (is_own c.hit.element) refl (subst (λ y. Aside (after_read c.hit.element y w) x)
                  (done_of b.0 (at_element c.hit.element) (element c.hit.element w).step b.1 refl) b.2)
            ]
              where
                by_own : (o : Bool) → is_own c.hit.element ≡ o
                    → Aside (cond o (done []) (all_redefined c.hit.element >>= joined (removal_of c.hit.element)) w) x → IsNoted both x
                by_own true e a = absurd (nothing_aside w {C = List Removal} [] x a)
                by_own false off a = elim (aside_then w (all_redefined c.hit.element) (joined (removal_of c.hit.element)) x a) [
                  | inl first ↦ far_noted c m off x first
                  | inr gs ↦
                      let j = aside_joined w (removal_of c.hit.element) gs.0 x gs.2 in
                      elim (aside_then w (element j.0) (λ y. done (only_if (is_feature y.kind) (pair c.hit.element j.0))) x j.2) [
                        | inl look ↦ by_look c m off j.0 (subst (λ z. Has z j.0) (sym gs.1) j.1) x (element_look files table links are j.0 x look)
                        | inr none ↦ absurd (nothing_aside w {C = List Removal}
                            (only_if (is_feature none.0.kind) (pair c.hit.element j.0)) x none.2)
                      ]
                ]

        from_notes : (x : Part LinkKey LinkFact Removal) → IsNoted both x → Aside (whole w) x
        from_notes x h = elim (noted_cases (notes_of gr) (notes_of ga) x h) [
          | inl old ↦
              let j = aside_joined w (given_gone raw t) cs x (noted_aside gr (listing w) x hr old) in
              elim (aside_then w (element j.0.hit.element) (λ z. done (only_if (not (raw && is_owned_by t j.0.hit.element z.owner)) j.0.hit.element)) x j.2) [
                | inl a ↦ joined_aside w (removals raw t) given (as_candidate j.0) x (member_map as_candidate cs j.0 j.1)
                    (first_aside w (element j.0.hit.element) (after_read j.0.hit.element) x a)
                | inr none ↦ absurd (nothing_aside w {C = List ElementNo}
                    (only_if (not (raw && is_owned_by t j.0.hit.element none.0.owner)) j.0.hit.element) x none.2)
              ]
          | inr now ↦
              let j = aside_joined w all_redefined gr.found x (noted_aside ga (joined all_redefined gr.found w) x ha now) in
              let c = listed_from stand gr hr j.0 j.1 in
              joined_aside w (removals raw t) given (as_candidate c.0) x (member_map as_candidate cs c.0 c.1)
              (subst (λ z. Aside ((element z >>= after_read z) w) x) (sym c.2)
              (second_aside w (element j.0) (after_read j.0) (at_element j.0) x refl
              (subst (λ b. Aside (cond b (done []) (all_redefined j.0 >>= joined (removal_of j.0)) w) x) (sym c.3)
              (first_aside w (all_redefined j.0) (joined (removal_of j.0)) x j.2))))
        ]

        -- THE NOTES ARE THOSE OF THE DEFINITION
        pub removals_noted : HasAnswer (gone raw t given) w both
        unfolding gone
        removals_noted = has_answer w whole both (regular_joined (removals raw t) (λ c. (removals_tame raw t c).regular) given) to_notes from_notes

      -- WHAT IS REMOVED WITH AN ELEMENT, where nothing of it waits
      module _ (c : Candidate) (m : IsMember cs c) (ps : List Removal) (is : (gone raw t given w).step ≡ Done ps) where
        abbrev e : ElementNo
        e = c.hit.element

        whole_is : (whole w).step ≡ Done ps
        unfolding gone
        whole_is = is

        -- a pair of the definition's list
        pair_from : (p : Removal) → IsMember ps p → same_element p.of e ≡ true → (is_own e ≡ false) × Has (all_redefined e w).step p.redefined
            × (is_feature (at_element p.redefined).kind ≡ true)
        pair_from p among of =
            let j = shows_joined w (removals raw t) given (Finds p) (subst (λ z. Has z p) (sym whole_is) among) in
            by_candidate j.0.hit.element j.2
          where
            by_read : (a : ElementNo) → (o : Bool) → is_own a ≡ o
                → Shows (cond o (done []) (all_redefined a >>= joined (removal_of a)) w) (Finds p)
                → (is_own e ≡ false) × Has (all_redefined e w).step p.redefined × (is_feature (at_element p.redefined).kind ≡ true)
            by_read a true own h = absurd (shows_nothing w (Finds p) h)
            by_read a false off h = elim (shows_then w (all_redefined a) (joined (removal_of a)) (Finds p) h) [
              | inl aside ↦ absurd aside
              | inr gs ↦
                  let j = shows_joined w (removal_of a) gs.0 (Finds p) gs.2 in
                  by_pair j.0 (subst (λ z. Has z j.0) (sym gs.1) j.1) (is_feature (at_element j.0).kind) refl j.2
            ]
              where
                by_pair : (g : ElementNo) → Has (all_redefined a w).step g → (b : Bool) → is_feature (at_element g).kind ≡ b
                    → IsMember (only_if b (pair a g)) p
                    → (is_own e ≡ false) × Has (all_redefined e w).step p.redefined × (is_feature (at_element p.redefined).kind ≡ true)
                by_pair g has true feature (inl same) =
                    let a_is : a ≡ e = ap (λ (z : Removal). z.of) same ∙ same_is p.of e of in
                    let g_is : g ≡ p.redefined = ap (λ (z : Removal). z.redefined) same in (
                      subst (λ z. is_own z ≡ false) a_is off,
                      subst (Has (all_redefined e w).step) g_is (subst (λ z. Has (all_redefined z w).step g) a_is has),
                      subst (λ z. is_feature (at_element z).kind ≡ true) g_is feature,
                    )
                by_pair g has true feature (inr none) = absurd none
                by_pair g has false feature none = absurd none

            by_candidate : (a : ElementNo) → Shows ((element a >>= after_read a) w) (Finds p)
                → (is_own e ≡ false) × Has (all_redefined e w).step p.redefined × (is_feature (at_element p.redefined).kind ≡ true)
            by_candidate a h = by_read a (is_own a) refl h

        pair_in : (g : ElementNo) → is_own e ≡ false → (gs : List ElementNo) → (all_redefined e w).step ≡ Done gs → IsMember gs g
            → is_feature (at_element g).kind ≡ true → IsMember ps (pair e g)
        pair_in g off gs done_is among feature =
            subst (λ z. MayHave z (pair e g)) whole_is
            (admits_joined w (removals raw t) given (as_candidate c) (Finds (pair e g)) (member_map as_candidate cs c m)
            (subst (λ b. MayHave (cond b (done []) (all_redefined e >>= joined (removal_of e)) w).step (pair e g)) (sym off)
            (admits_then w (all_redefined e) (joined (removal_of e)) gs (Finds (pair e g)) done_is
            (admits_joined w (removal_of e) gs g (Finds (pair e g)) among
            (subst (λ b. IsMember (only_if b (pair e g)) (pair e g)) (sym feature) (inl refl))))))

        -- what it redefines waits on nothing
        far_quiet : is_own e ≡ false → (k : LinkKey) → WaitsOn (all_redefined e w).step k → ⊥
        far_quiet off k h =
            subst (λ z. WaitsOn z k) whole_is (admits_joined w (removals raw t) given (as_candidate c) (Awaits k) (member_map as_candidate cs c m)
            (second_aside {B = Removal} w (element e) (after_read e) (at_element e) (Awaits k) refl
            (subst (λ b. Aside {B = Removal} (cond b (done []) (all_redefined e >>= joined (removal_of e)) w) (Awaits k)) (sym off)
            (first_aside {B = Removal} w (all_redefined e) (joined (removal_of e)) (Awaits k) h))))

        pub far_done : is_own e ≡ false → (gs : List ElementNo) × ((all_redefined e w).step ≡ Done gs)
        far_done off = by (all_redefined e w).step ((all_redefined_tame e).regular.sound w) (far_quiet off)
          where
            by : (step : Step LinkKey (List ElementNo)) → IsSound w.table step (all_redefined e w).looks → ((k : LinkKey) → WaitsOn step k → ⊥)
                → (gs : List ElementNo) × (step ≡ Done gs)
            by (Done gs) s none = (gs, refl)
            by (Waits []) s none = absurd (s.0 refl)
            by (Waits (k ∷ ks)) s none = absurd (none k (inl refl))

        -- the type's own element alone
        pub own_removed : is_own e ≡ true → (g : ElementNo) → is_in g (e ∷ []) ≡ is_removed_with ps e g
        own_removed own g = bool_by (is_in g (e ∷ [])) (is_removed_with ps e g)
            (λ h. or_left (same_element e g) _ (elim (in_member (e ∷ []) g h) [ inl same ↦ is_same e g same | inr none ↦ absurd none ]))
            (λ h. elim (or_cases (same_element e g) (list_any (λ p. same_element p.of e && same_element p.redefined g) ps) h) [
              | inl same ↦ member_in (e ∷ []) g (inl (same_is e g same))
              | inr pairs ↦
                  let p = any_member (λ (p : Removal). same_element p.of e && same_element p.redefined g) ps pairs in
                  let off = (pair_from p.0 p.1 (both_true (same_element p.0.of e) (same_element p.0.redefined g) p.2).0).0 in
                  absurd (never (sym own ∙ off))
            ])

        -- the element, and the features that a search from it finds
        pub far_removed : (found : List ElementNo) (trail : LinkTrail ElementNo) → trail.found ≡ found → IsAsked trail (all_redefined e w) → is_own e ≡ false
            → (g : ElementNo) → (is_in g (e ∷ []) || is_in g (features_among files found)) ≡ is_removed_with ps e g
        far_removed found trail same h off g = bool_by (is_in g (e ∷ []) || is_in g (features_among files found)) (is_removed_with ps e g)
            (λ x. elim (or_cases (is_in g (e ∷ [])) (is_in g (features_among files found)) x) [
              | inl one ↦ or_left (same_element e g) _ (elim (in_member (e ∷ []) g one) [ inl is_e ↦ is_same e g is_e | inr none ↦ absurd none ])
              | inr two ↦
                  let f = where_member (λ z. is_feature (at_element z).kind) found g (in_member (features_among files found) g two) in
                  let gs = far_done off in
                  let among = found_has trail (all_redefined e w) h (done_quiet trail (all_redefined e w) gs.0 h gs.1) g
                  (subst (λ z. IsMember z g) (sym same) f.0) in
                  or_right (same_element e g) _ (member_any (λ (p : Removal). same_element p.of e && same_element p.redefined g) ps (pair e g)
                  (pair_in g off gs.0 gs.1 (subst (λ z. Has z g) gs.1 among) f.1)
                  (and_true (same_element e e) (same_element g g) (is_same e e refl) (is_same g g refl)))
            ])
            (λ x. elim (or_cases (same_element e g) (list_any (λ p. same_element p.of e && same_element p.redefined g) ps) x) [
              | inl is_e ↦ or_left (is_in g (e ∷ [])) _ (member_in (e ∷ []) g (inl (same_is e g is_e)))
              | inr pairs ↦
                  let p = any_member (λ (p : Removal). same_element p.of e && same_element p.redefined g) ps pairs in
                  let b = both_true (same_element p.0.of e) (same_element p.0.redefined g) p.2 in
                  let from = pair_from p.0 p.1 b.0 in
                  let g_is : p.0.redefined ≡ g = same_is p.0.redefined g b.1 in
                  or_right (is_in g (e ∷ [])) _ (member_in (features_among files found) g (member_where (λ z. is_feature (at_element z).kind) found g
                  (subst (λ z. IsMember z g) same (has_found trail (all_redefined e w) h g (subst (Has (all_redefined e w).step) g_is from.1)))
                  (subst (λ z. is_feature (at_element z).kind ≡ true) g_is from.2)))
            ])

-- reading a candidate's element is regular
pub given_regular : (raw : Bool) (t : ElementNo) (c : Candidate) → IsRegular (given_gone raw t c)
given_regular raw t c = regular_then (element c.hit.element) (λ x. done (only_if (not (raw && is_owned_by t c.hit.element x.owner)) c.hit.element))
    (element_tame c.hit.element).regular (λ x. regular_done (only_if (not (raw && is_owned_by t c.hit.element x.owner)) c.hit.element))

-- the element that code read, and whether it is a feature
pub feature_read : (files : List StoredFile) (table : List (LinkKey × Outcome)) (e : ElementNo) (x : Element)
    → (element e (reading files table)).step ≡ Done x → (b : Bool) → b ≡ is_feature x.kind
    → b ≡ is_feature (get_or (model_in (slice_get files e.file.0)).elements e.index root_element).kind
feature_read files table e x is b test = test ∙ ap (λ (y : Element). is_feature y.kind) (done_of x _ (element e (reading files table)).step is refl)

-- a feature is moved to the set
pub feature_moved : (files : List StoredFile) (g : ElementNo) (old new : List ElementNo) (x : ElementNo) (rest : List ElementNo) (b : Bool)
    → b ≡ is_feature (get_or (model_in (slice_get files x.file.0)).elements x.index root_element).kind
    → is_in g new ≡ is_in g (only_if b x ++ old)
    → (is_in g new || is_in g (features_among files rest)) ≡ (is_in g old || is_in g (features_among files (x ∷ rest)))
feature_moved files g old new x rest b test is =
    ap (λ z. z || is_in g (features_among files rest)) is
    ∙ by (is_feature (get_or (model_in (slice_get files x.file.0)).elements x.index root_element).kind) test
  where
    by : (k : Bool) → b ≡ k → (is_in g (only_if b x ++ old) || is_in g (features_among files rest))
        ≡ (is_in g old || is_in g (chosen k x (features_among files rest)))
    by true yes_it_is = ap (λ z. is_in g (only_if z x ++ old) || is_in g (features_among files rest)) yes_it_is
        ∙ one_moved (same_element g x) (is_in g old) (is_in g (features_among files rest))
    by false isnt = ap (λ z. is_in g (only_if z x ++ old) || is_in g (features_among files rest)) isnt

-- the code's test of the element's owner
pub owned_is : (h : Heir) (e : ElementNo) (x : Element) → (element e (world_of h)).step ≡ Done x → (b : Bool)
    → b ≡ (h.raw && is_owned_by h.of e x.owner) → b ≡ is_own_in h e
owned_is h e x is b test = test ∙ ap (λ (y : Element). h.raw && is_owned_by h.of e y.owner) (done_of x _ (element e (world_of h)).step is refl)

-- FOR CODE: what is removed with an element, over any candidates
module _ (h : Heir) (links : HasLinks h.view.now) (are : AreFiles (files_for h)) (e : ElementNo) where
  pub own_removed_by : (set : List ElementNo) → ((g : ElementNo) → is_in g set ≡ is_in g (e ∷ []))
      → (h.raw && is_owned_by h.of e (at_read h e).owner) ≡ true → AreRemoved h e set
  own_removed_by set alone own cs c m same ps is g =
      alone g ∙ subst (λ z. is_in g (z ∷ []) ≡ is_removed_with ps z g) same
      (own_removed (files_for h) h.view.now.table.now links are h.raw h.of cs c m ps is
      (subst (λ z. (h.raw && is_owned_by h.of z (at_read h z).owner) ≡ true) (sym same) own) g)

  pub waiting_removed_by : (set : List ElementNo) (trail : LinkTrail ElementNo) → IsAsked trail (all_redefined e (world_of h)) → (trail.waits ≡ [] → ⊥)
      → (h.raw && is_owned_by h.of e (at_read h e).owner) ≡ false → AreRemoved h e set
  waiting_removed_by set trail asked some off cs c m same ps is g =
      absurd (some (done_quiet trail (all_redefined e (world_of h)) done_so.0 asked
      (subst (λ z. (all_redefined z (world_of h)).step ≡ Done done_so.0) same done_so.1)))
    where
      done_so : (gs : List ElementNo) × ((all_redefined c.hit.element (world_of h)).step ≡ Done gs)
      done_so = far_done (files_for h) h.view.now.table.now links are h.raw h.of cs c m ps is
          (subst (λ z. (h.raw && is_owned_by h.of z (at_read h z).owner) ≡ false) (sym same) off)

  pub far_removed_by : (set : List ElementNo) (trail : LinkTrail ElementNo) → IsAsked trail (all_redefined e (world_of h))
      → ((g : ElementNo) → is_in g set ≡ (is_in g (e ∷ []) || is_in g (features_among (files_for h) trail.found)))
      → (h.raw && is_owned_by h.of e (at_read h e).owner) ≡ false → AreRemoved h e set
  far_removed_by set trail asked has off cs c m same ps is g =
      has g ∙ subst (λ z. (is_in g (z ∷ []) || is_in g (features_among (files_for h) trail.found)) ≡ is_removed_with ps z g) same
      (far_removed (files_for h) h.view.now.table.now links are h.raw h.of cs c m ps is trail.found trail refl
      (subst (λ z. IsAsked trail (all_redefined z (world_of h))) (sym same) asked)
      (subst (λ z. (h.raw && is_owned_by h.of z (at_read h z).owner) ≡ false) (sym same) off) g)

  -- what one search finds stands
  pub found_stand : (trail : LinkTrail ElementNo) → StandsIn (files_for h) e → IsAsked trail (all_redefined e (world_of h)) → trail.waits ≡ []
      → (g : ElementNo) → IsMember trail.found g → StandsIn (files_for h) g
  found_stand trail stands asked quiet g m =
      redefined_stands (files_for h) h.view.now.table.now links are e g stands (found_has trail (all_redefined e (world_of h)) asked quiet g m)

-- one search, and the set of one element
pub asked_one : (w : LinkWorld) (e : ElementNo) (g : LinkTrail ElementNo) → IsAsked g (joined all_redefined (e ∷ []) w) → IsAsked g (all_redefined e w)
asked_one w e g h = subst (IsAsked g) (λ i. record { step = join_last (all_redefined e w).step i; looks = append-nil (all_redefined e w).looks i }) h

pub set_of_one : (e : ElementNo) (none set : List ElementNo) → none ≡ [] → ((g : ElementNo) → is_in g set ≡ is_in g (e ∷ none)) → (g : ElementNo)
    → is_in g set ≡ is_in g (e ∷ [])
set_of_one e none set empty h g = h g ∙ ap (λ es. is_in g (e ∷ es)) empty
