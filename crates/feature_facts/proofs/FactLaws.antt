-- What the features of types redefine: by the tables of the models, and by one search from all of them.
use Rattle.std.proofs.Common.{◌≡◌, ℕ, ◌+◌, ◌<◌, Bool, true, false, cond, List, [], ◌∷◌, ◌++◌, map, get_or, length, refl, sym, ◌∙◌, ap, subst, inl, inr, arith}
use Rattle.std.specs.Prelude.{◌⊎◌, ◌&&◌, nat_eq, slice_get, Option, None, Some}
use Rattle.linker_base.specs.Members.{IsMember}
use Rattle.linker_base.proofs.Cases.{bool_cases, both_true, and_true}
use Rattle.linker_base.proofs.MemberLaws.{member_map}
use Rattle.demand_core.specs.Rules.{WaitsOn}
use Rattle.demand_core.specs.Computation.{Asked, done, then_step, ◌>>=◌, join_step, join, joined}
use Rattle.demand_core.specs.Gather.{Led}
use Rattle.demand_core.specs.Search.{Part, Finds, Awaits, LooksAt, Has, MayHave, Shows, Admits, Aside, LedHas, IsAsked, Own, Onward}
use Rattle.demand_core.specs.declared.looks.Fact.{Fact}
use Rattle.demand_core.specs.declared.looks.Fact.TheVariants.{Outer}
use Rattle.demand_core.specs.declared.step.Step.{Step}
use Rattle.demand_core.specs.declared.step.Step.TheVariants.{Done, Waits}
use Rattle.demand_core.proofs.PartLaws.{shows_nothing, shows_join, shows_joined, shows_then, admits_left, admits_right, admits_joined, admits_then}
use Rattle.element_store.specs.BaseRules.{StandsIn, model_of}
use Rattle.element_store.specs.Condition.{IsModel, members_of}
use Rattle.element_store.specs.Kinds.{is_feature}
use Rattle.element_store.specs.Model.{Data, root_element}
use Rattle.element_store.specs.Numbers.{numbers_from}
use Rattle.element_store.specs.Readings.{is_any, redefinitions_in, is_redefining, redefining_of}
use Rattle.element_store.specs.Stored.{AreFiles}
use Rattle.element_store.specs.declared.numbers.FileNo.{FileNo}
use Rattle.element_store.specs.declared.numbers.ElementNo.{ElementNo}
use Rattle.element_store.specs.declared.outcome.Outcome.{Outcome}
use Rattle.element_store.specs.declared.records.Member.{Member}
use Rattle.element_store.specs.declared.records.Target.{Target}
use Rattle.element_store.specs.declared.records.Target.TheVariants.{Owned, Alias}
use Rattle.element_store.specs.declared.models.StoredFile.{StoredFile}
use Rattle.link_model.specs.declared.keys.LinkKey.{LinkKey}
use Rattle.link_model.specs.declared.keys.LinkFact.{LinkFact}
use Rattle.link_model.specs.declared.keys.LinkFact.TheVariants.{File}
use Rattle.link_model.specs.Keys.{same_element}
use Rattle.link_model.specs.Names.{redefinitions, is_redefinition as is_link_redefinition}
use Rattle.link_model.specs.Outside.{model_in, is_private}
use Rattle.link_model.specs.Readers.{Lookup, LinkWorld, told, key, model, element, of_members, references_as, target}
use Rattle.link_model.specs.Inheritance.{Redefines, all_redefined, redefines, redefined_of, redefined_by, redefiners}
use Rattle.link_walk.specs.Calls.{reading, AreLinks, ends}
use Rattle.inheritance.specs.Sights.{direct_targets}
use Rattle.inheritance.proofs.ExpandLaws.{model_same}
use Rattle.owned_names.specs.Walked.{first_in}
use Rattle.owned_names.proofs.WayLaws.{same_role, redefines_feature}
use Rattle.feature_facts.specs.Stages.{told_of, feature_at, own_redefiner, owned_redefiner, redefiners_of}
use Rattle.feature_facts.specs.declared.facts.Redefiner.{Redefiner}
use Rattle.feature_facts.proofs.Asides.{nothing_aside, aside_join, aside_then, aside_map, done_of}
use Rattle.feature_facts.proofs.PartNames.{Maps as MapsTo, shows_map, shows_if, shows_unless}
use Rattle.feature_facts.proofs.TableLaws.{number_at, number_here}
use Rattle.feature_facts.proofs.SearchParts.{Way, redefined_way}

abbrev ready : {A : Type 0} → A → Step LinkKey A
ready x = Done x

any_first : {A : Type 0} (xs : List A) → is_any xs ≡ true → (x : A) × (first_in xs ≡ Some x)
any_first [] e = cc
any_first (x ∷ xs) e = (x, refl)

none_of : {A : Type 0} (xs : List A) → is_any xs ≡ false → xs ≡ []
none_of [] e = refl
none_of (x ∷ xs) e = cc

-- the model of a file that has one is whole
pub model_whole : (files : List StoredFile) → AreFiles files → (f : ℕ) (d : Data) → model_of files f ≡ Some d → IsModel d
model_whole files are f d of = by (slice_get files f) refl
  where
    by : (o : Option StoredFile) → slice_get files f ≡ o → IsModel d
    by None is = let bad : None ≡ Some d = rw is at of in cc
    by (Some s) is = let has : s.model ≡ Some d = rw is at of in (are.models f s d is has).1

module _ (files : List StoredFile) (table : List (LinkKey × Outcome)) (links : AreLinks files table) (are : AreFiles files) where
  abbrev w : LinkWorld
  w = reading files table

  abbrev here : ElementNo → Data
  here u = model_in (slice_get files u.file.0)

  abbrev ElementPart : Type 0
  ElementPart = Part LinkKey LinkFact ElementNo

  -- an element of which no reference is a redefinition redefines nothing, and its file alone is looked at
  no_references : (f : ElementNo) → is_any (redefinitions_in (here f).references f.index) ≡ false → (references_as is_link_redefinition f w).step ≡ Done []
  no_references f none =
      ap (λ (ns : List ℕ). ready (map (key f.file) ns))
      ((λ i. numbers_from 0 (λ r. nat_eq r.context f.index && same_role r.role i) (here f).references) ∙ none_of _ none)

  abbrev IsQuiet : ElementNo → Type 0
  IsQuiet f = is_any (redefinitions_in (here f).references f.index) ≡ false

  redefinitions_none : (f : ElementNo) → IsQuiet f → (redefinitions f w).step ≡ Done []
  redefinitions_none f none = by (is_feature (get_or (here f).elements f.index root_element).kind)
    where
      by : (b : Bool) → (cond b (references_as is_link_redefinition f) (done []) w).step ≡ Done []
      by true = no_references f none
      by false = refl

  redefinitions_look : (f : ElementNo) (g : Fact LinkKey LinkFact) → IsMember (redefinitions f w).looks g → Outer (File f.file) ≡ g
  redefinitions_look f g m = by (is_feature (get_or (here f).elements f.index root_element).kind) m
    where
      by : (b : Bool) → IsMember (Outer (File f.file) ∷ (cond b (references_as is_link_redefinition f) (done []) w).looks) g → Outer (File f.file) ≡ g
      by true (inl is) = is
      by true (inr (inl is)) = is
      by true (inr (inr none)) = absurd none
      by false (inl is) = is
      by false (inr none) = absurd none

  -- it is a look at the file of f
  abbrev pub IsLook : {B : Type 0} → ElementNo → Part LinkKey LinkFact B → Type 0
  IsLook f (Finds y) = ⊥
  IsLook f (Awaits k) = ⊥
  IsLook f (LooksAt g) = Outer (File f.file) ≡ g

  quiet_references : {B : Type 0} (f : ElementNo) → IsQuiet f → (x : Part LinkKey LinkFact B) → Aside (redefinitions f w) x → IsLook f x
  quiet_references f none (Finds y) h = absurd h
  quiet_references f none (Awaits k) h = absurd (subst (λ z. WaitsOn z k) (redefinitions_none f none) h)
  quiet_references f none (LooksAt g) h = redefinitions_look f g h

  no_member : {A : Type 0} (f : ElementNo) → IsQuiet f → (ls : List LinkKey) (l : LinkKey) → (redefinitions f w).step ≡ Done ls → IsMember ls l → A
  no_member f none ls l e m = absurd (subst (λ z. IsMember z l) (done_of ls [] (redefinitions f w).step e (redefinitions_none f none)) m)

  quiet_way : (f : ElementNo) → IsQuiet f → (x : ElementPart) → Way redefinitions target w f x → IsLook f x
  quiet_way f none x (Own (inl aside)) = quiet_references f none x aside
  quiet_way f none x (Own (inr o)) = no_member f none o.1.0 o.0 o.1.1 o.1.2
  quiet_way f none x (Onward go off rest) = no_member f none go.1.0 go.0 go.1.1 go.1.2

  quiet_far : {B : Type 0} (f : ElementNo) → IsQuiet f → (x : Part LinkKey LinkFact B) → Aside (all_redefined f w) x → IsLook f x
  quiet_far f none (Finds y) h = absurd h
  quiet_far f none (Awaits k) h = quiet_way f none (Awaits k) (redefined_way files table links are f (Awaits k) h)
  quiet_far f none (LooksAt g) h = quiet_way f none (LooksAt g) (redefined_way files table links are f (LooksAt g) h)

  quiet_direct : {B : Type 0} (f : ElementNo) → IsQuiet f → (x : Part LinkKey LinkFact B) → Aside (direct_targets f w) x → IsLook f x
  quiet_direct f none x h = elim (aside_then w (redefinitions f) (joined target) x h) [
    | inl a ↦ quiet_references f none x a
    | inr b ↦ absurd (nothing_aside w {C = List ElementNo} [] x (subst (λ z. Aside (joined target z w) x)
        (done_of b.0 [] (redefinitions f w).step b.1 (redefinitions_none f none)) b.2))
  ]

  none_direct : (f g : ElementNo) → IsQuiet f → Has (direct_targets f w).step g → ⊥
  none_direct f g none h = elim (shows_then w (redefinitions f) (joined target) (Finds g) h) [
    | inl a ↦ a
    | inr b ↦ shows_nothing w (Finds g) (subst (λ z. Shows (joined target z w) (Finds g))
        (done_of b.0 [] (redefinitions f w).step b.1 (redefinitions_none f none)) b.2)
  ]

  none_far : (f g : ElementNo) → IsQuiet f → Has (all_redefined f w).step g → ⊥
  none_far f g none h = quiet_way f none (Finds g) (redefined_way files table links are f (Finds g) h)

  -- what is redefined directly is redefined
  led_has : (l : LinkKey) (g : ElementNo) → Has (target l w).step g → LedHas (ends target l w).step g
  led_has l g h = by (target l w) (target l w).step h
    where
      by : (a : Asked LinkKey LinkFact (List ElementNo)) (step : Step LinkKey (List ElementNo)) → Has step g
          → LedHas (then_step {B = Led ElementNo ElementNo} a (λ ts. done (record { found = ts; onward = ts }) w) step).step g
      by a (Done ts) h = h
      by a (Waits ks) h = absurd h

  pub direct_way : (f g : ElementNo) → Has (direct_targets f w).step g → Way redefinitions target w f (Finds g)
  direct_way f g h = elim (shows_then w (redefinitions f) (joined target) (Finds g) h) [
    | inl a ↦ absurd a
    | inr b ↦ let j = shows_joined w target b.0 (Finds g) b.2 in Own (inr (j.0, (b.0, b.1, j.1), led_has j.0 g j.2))
  ]

  pub look_there : {B : Type 0} (u : ElementNo) (x : Part LinkKey LinkFact B) → IsLook u x → Aside (model u.file w) x
  look_there u (Finds y) h = absurd h
  look_there u (Awaits k) h = absurd h
  look_there u (LooksAt g) h = inl h

  pub element_look : {B : Type 0} (f : ElementNo) (x : Part LinkKey LinkFact B) → Aside (element f w) x → IsLook f x
  element_look f (Finds y) h = absurd h
  element_look f (Awaits k) h = absurd h
  element_look f (LooksAt g) (inl is) = is
  element_look f (LooksAt g) (inr none) = absurd none

  -- a feature with a redefinition, and where its member stands
  pub record Place (u : ElementNo) (q : Redefiner) : Type 0 where
    pub number : ℕ
    pub member : Member
    pub owned : ℕ
    pub at : slice_get (here u).members number ≡ Some member
    pub own : nat_eq member.owner u.index ≡ true
    pub leads : member.target ≡ Owned owned
    pub does : is_any (redefinitions_in (here u).references owned) ≡ true
    pub is : q ≡ record { owner = u; feature = feature_at u owned; hidden = is_private member.visibility }

  -- it is a feature
  place_feature : (u : ElementNo) (q : Redefiner) → StandsIn files u → (p : Place u q)
      → is_feature (get_or (here u).elements p.owned root_element).kind ≡ true
  place_feature u q stands p =
      let first = any_first (redefinitions_in (here u).references p.owned) p.does in
      redefines_feature (here u) (subst IsModel (sym (model_same files u.file.0 stands.0 stands.1)) (model_whole files are u.file.0 stands.0 stands.1))
      p.owned first.0 first.1

  -- ALL ITS MEMBERS, AND THE TABLE OF THOSE THAT REDEFINE
  module _ (raw : Bool) (t : ElementNo) where
    abbrev left_out : ElementNo → Bool
    left_out u = raw && same_element u t

    abbrev in_table : ElementNo → Data → Lookup (List Redefiner)
    in_table u d = joined (told_of d (own_redefiner u)) (redefining_of d u.index)

    abbrev by_member : ElementNo → ℕ → Member → Lookup (List Redefines)
    by_member u k m = redefined_by u (is_private m.visibility) m.target

    abbrev in_members : ElementNo → Data → Lookup (List Redefines)
    in_members u d = joined (told_of d (by_member u)) (members_of d u.index)

    here_is : (u : ElementNo) (d : Data) → (model u.file w).step ≡ Done d → d ≡ here u
    here_is u d e = done_of d (here u) (model u.file w).step e refl

    -- a listed one has its place
    pub placed : (u : ElementNo) (q : Redefiner) → Has (redefiners_of raw t u w).step q → (left_out u ≡ false) × Place u q
    placed u q h =
        let a = shows_unless w (left_out u) (model u.file >>= in_table u) (Finds q) h in (
          a.0,
          elim (shows_then w (model u.file) (in_table u) (Finds q) a.1) [
            | inl aside ↦ absurd aside
            | inr b ↦
                let j = shows_joined w (told_of (here u) (own_redefiner u)) (redefining_of (here u) u.index) (Finds q)
                (subst (λ (d : Data). Shows (in_table u d w) (Finds q)) (here_is u b.0 b.1) b.2) in
                let p = number_at 0 (λ n. nat_eq n.owner u.index && is_redefining (here u).references n.target) (here u).members j.0 j.1 in
                let at : slice_get (here u).members j.0 ≡ Some p.1 = subst (λ i. slice_get (here u).members i ≡ Some p.1) (omega (arith, p.2)) p.3 in
                let two = both_true (nat_eq p.1.owner u.index) (is_redefining (here u).references p.1.target) p.4 in
                by_target j.0 p.1 p.1.target at two.0 refl two.1 (subst (λ (o : Option Member). Shows (told o (own_redefiner u j.0) w) (Finds q)) at j.2)
          ],
        )
      where
        by_target : (k : ℕ) (m : Member) (g : Target) → slice_get (here u).members k ≡ Some m → nat_eq m.owner u.index ≡ true → m.target ≡ g
            → is_redefining (here u).references g ≡ true → Shows (owned_redefiner u (is_private m.visibility) g w) (Finds q) → Place u q
        by_target k m (Alias r) at own is does h = absurd h
        by_target k m (Owned e) at own is does (inl same) =
            record { number = k; member = m; owned = e; at = at; own = own; leads = is; does = does; is = sym same }
        by_target k m (Owned e) at own is does (inr none) = absurd none

    -- and what has a place is listed
    pub listed_there : (u : ElementNo) (q : Redefiner) → left_out u ≡ false → Place u q → Admits (redefiners_of raw t u w) (Finds q)
    listed_there u q off p =
        subst (λ b. Admits (cond b (done []) (model u.file >>= in_table u) w) (Finds q)) (sym off)
        (admits_then w (model u.file) (in_table u) (here u) (Finds q) refl
        (admits_joined w (told_of (here u) (own_redefiner u)) (redefining_of (here u) u.index) p.number (Finds q)
        (number_here (λ n. nat_eq n.owner u.index && is_redefining (here u).references n.target) (here u).members p.number p.member p.at
        (and_true (nat_eq p.member.owner u.index) (is_redefining (here u).references p.member.target) p.own
        (subst (λ g. is_redefining (here u).references g ≡ true) (sym p.leads) p.does)))
        (subst (λ (o : Option Member). Admits (told o (own_redefiner u p.number) w) (Finds q)) (sym p.at)
        (subst (λ g. Admits (owned_redefiner u (is_private p.member.visibility) g w) (Finds q)) (sym p.leads) (inl (sym p.is))))))

    -- what the definition asks of the feature of a place
    abbrev asked_of : ElementNo → ElementNo → Bool → Lookup (List Redefines)
    asked_of u f hidden = join (direct_targets f >>= λ gs. done (map (redefines u f hidden true) gs))
        (all_redefined f >>= λ gs. done (map (redefines u f hidden false) gs))

    pub place_admits : (u : ElementNo) (q : Redefiner) → StandsIn files u → left_out u ≡ false → (p : Place u q)
        → (x : Part LinkKey LinkFact Redefines) → Admits (asked_of u (feature_at u p.owned) (is_private p.member.visibility) w) x
        → Admits (redefiners raw t u w) x
    place_admits u q stands off p x h =
        subst (λ b. Admits (cond b (done []) (of_members (by_member u) u) w) x) (sym off)
        (admits_then w (model u.file) (in_members u) (here u) x refl
        (admits_joined w (told_of (here u) (by_member u)) (members_of (here u) u.index) p.number x
        (number_here (λ n. nat_eq n.owner u.index) (here u).members p.number p.member p.at p.own)
        (subst (λ (o : Option Member). Admits (told o (by_member u p.number) w) x) (sym p.at)
        (subst (λ g. Admits (redefined_by u (is_private p.member.visibility) g w) x) (sym p.leads)
        (admits_then w (element (feature_at u p.owned)) (λ y. cond (is_feature y.kind)
        (asked_of u (feature_at u p.owned) (is_private p.member.visibility)) (done [])) (get_or (here u).elements p.owned root_element) x refl
        (subst (λ b. Admits (cond b (asked_of u (feature_at u p.owned) (is_private p.member.visibility)) (done []) w) x)
        (sym (place_feature u q stands p)) h))))))

    -- WHAT THE DEFINITION SHOWS of a type: a look at its file, or what is asked of the feature of a place
    pub shown_by : (u : ElementNo) (x : Part LinkKey LinkFact Redefines) → Shows (redefiners raw t u w) x
        → (left_out u ≡ false) × (IsLook u x ⊎ ((q : Redefiner) × (p : Place u q)
        × Shows (asked_of u (feature_at u p.owned) (is_private p.member.visibility) w) x))
    shown_by u x h =
        let a = shows_unless w (left_out u) (of_members (by_member u) u) x h in (
          a.0,
          elim (shows_then w (model u.file) (in_members u) x a.1) [
            | inl aside ↦ inl (model_look x aside)
            | inr b ↦
                let j = shows_joined w (told_of (here u) (by_member u)) (members_of (here u) u.index) x
                (subst (λ (d : Data). Shows (in_members u d w) x) (here_is u b.0 b.1) b.2) in
                let p = number_at 0 (λ n. nat_eq n.owner u.index) (here u).members j.0 j.1 in
                let at : slice_get (here u).members j.0 ≡ Some p.1 = subst (λ i. slice_get (here u).members i ≡ Some p.1) (omega (arith, p.2)) p.3 in
                by_target j.0 p.1 p.1.target at p.4 refl (subst (λ (o : Option Member). Shows (told o (by_member u j.0) w) x) at j.2)
          ],
        )
      where
        model_look : (x : Part LinkKey LinkFact Redefines) → Aside (model u.file w) x → IsLook u x
        model_look (Finds y) h = absurd h
        model_look (Awaits k) h = absurd h
        model_look (LooksAt g) (inl is) = is
        model_look (LooksAt g) (inr none) = absurd none

        quiet_beside : (e : ℕ) (hidden : Bool) (x : Part LinkKey LinkFact Redefines) → IsQuiet (feature_at u e)
            → Aside (asked_of u (feature_at u e) hidden w) x → IsLook u x
        quiet_beside e hidden x none h = elim (aside_join w (direct_targets (feature_at u e) >>= λ gs.
            done (map (redefines u (feature_at u e) hidden true) gs)) (all_redefined (feature_at u e) >>= λ gs.
            done (map (redefines u (feature_at u e) hidden false) gs)) x h) [
              | inl one ↦ quiet_direct (feature_at u e) none x
                  (aside_map w (direct_targets (feature_at u e)) (redefines u (feature_at u e) hidden true) x one)
              | inr two ↦ quiet_far (feature_at u e) none x
                  (aside_map w (all_redefined (feature_at u e)) (redefines u (feature_at u e) hidden false) x two)
            ]

        -- without a redefinition
        quiet_asked : (e : ℕ) (hidden : Bool) (x : Part LinkKey LinkFact Redefines) → IsQuiet (feature_at u e)
            → Shows (asked_of u (feature_at u e) hidden w) x → IsLook u x
        quiet_asked e hidden (Finds r) none h = absurd (elim (shows_join w (direct_targets (feature_at u e) >>= λ gs.
            done (map (redefines u (feature_at u e) hidden true) gs)) (all_redefined (feature_at u e) >>= λ gs.
            done (map (redefines u (feature_at u e) hidden false) gs)) (Finds r) h) [
              | inl one ↦
                  let z = shows_map w (redefines u (feature_at u e) hidden true) (direct_targets (feature_at u e)) (Finds r) one in
                  no_direct z.0 z.1 z.2
              | inr two ↦
                  let z = shows_map w (redefines u (feature_at u e) hidden false) (all_redefined (feature_at u e)) (Finds r) two in
                  no_far z.0 z.1 z.2
            ])
          where
            no_direct : (z : ElementPart) → Shows (direct_targets (feature_at u e) w) z
                → MapsTo (redefines u (feature_at u e) hidden true) z (Finds r) → ⊥
            no_direct (Finds g) s m = none_direct (feature_at u e) g none s
            no_direct (Awaits k) s m = m
            no_direct (LooksAt l) s m = m

            no_far : (z : ElementPart) → Shows (all_redefined (feature_at u e) w) z
                → MapsTo (redefines u (feature_at u e) hidden false) z (Finds r) → ⊥
            no_far (Finds g) s m = none_far (feature_at u e) g none s
            no_far (Awaits k) s m = m
            no_far (LooksAt l) s m = m
        quiet_asked e hidden (Awaits k) none h = quiet_beside e hidden (Awaits k) none h
        quiet_asked e hidden (LooksAt l) none h = quiet_beside e hidden (LooksAt l) none h

        by_target : (k : ℕ) (m : Member) (g : Target) → slice_get (here u).members k ≡ Some m → nat_eq m.owner u.index ≡ true → m.target ≡ g
            → Shows (redefined_by u (is_private m.visibility) g w) x → IsLook u x ⊎ ((q : Redefiner) × (p : Place u q)
            × Shows (asked_of u (feature_at u p.owned) (is_private p.member.visibility) w) x)
        by_target k m (Alias r) at own is h = absurd (shows_nothing w x h)
        by_target k m (Owned e) at own is h = elim (shows_then w (element (feature_at u e)) (λ y. cond (is_feature y.kind)
            (asked_of u (feature_at u e) (is_private m.visibility)) (done [])) x h) [
              | inl aside ↦ inl (element_look (feature_at u e) x aside)
              | inr b ↦
                  let c = shows_if w (is_feature b.0.kind) (asked_of u (feature_at u e) (is_private m.visibility)) x b.2 in
                  elim (bool_cases (is_any (redefinitions_in (here u).references e))) [
                    | inl does ↦ inr (
                      record { owner = u; feature = feature_at u e; hidden = is_private m.visibility },
                      record { number = k; member = m; owned = e; at = at; own = own; leads = is; does = does; is = refl },
                      c.1,
                    )
                    | inr none ↦ inl (quiet_asked e (is_private m.visibility) x none c.1)
                  ]
            ]
