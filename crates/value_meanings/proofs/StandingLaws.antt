-- What stands for a feature in a type is among itself and the features with a redefinition.
use Rattle.std.proofs.Common.{◌≡◌, ◌∙◌, ◌⊎◌, ℕ, ◌<◌, true, List, [], ◌∷◌, ◌++◌, refl, sym, ap, subst, inl, inr, arith, length, get_or, append_assoc}
use Rattle.std.specs.Prelude.{◌&&◌, ◌||◌, nat_eq, slice_get, Option, None, Some, Result, Ok, Err, OnOk}
use Rattle.std.specs.List.{flat_map}
use Rattle.std.proofs.lemmas.Grind.{flat_map-append}
use Rattle.std.proofs.lemmas.Bool.Decides.{nat_tests}
use Rattle.linker_base.specs.Members.{IsMember, SameMembers, IsEachOnce, Adds}
use Rattle.linker_base.proofs.Cases.{bool_cases, both_true, and_true, some_same}
use Rattle.linker_base.proofs.MemberLaws.{member_left, member_right, member_cases, same_members, same_through, same_joined, adds_more}
use Rattle.demand_core.specs.Computed.{each_once}
use Rattle.demand_core.specs.Tables.{entry_of}
use Rattle.demand_core.proofs.ComputedLaws.{each_once_is_order}
use Rattle.element_store.specs.declared.numbers.ElementNo.{ElementNo}
use Rattle.element_store.specs.declared.records.Member.{Member}
use Rattle.element_store.specs.declared.records.Target.{Target}
use Rattle.element_store.specs.declared.records.Target.TheVariants.{Owned, Alias}
use Rattle.element_store.specs.BaseRules.{StandsIn}
use Rattle.element_store.specs.Condition.{members_of}
use Rattle.element_store.specs.Kinds.{is_feature}
use Rattle.element_store.specs.Model.{Data, root_element}
use Rattle.element_store.specs.Numbers.{those_where}
use Rattle.element_store.specs.Readings.{is_any, redefinitions_in, is_redefining, redefining_of}
use Rattle.feature_facts.proofs.TableLaws.{number_at, number_here}
use Rattle.link_model.specs.declared.view.View.{View}
use Rattle.link_model.specs.Inheritance.{reached}
use Rattle.link_model.specs.Keys.{same_element, same_key, element_exact, element_is_exact, is_in}
use Rattle.link_model.specs.Outside.{library_of}
use Rattle.link_model.specs.Readers.{LinkWorld}
use Rattle.link_model.specs.Settled.{in_settled, settled_redefined}
use Rattle.link_walk.specs.Calls.{files_of, read_by}
use Rattle.link_walk.specs.Marks.{marked_all}
use Rattle.link_walk.proofs.MarkLaws.{marks_same}
use Rattle.value_model.specs.Meant.{model_at, feature_at, owned_by, owned_at, owned_features, stands_for, standing_for}
use Rattle.value_model.proofs.StandLaws.{feature_stands}
use Rattle.value_meanings.specs.Standing.{IsHome, IsNowhere, IsOwn, standing_at, standing_in}
use Rattle.value_meanings.proofs.HomeLaws.{home_same, feature_within}
use Rattle.value_meanings.proofs.ListLaws.{those_flat, those_member, flat_member, member_flat, same_flat}
use Rattle.value_meanings.proofs.SettledLaws.{redefines_any, nowhere_reaches}

module _ (v : View) (f : ElementNo) where
  abbrev w : LinkWorld
  w = read_by v

  -- the features of a type that stand for f, member by member
  in_members : (h : ElementNo) → standing_in w f h ≡ flat_map (standing_at w f h.file) (members_of (model_at w h.file) h.index)
  in_members h =
      ap (those_where (stands_for w f))
      (those_flat (feature_at w) (λ k. owned_at h.file (slice_get (model_at w h.file).members k)) (members_of (model_at w h.file) h.index))
      ∙ those_flat (stands_for w f) (λ k. those_where (feature_at w) (owned_at h.file (slice_get (model_at w h.file).members k)))
      (members_of (model_at w h.file) h.index)

  -- one that stands for f, with its member
  record Stander (h : ElementNo) (d : Data) (k : ℕ) (x : ElementNo) : Type 0 where
    pub member : Member
    pub owned : ℕ
    pub at : slice_get d.members k ≡ Some member
    pub target : member.target ≡ Owned owned
    pub is : x ≡ record { file = h.file; index = owned }
    pub feature : feature_at w x ≡ true
    pub stands : stands_for w f x ≡ true

  stander : (h : ElementNo) (k : ℕ) (x : ElementNo) → IsMember (standing_at w f h.file k) x → Stander h (model_at w h.file) k x
  stander h k x m =
      let first = those_member (stands_for w f) (those_where (feature_at w) (owned_at h.file (slice_get (model_at w h.file).members k))) x m in
      let second = those_member (feature_at w) (owned_at h.file (slice_get (model_at w h.file).members k)) x first.0 in
      by (slice_get (model_at w h.file).members k) refl second.0 second.1 first.1
    where
      by_target : (n : Member) (t : Target) → slice_get (model_at w h.file).members k ≡ Some n → n.target ≡ t → IsMember (owned_by h.file t) x
          → feature_at w x ≡ true → stands_for w f x ≡ true → Stander h (model_at w h.file) k x
      by_target n (Owned e) at is (inl same) feature stands =
          record { member = n; owned = e; at = at; target = is; is = sym same; feature = feature; stands = stands }
      by_target n (Owned e) at is (inr none) feature stands = absurd none
      by_target n (Alias r) at is none feature stands = absurd none

      by : (o : Option Member) → slice_get (model_at w h.file).members k ≡ o → IsMember (owned_at h.file o) x → feature_at w x ≡ true
          → stands_for w f x ≡ true → Stander h (model_at w h.file) k x
      by None at none feature stands = absurd none
      by (Some n) at m feature stands = by_target n n.target at refl m feature stands

  itself_or : (x : ElementNo) → stands_for w f x ≡ true → (x ≡ f) ⊎ (is_in f (settled_redefined x w) ≡ true)
  itself_or x e = elim (bool_cases (same_element x f)) [
    | inl same ↦ inl (element_exact x f same)
    | inr other ↦ inr (sym (ap (λ b. b || is_in f (settled_redefined x w)) other) ∙ e)
  ]

  -- ITSELF AND THOSE WITH A REDEFINITION are all that stand for f. The first are those members that own it.
  pub few_stand : (h : ElementNo) (d : Data) (own : List ℕ) → IsHome v h d → ((k : ℕ) → IsMember own k → IsOwn d h f k)
      → ((k : ℕ) → f.index < length d.elements → 0 < f.index → IsOwn d h f k → IsMember own k)
      → SameMembers (flat_map (standing_at w f h.file) (own ++ redefining_of d h.index)) (standing_in w f h)
  few_stand h d own home sure all = record {
    left = λ x m.
        let at = flat_member (standing_at w f h.file) (own ++ redefining_of d h.index) x m in
        subst (λ xs. IsMember xs x) (sym (in_members h))
        (member_flat (standing_at w f h.file) (members_of (model_at w h.file) h.index) at.0 x
        (subst (λ (z : Data). IsMember (members_of z h.index) at.0) (sym here) (either at.0 (member_cases own (redefining_of d h.index) at.0 at.1))) at.2);
    right = λ x m.
        let at = flat_member (standing_at w f h.file) (members_of (model_at w h.file) h.index) x (subst (λ xs. IsMember xs x) (in_members h) m) in
        member_flat (standing_at w f h.file) (own ++ redefining_of d h.index) at.0 x
        (found at.0 x (subst (λ (z : Data). IsMember (members_of z h.index) at.0) here at.1)
        (subst (λ (z : Data). Stander h z at.0 x) here (stander h at.0 x at.2))) at.2;
  }
    where
      here : model_at w h.file ≡ d
      here = home_same v h d home

      owner_here : (k : ℕ) → IsOwn d h f k → IsMember (members_of d h.index) k
      owner_here k own =
          let index : own.member.owner ≡ h.index = ap (λ (e : ElementNo). e.index)
          (element_exact (record { file = f.file; index = own.member.owner }) h own.owner) in
          let same : nat_eq own.member.owner h.index ≡ true = grind (arith, nat_tests) in
          number_here (λ m. nat_eq m.owner h.index) d.members k own.member own.at same

      either : (k : ℕ) → IsMember own k ⊎ IsMember (redefining_of d h.index) k → IsMember (members_of d h.index) k
      either k (inl mine) = owner_here k (sure k mine)
      either k (inr m) =
          let p = number_at 0 (λ (n : Member). nat_eq n.owner h.index && is_redefining d.references n.target) d.members k m in
          let two = both_true (nat_eq p.1.owner h.index) (is_redefining d.references p.1.target) p.4 in
          number_here (λ (n : Member). nat_eq n.owner h.index) d.members k p.1
          (subst (λ i. slice_get d.members i ≡ Some p.1) (omega (arith, p.2)) p.3) two.0

      owned_here : (k : ℕ) (n : Member) → slice_get d.members k ≡ Some n → IsMember (members_of d h.index) k → nat_eq n.owner h.index ≡ true
      owned_here k n at m =
          let p = number_at 0 (λ (n : Member). nat_eq n.owner h.index) d.members k m in
          let same : p.1 ≡ n = some_same p.1 n (sym (subst (λ i. slice_get d.members i ≡ Some p.1) (omega (arith, p.2)) p.3) ∙ at) in
          subst (λ (z : Member). nat_eq z.owner h.index ≡ true) same p.4

      itself : (k : ℕ) (x : ElementNo) → IsMember (members_of d h.index) k → (s : Stander h d k x) → x ≡ f → IsMember own k
      itself k x m s same =
          let named : record { file = h.file; index = s.owned } ≡ f = sym s.is ∙ same in
          let file : h.file ≡ f.file = ap (λ (e : ElementNo). e.file) named in
          let index : s.owned ≡ f.index = ap (λ (e : ElementNo). e.index) named in
          let mine = owned_here k s.member s.at m in
          let owner : s.member.owner ≡ h.index = grind (arith, nat_tests) in
          let feature : feature_at w f ≡ true = subst (λ e. feature_at w e ≡ true) same s.feature in
          let model : model_at w f.file ≡ d = ap (model_at w) (sym file) ∙ here in
          let within = feature_within d f.index home.whole (feature_by model feature) in
          all k within.0 within.1 (record {
            member = s.member;
            at = s.at;
            target = s.target ∙ ap Owned index;
            owner = subst (λ (e : ElementNo). same_element e h ≡ true) (λ i. record { file = file i; index = sym owner i }) (element_is_exact.itself h);
          })
        where
          feature_by : model_at w f.file ≡ d → feature_at w f ≡ true → is_feature (get_or d.elements f.index root_element).kind ≡ true
          feature_by model feature = subst (λ (z : Data). is_feature (get_or z.elements f.index root_element).kind ≡ true) model feature

      redefining : (k : ℕ) (x : ElementNo) → IsMember (members_of d h.index) k → (s : Stander h d k x) → is_in f (settled_redefined x w) ≡ true
          → IsMember (redefining_of d h.index) k
      redefining k x m s e =
          let any = redefines_any w x f e in
          let there : is_any (redefinitions_in d.references s.owned) ≡ true =
          subst (λ (z : Data). is_any (redefinitions_in z.references s.owned) ≡ true) here
          (subst (λ (y : ElementNo). is_any (redefinitions_in (model_at w y.file).references y.index) ≡ true) s.is any) in
          number_here (λ (n : Member). nat_eq n.owner h.index && is_redefining d.references n.target) d.members k s.member s.at
          (and_true (nat_eq s.member.owner h.index) (is_redefining d.references s.member.target) (owned_here k s.member s.at m)
          (subst (λ t. is_redefining d.references t ≡ true) (sym s.target) there))

      found : (k : ℕ) (x : ElementNo) → IsMember (members_of d h.index) k → Stander h d k x → IsMember (own ++ redefining_of d h.index) k
      found k x m s = elim (itself_or x s.stands) [
        | inl same ↦ member_left own (redefining_of d h.index) k (itself k x m s same)
        | inr e ↦ member_right own (redefining_of d h.index) k (redefining k x m s e)
      ]

  -- in what stands nowhere none stand
  pub nowhere_stand : (h : ElementNo) → IsNowhere w h → standing_in w f h ≡ []
  nowhere_stand h none = in_members h ∙ ap (flat_map (standing_at w f h.file)) none.members

  -- ALL THAT STAND FOR f in a target, type by type
  pub all_stand : (t : ElementNo) (types : List ElementNo) → SameMembers types (in_settled (reached (library_of (files_of v)) t) w)
      → SameMembers (flat_map (standing_in w f) (t ∷ types)) (standing_for w (library_of (files_of v)) f t)
  all_stand t types same =
      let order = each_once_is_order same_element element_is_exact in
      let homes = each_once same_element (t ∷ in_settled (reached (library_of (files_of v)) t) w) in
      let hs : SameMembers (t ∷ types) homes =
      same_through (same_joined (t ∷ []) types (t ∷ []) (in_settled (reached (library_of (files_of v)) t) w) (same_members (t ∷ [])) same)
      (turned (order.same (t ∷ in_settled (reached (library_of (files_of v)) t) w))) in
      same_through (same_flat (standing_in w f) (t ∷ types) homes hs)
      (subst (λ xs. SameMembers xs (standing_for w (library_of (files_of v)) f t)) (those_flat (stands_for w f) (owned_features w) homes)
      (turned (order.same (those_where (stands_for w f) (flat_map (owned_features w) homes)))))
    where
      turned : {xs ys : List ElementNo} → SameMembers xs ys → SameMembers ys xs
      turned s = record { left = s.right; right = s.left }

  -- and none in what stands nowhere
  pub none_stand : (t : ElementNo) → IsNowhere w t → SameMembers [] (standing_for w (library_of (files_of v)) f t)
  none_stand t none =
      let reaches : [] ≡ in_settled (reached (library_of (files_of v)) t) w = sym (nowhere_reaches w (files_of v) t none) in
      subst (λ xs. SameMembers xs (standing_for w (library_of (files_of v)) f t)) (ap (λ xs. xs ++ []) (nowhere_stand t none))
      (all_stand t [] (subst (SameMembers []) reaches (same_members [])))

  -- each of them stands
  pub standing_stand : (t e : ElementNo) → IsMember (standing_for w (library_of (files_of v)) f t) e → StandsIn (files_of v) e
  standing_stand t e m =
      let order = each_once_is_order same_element element_is_exact in
      let homes = each_once same_element (t ∷ in_settled (reached (library_of (files_of v)) t) w) in
      let at = those_member (stands_for w f) (flat_map (owned_features w) homes) e
      ((order.same (those_where (stands_for w f) (flat_map (owned_features w) homes))).left e m) in
      let h = flat_member (owned_features w) homes e at.0 in
      feature_stands (files_of v) (entry_of same_key v.table.now) e (those_member (feature_at w) _ e h.2).1

  -- what a type adds, in two steps
  pub home_added : {T E : Type 0} (r : Result T E) (h : ElementNo) (d : Data) (own : List ℕ) (old mid new : List ElementNo) → IsHome v h d
      → ((k : ℕ) → IsMember own k → IsOwn d h f k) → ((k : ℕ) → f.index < length d.elements → 0 < f.index → IsOwn d h f k → IsMember own k)
      → mid ≡ old ++ flat_map (standing_at w f h.file) own → OnOk r (new ≡ mid ++ flat_map (standing_at w f h.file) (redefining_of d h.index))
      → OnOk r (Adds old new (standing_in w f h))
  home_added (Ok x) h d own old mid new home sure all first second = record {
    added = flat_map (standing_at w f h.file) (own ++ redefining_of d h.index);
    whole = second ∙ ap (λ xs. xs ++ flat_map (standing_at w f h.file) (redefining_of d h.index)) first
        ∙ append_assoc old (flat_map (standing_at w f h.file) own) (flat_map (standing_at w f h.file) (redefining_of d h.index))
        ∙ ap (λ xs. old ++ xs) (sym (flat_map-append (standing_at w f h.file) own (redefining_of d h.index)));
    same = few_stand h d own home sure all;
  }
  home_added (Err x) h d own old mid new home sure all first second = tt

  -- the candidates, each once
  pub candidates_all : (t : ElementNo) (types mid found each : List ElementNo)
      → SameMembers types (in_settled (reached (library_of (files_of v)) t) w) → Adds [] mid (standing_in w f t)
      → Adds mid found (flat_map (standing_in w f) types) → each ≡ marked_all same_element [] found
      → SameMembers each (standing_for w (library_of (files_of v)) f t)
  candidates_all t types mid found each same first later is =
      let whole = adds_more [] mid found (standing_in w f t) (flat_map (standing_in w f) types) first later in
      subst (λ xs. SameMembers xs (standing_for w (library_of (files_of v)) f t)) (sym is)
      (same_through (marks_same same_element element_is_exact found)
      (same_through (subst (λ xs. SameMembers xs (standing_in w f t ++ flat_map (standing_in w f) types)) (sym whole.whole) whole.same)
      (all_stand t types same)))

  -- each of them comes once
  pub standing_once : (t : ElementNo) → IsEachOnce (standing_for w (library_of (files_of v)) f t)
  standing_once t =
      (each_once_is_order same_element element_is_exact).once
      (those_where (stands_for w f) (flat_map (owned_features w) (each_once same_element (t ∷ in_settled (reached (library_of (files_of v)) t) w))))
