-- The feature meant is a feature.
use Rattle.std.proofs.Common.{◌≡◌, Bool, true, false, cond, List, [], ◌∷◌, refl, sym, ◌∙◌, ap, subst, inl, inr}
use Rattle.std.specs.Prelude.{ℕ, zero, suc, not, ◌||◌, ◌++◌, Option, None, Some}
use Rattle.std.specs.Option.{option_map}
use Rattle.element_store.specs.BaseRules.{first_of as this_or}
use Rattle.link_model.specs.Readers.{most}
use Rattle.std.specs.List.{flat_map}
use Rattle.linker_base.specs.Members.{IsMember}
use Rattle.linker_base.proofs.Cases.{bool_cases, some_same}
use Rattle.linker_base.proofs.MemberLaws.{member_cases}
use Rattle.element_store.specs.declared.numbers.ElementNo.{ElementNo}
use Rattle.element_store.specs.declared.kind.Kind.{Kind}
use Rattle.element_store.specs.declared.kind.Kind.TheVariants as kind
use Rattle.element_store.specs.Kinds.{is_feature, is_type}
use Rattle.element_store.specs.Numbers.{those_where}
use Rattle.demand_core.specs.Computed.{each_once}
use Rattle.demand_core.proofs.ComputedLaws.{each_once_is_order}
use Rattle.link_model.specs.Keys.{same_element, is_in, element_is_exact}
use Rattle.link_model.specs.Outside.{Library}
use Rattle.link_model.specs.Readers.{LinkWorld}
use Rattle.link_model.specs.Inheritance.{reached}
use Rattle.link_model.specs.Settled.{in_settled}
use Rattle.value_model.specs.Meant.{Own, own, Decider, only, element_at, feature_at, owned_features, stands_for, is_redefined_among, redefined, walk, first_own, decider, standing_for, sole_of, meant}

pub feature_is_type : (k : Kind) → is_feature k ≡ true → is_type k ≡ true
feature_is_type kind.Root h = h
feature_is_type kind.Namespace h = h
feature_is_type kind.Package h = h
feature_is_type kind.Comment h = h
feature_is_type kind.Documentation h = h
feature_is_type other h = refl

where_member : {A : Type 0} (test : A → Bool) (xs : List A) (x : A) → IsMember (those_where test xs) x → IsMember xs x × (test x ≡ true)
where_member test [] x m = absurd m
where_member test (y ∷ ys) x m = elim (bool_cases (test y)) [
  | inl a ↦ let n : IsMember (y ∷ those_where test ys) x = rw a at m in elim n [
    | inl e ↦ (inl e, ap test (sym e) ∙ a)
    | inr l ↦ let r = where_member test ys x l in (inr r.0, r.1)
  ]
  | inr b ↦ let n : IsMember (those_where test ys) x = rw b at m in let r = where_member test ys x n in (inr r.0, r.1)
]

pub all_of_flat : {A B : Type 0} (Q : B → Type 0) (f : A → List B) → ((x : A) (y : B) → IsMember (f x) y → Q y) → (xs : List A) (y : B)
    → IsMember (flat_map f xs) y → Q y
all_of_flat Q f h [] y m = absurd m
all_of_flat Q f h (x ∷ xs) y m = elim (member_cases (f x) (flat_map f xs) y m) [ inl a ↦ h x y a | inr b ↦ all_of_flat Q f h xs y b ]

only_member : {A : Type 0} (xs : List A) (x : A) → only xs ≡ Some x → IsMember xs x
only_member [] x e = cc
only_member (y ∷ []) x e = inl (some_same y x e)
only_member (y ∷ z ∷ zs) x e = cc

module _ (w : LinkWorld) (lib : Library) where
  AreFeatures : List ElementNo → Type 0
  AreFeatures gs = (g : ElementNo) → IsMember gs g → feature_at w g ≡ true

  standing_features : (f t : ElementNo) → AreFeatures (standing_for w lib f t)
  unfolding AreFeatures
  standing_features f t g m =
      let us = each_once same_element (t ∷ in_settled (reached lib t) w) in
      let once = (each_once_is_order same_element element_is_exact).same (those_where (stands_for w f) (flat_map (owned_features w) us)) in
      let inside = (where_member (stands_for w f) (flat_map (owned_features w) us) g (once.left g m)).0 in
      all_of_flat (λ x. feature_at w x ≡ true) (owned_features w) (λ u y n. (where_member (feature_at w) _ y n).1) us g inside

  sole_feature : (f : ElementNo) (gs : List ElementNo) → feature_at w f ≡ true → AreFeatures gs → (h : ElementNo) → sole_of w lib f gs ≡ Some h → feature_at w h
      ≡ true
  unfolding AreFeatures
  sole_feature f [] is are h e = ap (feature_at w) (sym (some_same f h e)) ∙ is
  sole_feature f (g ∷ gs) is are h e = are h (where_member (λ x. not (is_redefined_among w (g ∷ gs) x)) (g ∷ gs) h (only_member _ h e)).0

  -- what is meant for a feature is a feature
  pub meant_feature : (f : ElementNo) (t : Option ElementNo) → feature_at w f ≡ true → (h : ElementNo) → meant w lib f t ≡ Some h → feature_at w h ≡ true
  meant_feature f None is h e = ap (feature_at w) (sym (some_same f h e)) ∙ is
  meant_feature f (Some t) is h e = sole_feature f (standing_for w lib f t) is (standing_features f t) h e

-- where a node isn't passed it is a feature
new_feature : (a b : Bool) → (a || not b) ≡ false → b ≡ true
new_feature true b h = cc
new_feature false true h = refl
new_feature false false h = cc

module _ (w : LinkWorld) where
  walk_features : (n : ℕ) (seen todo : List ElementNo) (g : ElementNo) → IsMember (walk w n seen todo) g → feature_at w g ≡ true
  unfolding walk
  walk_features zero seen todo g m = absurd m
  walk_features (suc n) seen [] g m = absurd m
  walk_features (suc n) seen (h ∷ todo) g m =
      let passed = is_in h seen || not (feature_at w h) in
      elim (member_cases (cond passed [] (h ∷ [])) (walk w n (cond passed seen (h ∷ seen)) (cond passed [] (redefined w h) ++ todo)) g m) [
        | inl a ↦ elim (bool_cases passed) [
          | inl is ↦ let k : IsMember [] g = rw is at a in absurd k
          | inr new ↦ let k : IsMember (h ∷ []) g = rw new at a in
              elim k [ inl e ↦ subst (λ x. feature_at w x ≡ true) e (new_feature (is_in h seen) (feature_at w h) new) | inr l ↦ absurd l ]
        ]
        | inr b ↦ walk_features n (cond passed seen (h ∷ seen)) (cond passed [] (redefined w h) ++ todo) g b
      ]

  by_own : (g : ElementNo) (gs : List ElementNo) (d : Decider) (o : Option Own) → (first_own w gs ≡ Some d → IsMember gs d.feature)
      → this_or (option_map (λ x. record { feature = g; own = x }) o) (first_own w gs) ≡ Some d → IsMember (g ∷ gs) d.feature
  by_own g gs d None again h = inr (again h)
  by_own g gs d (Some x) again h = inl (ap (λ y. y.feature) (some_same (record { feature = g; own = x }) d h))

  first_member : (gs : List ElementNo) (d : Decider) → first_own w gs ≡ Some d → IsMember gs d.feature
  first_member [] d e = cc
  first_member (g ∷ gs) d e = by_own g gs d (own (element_at w g)) (first_member gs d) e

  -- the expression that decides is a feature's
  pub decider_feature : (f : ElementNo) (d : Decider) → decider w f ≡ Some d → feature_at w d.feature ≡ true
  decider_feature f d e = walk_features most [] (f ∷ []) d.feature (first_member (walk w most [] (f ∷ [])) d e)
