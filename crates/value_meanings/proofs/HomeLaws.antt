-- Where elements stand, and which member owns a feature.
use Rattle.std.proofs.Common.{◌≡◌, ◌∙◌, ℕ, zero, suc, ◌<◌, ◌≤◌, Bool, true, false, List, [], ◌∷◌, refl, sym, ap, subst, arith, length, get_or, map}
use Rattle.std.specs.Prelude.{◌&&◌, nat_eq, nat_lt, slice_get, Option, None, Some}
use Rattle.std.specs.List.{list_all}
use Rattle.std.specs.Option.{option_and_then}
use Rattle.std.proofs.lemmas.Bool.Decides.{nat_tests}
use Rattle.std.proofs.lemmas.List.{get_or_past}
use Rattle.linker_base.proofs.Cases.{both_true, some_same}
use Rattle.element_store.specs.declared.numbers.ElementNo.{ElementNo}
use Rattle.element_store.specs.declared.models.StoredFile.{StoredFile}
use Rattle.element_store.specs.declared.outcome.Language.TheVariants.{Sysml}
use Rattle.element_store.specs.declared.records.Element.{Element}
use Rattle.element_store.specs.declared.records.Member.{Member}
use Rattle.element_store.specs.declared.records.Reference.{Reference}
use Rattle.element_store.specs.BaseRules.{StandsIn, model_of}
use Rattle.element_store.specs.Condition.{IsModel, HasRoot, has_element, target_stands, member_stands}
use Rattle.element_store.specs.Kinds.{is_feature}
use Rattle.element_store.specs.Model.{Data, bare_model, root_element}
use Rattle.element_store.specs.Numbers.{chosen, numbers_from}
use Rattle.element_store.specs.Readings.{Owns}
use Rattle.implied_model.proofs.FoundOwners.{owner_is}
use Rattle.link_model.specs.declared.view.View.{View}
use Rattle.link_model.specs.Keys.{same_element}
use Rattle.link_model.specs.Outside.{model_in}
use Rattle.link_model.specs.Readers.{key}
use Rattle.link_walk.specs.Calls.{files_of, read_by}
use Rattle.inheritance.proofs.ExpandLaws.{model_same}
use Rattle.value_model.specs.Meant.{model_at}
use Rattle.value_meanings.specs.Standing.{IsHome, IsNowhere, IsOwn, IsUnused}

-- no item passes a test that none of those can pass that fit
none_pass : {A : Type 0} (fits test : A → Bool) → ((x : A) → fits x ≡ true → test x ≡ false) → (n : ℕ) (xs : List A) → list_all fits xs ≡ true
    → numbers_from n test xs ≡ []
none_pass fits test h n [] e = refl
none_pass fits test h n (x ∷ xs) e =
    let both = both_true (fits x) (list_all fits xs) e in
    ap (λ b. chosen b n (numbers_from (suc n) test xs)) (h x both.0) ∙ none_pass fits test h (suc n) xs both.1

other_number : (a n i : ℕ) → nat_lt a n ≡ true → n ≤ i → nat_eq a i ≡ false
other_number a n i lt le = grind (arith, nat_tests)

and_false : (a b : Bool) → a ≡ false → (a && b) ≡ false
and_false true b e = cc
and_false false b e = refl

-- a number past the elements is unused
past_unused : (d : Data) (e : ElementNo) → IsModel d → length d.elements ≤ e.index → IsUnused d e
past_unused d e is le = record {
  members = none_pass (member_stands d) (λ m. nat_eq m.owner e.index)
      (λ m h. other_number m.owner (length d.elements) e.index (both_true (has_element d m.owner) (target_stands d m.target) h).0 le)
      0 d.members is.ranges.members;
  references = λ fits. ap (map (key e.file)) (none_pass (λ (r : Reference). has_element d r.context) (λ r. nat_eq r.context e.index && fits r.role)
      (λ r h. and_false (nat_eq r.context e.index) (fits r.role) (other_number r.context (length d.elements) e.index h le))
      0 d.references is.ranges.references);
  element = get_or_past d.elements e.index root_element le;
}

-- and so is every number of a file without a model
bare_unused : (e : ElementNo) → IsUnused (bare_model (record { 0 = 0 }) Sysml) e
bare_unused e = record { members = refl; references = λ fits. refl; element = alone e.index }
  where
    alone : (i : ℕ) → get_or (root_element ∷ []) i root_element ≡ root_element
    alone zero = refl
    alone (suc i) = refl

module _ (v : View) where
  pub nowhere_unstored : (e : ElementNo) → None ≡ model_of (files_of v) e.file.0 → IsNowhere (read_by v) e
  nowhere_unstored e h = by (slice_get (files_of v) e.file.0) h
    where
      by : (o : Option StoredFile) → None ≡ option_and_then (λ s. s.model) o → IsUnused (model_in o) e
      by None is = bare_unused e
      by (Some s) is = by_model s.model is
        where
          by_model : (m : Option Data) → None ≡ m → IsUnused (model_in (Some (record s { model = m }))) e
          by_model None is = bare_unused e
          by_model (Some d) is = cc

  pub nowhere_past : (e : ElementNo) (d : Data) → model_of (files_of v) e.file.0 ≡ Some d → IsModel d → length d.elements ≤ e.index
      → IsNowhere (read_by v) e
  nowhere_past e d of is le = subst (λ m. IsUnused m e) (sym (model_same (files_of v) e.file.0 d of)) (past_unused d e is le)

  -- what has a home stands
  pub home_stands : (e : ElementNo) (d : Data) → IsHome v e d → StandsIn (files_of v) e
  home_stands e d h = (d, h.stored, h.within)

  pub home_same : (e : ElementNo) (d : Data) → IsHome v e d → model_at (read_by v) e.file ≡ d
  home_same e d h = model_same (files_of v) e.file.0 d h.stored

-- a feature isn't the root
in_list : (xs : List Element) (i : ℕ) → is_feature (get_or xs i root_element).kind ≡ true → i < length xs
in_list [] i h = cc
in_list (x ∷ xs) zero h = omega arith
in_list (x ∷ xs) (suc i) h = let r : i < length xs = in_list xs i h in omega arith

past_root : (xs : List Element) (i : ℕ) → HasRoot xs → is_feature (get_or xs i root_element).kind ≡ true → 0 < i
past_root [] i root h = absurd root
past_root (x ∷ xs) zero root h = let bad : true ≡ false = sym h ∙ ap is_feature root.0 in cc
past_root (x ∷ xs) (suc i) root h = omega arith

pub feature_within : (d : Data) (i : ℕ) → IsModel d → is_feature (get_or d.elements i root_element).kind ≡ true → (i < length d.elements) × (0 < i)
feature_within d i is h = (in_list d.elements i h, past_root d.elements i is.root h)

-- a member that stands is below the length
pub member_below : {A : Type 0} (xs : List A) (i : ℕ) (x : A) → slice_get xs i ≡ Some x → i < length xs
member_below [] i x at = cc
member_below (y ∷ ys) zero x at = omega arith
member_below (y ∷ ys) (suc i) x at = let lt = member_below ys i x at in omega (arith, lt)

-- the member that owns a feature is one
pub own_same : (d : Data) (h f : ElementNo) (k j : ℕ) → IsModel d → IsOwn d h f k → Owns d f.index j → k ≡ j
own_same d h f k j is own owns =
    owner_is d f.index k is.owned (own.member, own.at, own.target) ∙ sym (owner_is d f.index j is.owned owns)

-- where that one has another owner, none owns it here
pub own_other : (d : Data) (h f : ElementNo) (k j : ℕ) (m : Member) → IsModel d → Owns d f.index j → slice_get d.members j ≡ Some m
    → same_element (record { file = f.file; index = m.owner }) h ≡ false → IsOwn d h f k → ⊥
own_other d h f k j m is owns at other own =
    let same : own.member ≡ m = some_same own.member m (sym own.at ∙ (ap (slice_get d.members) (own_same d h f k j is own owns) ∙ at)) in
    let bad : true ≡ false = sym own.owner ∙ (ap (λ (x : Member). same_element (record { file = f.file; index = x.owner }) h) same ∙ other) in cc
