-- What the loops over members and references keep.
use Rattle.std.proofs.Common.{◌≡◌, ℕ, ◌+◌, ◌<◌, ◌≤◌, zero, suc, true, false, List, [], ◌∷◌, ◌++◌, drop, take, length, refl, sym, ◌∙◌, ap, subst, inl, inr, arith, append_assoc, append-nil, add-one}
use Rattle.std.proofs.lemmas.Bool.Decides.{nat_tests}
use Rattle.std.proofs.lemmas.List.{take_more}
use Rattle.std.specs.Prelude.{get_or, slice_get, nat_lt, Option, None, Some, IsTrue, ◌↔◌}
use Rattle.std.specs.List.{flat_map}
use Rattle.linker_base.specs.Members.{IsMember}
use Rattle.linker_base.proofs.MemberLaws.{member_left, member_right, member_cases}
use Rattle.element_store.specs.BaseRules.{model_of}
use Rattle.element_store.specs.Model.{Data}
use Rattle.element_store.specs.declared.models.StoredFile.{StoredFile}
use Rattle.link_model.specs.declared.keys.LinkKey.{LinkKey}
use Rattle.link_model.specs.Outside.{keys_of, model_in}
use Rattle.kept_links.specs.Kept.{AreStanding}
use Rattle.kept_links.proofs.StandingLaws.{StandsIn, key_stands, stands_key, none_stand}

-- one item more of what is told of each of a list
pub told_more : {A B : Type 0} (f : A → List B) (xs : List A) (i : ℕ) (x : A) (now new whole : List B) → slice_get xs i ≡ Some x → new ≡ now ++ f x
    → now ++ flat_map f (drop i xs) ≡ whole → new ++ flat_map f (drop (i + 1) xs) ≡ whole
told_more f xs i x now new whole at is before =
    ap (λ n. new ++ flat_map f (drop n xs)) (add-one i)
    ∙ (ap (λ ys. ys ++ flat_map f (drop (suc i) xs)) is
    ∙ (append_assoc now (f x) (flat_map f (drop (suc i) xs)) ∙ (ap (λ ys. now ++ ys) (sym (next f xs i x at)) ∙ before)))
  where
    next : {A B : Type 0} (f : A → List B) (xs : List A) (i : ℕ) (x : A) → slice_get xs i ≡ Some x
        → flat_map f (drop i xs) ≡ f x ++ flat_map f (drop (suc i) xs)
    next f [] i x at = cc
    next f (y ∷ ys) zero x at = let same : y ≡ x = cc in ap (λ z. f z ++ flat_map f ys) same
    next f (y ∷ ys) (suc i) x at = next f ys i x at

pub told_all : {A B : Type 0} (f : A → List B) (xs : List A) (i : ℕ) (now whole : List B) → length xs ≤ i → now ++ flat_map f (drop i xs) ≡ whole
    → now ≡ whole
told_all f xs i now whole le before = sym (append-nil now) ∙ (ap (λ ys. now ++ ys) (sym (none f xs i le)) ∙ before)
  where
    none : {A B : Type 0} (f : A → List B) (xs : List A) (i : ℕ) → length xs ≤ i → flat_map f (drop i xs) ≡ []
    none f [] zero le = refl
    none f [] (suc i) le = refl
    none f (x ∷ xs) zero le = absurd (omega (arith, le))
    none f (x ∷ xs) (suc i) le = none f xs i (omega (arith, le))

-- the model of a file, and the references that stand there
model_is : (files : List StoredFile) (q : LinkKey) (d : Data) → model_of files q.0.file.0 ≡ Some d → model_in (slice_get files q.0.file.0) ≡ d
model_is files q d h = by (slice_get files q.0.file.0) h
  where
    held : (m : Option Data) → m ≡ Some d → (s : StoredFile) → model_in (Some (record s { model = m })) ≡ d
    held None e s = cc
    held (Some e) is s = cc

    told : Option StoredFile → Option Data
    told None = None
    told (Some x) = x.model

    by : (o : Option StoredFile) → told o ≡ Some d → model_in o ≡ d
    by None e = cc
    by (Some s) e = held s.model e s

pub stands_with : (files : List StoredFile) (q : LinkKey) (d : Data) (n : ℕ) → model_of files q.0.file.0 ≡ Some d → n ≡ length d.references
    → IsTrue (nat_lt q.0.index n) ↔ IsMember (keys_of files) q
stands_with files q d n of is = (
  (λ t. stands_key files q (subst (λ (e : Data). nat_lt q.0.index (length e.references) ≡ true) (sym (model_is files q d of))
      (subst (λ k. nat_lt q.0.index k ≡ true) is t))),
  (λ m. subst (λ k. nat_lt q.0.index k ≡ true) (sym is)
      (subst (λ (e : Data). nat_lt q.0.index (length e.references) ≡ true) (model_is files q d of) (key_stands files q m))),
)

pub none_without : (files : List StoredFile) (q : LinkKey) → model_of files q.0.file.0 ≡ None → IsMember (keys_of files) q → ⊥
none_without files q none m = none_stand files q (λ s at. without s at) (key_stands files q m)
  where
    told : Option StoredFile → Option Data
    told None = None
    told (Some x) = x.model

    without : (s : StoredFile) → slice_get files q.0.file.0 ≡ Some s → s.model ≡ None
    without s at = sym (ap told at) ∙ none

-- the references that stand among the first so many
pub none_standing : (files : List StoredFile) (keys : List LinkKey) → AreStanding files (take 0 keys) []
none_standing files keys = record { among = λ k m. absurd m; stand = λ k m. absurd m; all = λ k m there. m }

module _ (files : List StoredFile) (keys : List LinkKey) (i : ℕ) (d : LinkKey) (now : List LinkKey) (lt : i < length keys)
    (are : AreStanding files (take i keys) now) where
  next : LinkKey
  next = get_or keys i d

  pub standing_more : IsMember (keys_of files) (get_or keys i d) → AreStanding files (take (i + 1) keys) (now ++ get_or keys i d ∷ [])
  standing_more stands = subst (λ (ks : List LinkKey). AreStanding files ks (now ++ get_or keys i d ∷ [])) (sym (take_more keys i d lt)) (record {
    among = λ k m. elim (member_cases now (get_or keys i d ∷ []) k m) [
      | inl a ↦ member_left (take i keys) (get_or keys i d ∷ []) k (are.among k a)
      | inr b ↦ member_right (take i keys) (get_or keys i d ∷ []) k b
    ];
    stand = λ k m. elim (member_cases now (get_or keys i d ∷ []) k m) [
      | inl a ↦ are.stand k a
      | inr b ↦ elim b [ inl e ↦ subst (IsMember (keys_of files)) e stands | inr n ↦ absurd n ]
    ];
    all = λ k m there. elim (member_cases (take i keys) (get_or keys i d ∷ []) k m) [
      | inl a ↦ member_left now (get_or keys i d ∷ []) k (are.all k a there)
      | inr b ↦ member_right now (get_or keys i d ∷ []) k b
    ];
  })

  pub standing_same : (IsMember (keys_of files) (get_or keys i d) → ⊥) → AreStanding files (take (i + 1) keys) now
  standing_same off = subst (λ (ks : List LinkKey). AreStanding files ks now) (sym (take_more keys i d lt)) (record {
    among = λ k m. member_left (take i keys) (get_or keys i d ∷ []) k (are.among k m);
    stand = are.stand;
    all = λ k m there. elim (member_cases (take i keys) (get_or keys i d ∷ []) k m) [
      | inl a ↦ are.all k a there
      | inr b ↦ elim b [ inl e ↦ absurd (off (subst (IsMember (keys_of files)) (sym e) there)) | inr n ↦ absurd n ]
    ];
  })
