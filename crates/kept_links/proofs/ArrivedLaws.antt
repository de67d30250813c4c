-- A new project file whose text came with it changes the rules of links with its facts alone.
use Rattle.std.proofs.Common.{◌≡◌, ℕ, ◌+◌, ◌<◌, Bool, true, false, List, [], ◌∷◌, ◌++◌, refl, sym, ◌∙◌, ap, subst, inl, inr, arith}
use Rattle.std.proofs.lemmas.Bool.Decides.{nat_tests}
use Rattle.std.specs.Prelude.{zero, suc, nat_eq, length, map, slice_get, Option, None, Some, ◌⊎◌}
use Rattle.linker_base.specs.Members.{IsMember, IsEachOnce}
use Rattle.linker_base.proofs.Cases.{bool_cases}
use Rattle.demand_core.specs.Computed.{world}
use Rattle.demand_core.specs.Least.{least}
use Rattle.demand_core.specs.Tables.{Decided}
use Rattle.demand_core.specs.declared.looks.Fact.{Fact}
use Rattle.demand_core.specs.declared.looks.Fact.TheVariants.{Outer}
use Rattle.element_store.specs.declared.numbers.FileNo.{FileNo}
use Rattle.element_store.specs.declared.outcome.Outcome.{Outcome}
use Rattle.element_store.specs.declared.models.StoredFile.{StoredFile}
use Rattle.element_store.specs.Model.{Data}
use Rattle.element_store.specs.Stored.{AreFiles, with_model}
use Rattle.link_model.specs.declared.keys.LinkKey.{LinkKey}
use Rattle.link_model.specs.declared.keys.LinkFact.{LinkFact}
use Rattle.link_model.specs.declared.keys.LinkFact.TheVariants.{File}
use Rattle.link_model.specs.Keys.{same_key}
use Rattle.link_model.specs.Linking.{rule, link_meaning}
use Rattle.link_model.specs.Outside.{keys_in, keys_of, library_of, seen_in}
use Rattle.link_model.proofs.ArrivalLaws.{arrival_keeps}
use Rattle.link_model.proofs.EditLaws.{edit_keeps}
use Rattle.kept_links.specs.Facts.{facts_of}
use Rattle.kept_links.proofs.EditedLaws.{agree, at_number, bare_root, both_same, differ, elsewhere, looked_at, looks_keyed, own_file}
use Rattle.kept_links.proofs.FactLaws.{no_root}
use Rattle.kept_links.proofs.RightLaws.{Alters}
use Rattle.kept_links.proofs.StandingLaws.{key_stands, stands_key, in_file, of_file, none_stand, same_file}

-- the last file's name stands nowhere before it
last_named : (files : List StoredFile) (s : StoredFile) → IsMember (map (λ y. y.name) (files ++ s ∷ [])) s.name
last_named [] s = inl refl
last_named (x ∷ files) s = inr (last_named files s)

pub named_once : (files : List StoredFile) (s : StoredFile) → IsEachOnce (map (λ y. y.name) (files ++ s ∷ [])) → IsMember (map (λ y. y.name) files) s.name → ⊥
named_once [] s h m = m
named_once (x ∷ files) s h (inl e) = h.0 (subst (IsMember (map (λ y. y.name) (files ++ s ∷ []))) (sym e) (last_named files s))
named_once (x ∷ files) s h (inr m) = named_once files s h.1 m

-- the files before the last one
more_same : (files : List StoredFile) (s : StoredFile) (i : ℕ) → (i ≡ length files → ⊥) → slice_get (files ++ s ∷ []) i ≡ slice_get files i
more_same [] s zero off = absurd (off refl)
more_same [] s (suc i) off = refl
more_same (x ∷ files) s zero off = refl
more_same (x ∷ files) s (suc i) off = more_same files s i (λ e. off (ap suc e))

last_there : (files : List StoredFile) (s : StoredFile) → slice_get (files ++ s ∷ []) (length files) ≡ Some s
last_there [] s = refl
last_there (x ∷ files) s = last_there files s

no_last : (files : List StoredFile) → slice_get files (length files) ≡ None
no_last [] = refl
no_last (x ∷ files) = no_last files

pub last_model : (files : List StoredFile) (s : StoredFile) (m : Option Data)
    → with_model (files ++ s ∷ []) (length files) m ≡ files ++ record s { model = m } ∷ []
last_model [] s m = refl
last_model (x ∷ files) s m = ap (λ (fs : List StoredFile). x ∷ fs) (last_model files s m)

module _ (files : List StoredFile) (f : FileNo) (s : StoredFile) (last : f.0 ≡ length files) (are : AreFiles (files ++ s ∷ [])) (own : s.library ≡ false) where
  bare : StoredFile
  bare = record s { model = None }

  -- the files with the new one, before its text came
  before : List StoredFile
  before = files ++ record s { model = None } ∷ []

  facts : List (Fact LinkKey LinkFact)
  facts = facts_of f (Some s)

  bare_there : slice_get (files ++ record s { model = None } ∷ []) f.0 ≡ Some (record s { model = None })
  bare_there = subst (λ n. slice_get (files ++ record s { model = None } ∷ []) n ≡ Some (record s { model = None })) (sym last)
      (last_there files (record s { model = None }))

  after_is : with_model (files ++ record s { model = None } ∷ []) f.0 s.model ≡ files ++ s ∷ []
  after_is = ap (λ n. with_model (files ++ record s { model = None } ∷ []) n s.model) last ∙ last_model files (record s { model = None }) s.model

  -- a reference of another file stands before and after
  stood : (k : LinkKey) → (k.0.file.0 ≡ f.0 → ⊥) → slice_get (files ++ s ∷ []) k.0.file.0 ≡ slice_get files k.0.file.0
  stood k off = more_same files s k.0.file.0 (λ e. off (e ∙ sym last))

  none_new : (k : LinkKey) → k.0.file.0 ≡ f.0 → IsMember (keys_of files) k → ⊥
  none_new k same i = none_stand files k (λ t at. absurd (nowhere t at)) (key_stands files k i)
    where
      nowhere : (t : StoredFile) → slice_get files k.0.file.0 ≡ Some t → ⊥
      nowhere t at =
          let here : None ≡ Some t = sym (no_last files) ∙ subst (λ (n : ℕ). slice_get files n ≡ Some t) (same ∙ last) at in cc

  arrived_alike : (k : LinkKey)
      → ((x : Fact LinkKey LinkFact) → IsMember (facts_of f (Some s)) x → IsMember (looked_at files (least same_key (link_meaning files)) k) x → ⊥)
      → (t : Decided LinkKey Outcome)
      → rule (library_of (files ++ record s { model = None } ∷ [])) k (world (seen_in (files ++ record s { model = None } ∷ [])) t)
      ≡ rule (library_of files) k (world (seen_in files) (least same_key (link_meaning files)))
      → rule (library_of (files ++ s ∷ [])) k (world (seen_in (files ++ s ∷ [])) t)
      ≡ rule (library_of files) k (world (seen_in files) (least same_key (link_meaning files)))
  arrived_alike k avoids t first =
      let looks = (both_same files (files ++ record s { model = None } ∷ []) k (least same_key (link_meaning files)) t first).1 in
      let apart : (x : Fact LinkKey LinkFact) → IsMember (facts_of f (Some s)) x → IsMember (looked_at (files ++ record s { model = None } ∷ []) t k) x → ⊥ =
      λ x given look. avoids x given (subst (λ (xs : List (Fact LinkKey LinkFact)). IsMember xs x) looks look) in
      subst (λ (fs : List StoredFile). rule (library_of fs) k (world (seen_in fs) t)
      ≡ rule (library_of files) k (world (seen_in files) (least same_key (link_meaning files)))) after_is
      (edit_keeps (files ++ record s { model = None } ∷ []) f.0 (record s { model = None }) s.model bare_there own t t k (λ q m. refl)
      (elsewhere (files ++ record s { model = None } ∷ []) f (record s { model = None }) s.model bare_there own (facts_of f (Some s)) (inl refl)
      (λ x out. record { before = bare_root f (record s { model = None }) x refl; after = no_root f s x out }) t k apart)
      ∙ first)

  pub arrival_alters : Alters same_key (link_meaning files) (link_meaning (files ++ s ∷ [])) (facts_of f (Some s)) (keys_in (record { number = f; file = s }))
  arrival_alters = record {
    alike = λ k i j avoids t fits agrees.
        both_same files (files ++ s ∷ []) k (least same_key (link_meaning files)) t
        (arrived_alike k avoids t
        (arrival_keeps files (record s { model = None }) (named_once files s are.names) refl own (least same_key (link_meaning files)) t k agrees
        (λ g look same. avoids (Outer (File g)) (at_number (facts_of f (Some s)) f g (same ∙ sym last) (inl refl)) look)));
    keyed = λ k q i look. looks_keyed files (least same_key (link_meaning files)) k q look;
    lost = λ k i out. absurd (out (stands_key (files ++ s ∷ []) k
        (same_file files (files ++ s ∷ []) k (sym (stood k (λ same. none_new k same i))) (key_stands files k i))));
    come = λ k i. elim (bool_cases (nat_eq k.0.file.0 f.0)) [
      | inl a ↦ inr (in_file (files ++ s ∷ []) f s k
          (subst (λ (n : ℕ). slice_get (files ++ s ∷ []) n ≡ Some s) (sym last) (last_there files s)) (agree k.0.file.0 f.0 a)
          (key_stands (files ++ s ∷ []) k i))
      | inr b ↦ inl (stands_key files k
          (same_file (files ++ s ∷ []) files k (stood k (differ k.0.file.0 f.0 b)) (key_stands (files ++ s ∷ []) k i)))
    ];
    fresh = λ k i j. none_new k (ap (λ (g : FileNo). g.0) (of_file f s k i)) j;
  }
