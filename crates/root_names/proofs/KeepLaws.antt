-- The names of the roots of all files, with those of one file and without them.
use Rattle.std.proofs.Common.{◌≡◌, ℕ, Bool, true, false, not, nat_eq, List, [], ◌∷◌, map, refl, sym, ◌∙◌, ap}
use Rattle.std.specs.Prelude.{Some, None, Option, slice_get}
use Rattle.std.specs.Option.{option_and_then}
use Rattle.linker_base.specs.Members.{IsEachOnce}
use Rattle.element_store.specs.declared.numbers.FileNo.{FileNo}
use Rattle.element_store.specs.declared.numbers.MemberNo.{MemberNo}
use Rattle.element_store.specs.declared.models.StoredFile.{StoredFile}
use Rattle.element_store.specs.Model.{Data}
use Rattle.element_store.specs.Readings.{is_any}
use Rattle.element_store.specs.Stored.{with_model}
use Rattle.element_store.specs.BaseRules.{model_of}
use Rattle.link_model.specs.Outside.{Numbered, root_members, project_roots, library_roots}
use Rattle.link_model.proofs.EditLaws.{remodelled, library_kept}
use Rattle.root_names.specs.Roots.{Entries, Tables, AreRootsOf}
use Rattle.root_names.specs.Steps.{others, left, put_each, is_behind, own_roots, IsPut, IsTaken, HasOthers, IsAsBefore}
use Rattle.root_names.proofs.PutLaws.{others_twice}
use Rattle.root_names.proofs.FileLaws.{put_among, others_left, not_among}

own_members : (x : List ℕ) (f : FileNo) (s : StoredFile) (o : Option Data)
    → own_roots f o x ≡ root_members x (record { number = f; file = record s { model = o } })
own_members x f s None = refl
own_members x f s (Some d) = refl

-- where nothing is taken, none was there
none_left : (f : FileNo) (ms with_it without : List MemberNo) (test : MemberNo → Bool) → with_it ≡ put_each test ms without → others f with_it ≡ without
    → left f (is_any ms) with_it ≡ without
none_left f [] with_it without test put other = put
none_left f (m ∷ ms) with_it without test put other = other

module _ (files : List StoredFile) (f : FileNo) (s : StoredFile) (at : slice_get files f.0 ≡ Some s) (once : IsEachOnce (map (λ y. y.name) files)) where
  abbrev less : List StoredFile
  less = with_model files f.0 None

  abbrev own : List ℕ → List MemberNo
  own = own_roots f (model_of files f.0)

  own_is : (x : List ℕ) → own x ≡ root_members x (record { number = f; file = s })
  own_is x = ap (λ (o : Option StoredFile). own_roots f (option_and_then (λ y. y.model) o) x) at ∙ own_members x f s s.model

  abbrev edited : Numbered → Numbered
  edited t = remodelled f.0 None t

  library_blind : (t : Numbered) → (edited t).file.library ≡ t.file.library
  library_blind t = library_kept (nat_eq t.number.0 f.0) None t

  project_blind : (t : Numbered) → not (edited t).file.library ≡ not t.file.library
  project_blind t = ap not (library_blind t)

  -- a library file among those of the library, and a project file among those of the project
  library_put : s.library ≡ true → (x : List ℕ) → library_roots files x ≡ put_each (is_behind files f) (own x) (library_roots less x)
  library_put is x =
      put_among files f s at x (λ u. u.library) library_blind once is
      ∙ ap (λ ms. put_each (is_behind files f) ms (library_roots less x)) (sym (own_is x))

  project_put : s.library ≡ false → (x : List ℕ) → project_roots files x ≡ put_each (is_behind files f) (own x) (project_roots less x)
  project_put is x =
      put_among files f s at x (λ u. not u.library) project_blind once (ap not is)
      ∙ ap (λ ms. put_each (is_behind files f) ms (project_roots less x)) (sym (own_is x))

  library_left : (x : List ℕ) → others f (library_roots files x) ≡ library_roots less x
  library_left x = others_left files f s at x (λ u. u.library) library_blind

  project_left : (x : List ℕ) → others f (project_roots files x) ≡ project_roots less x
  project_left x = others_left files f s at x (λ u. not u.library) project_blind

  -- the other table stays
  library_stays : s.library ≡ false → (x : List ℕ) → library_roots files x ≡ library_roots less x
  library_stays is x = not_among files f s at x (λ u. u.library) library_blind is

  project_stays : s.library ≡ true → (x : List ℕ) → project_roots files x ≡ project_roots less x
  project_stays is x = not_among files f s at x (λ u. not u.library) project_blind (ap not is)

  module _ (t : Tables) (new : Entries) where
    pub library_others : AreRootsOf less t → HasOthers f t.library
    library_others old x =
        ap (others f) (old.library x ∙ sym (library_left x)) ∙ others_twice f (library_roots files x) ∙ library_left x ∙ sym (old.library x)

    pub project_others : AreRootsOf less t → HasOthers f t.project
    project_others old x =
        ap (others f) (old.project x ∙ sym (project_left x)) ∙ others_twice f (project_roots files x) ∙ project_left x ∙ sym (old.project x)

    pub library_in : s.library ≡ true → AreRootsOf less t → IsPut (is_behind files f) own t.library new
        → AreRootsOf files (record { project = t.project; library = new })
    library_in is old put = record {
      project = λ x. old.project x ∙ sym (project_stays is x);
      library = λ x. put x ∙ ap (put_each (is_behind files f) (own x)) (old.library x) ∙ sym (library_put is x);
    }

    pub project_in : s.library ≡ false → AreRootsOf less t → IsPut (is_behind files f) own t.project new
        → AreRootsOf files (record { project = new; library = t.library })
    project_in is old put = record {
      project = λ x. put x ∙ ap (put_each (is_behind files f) (own x)) (old.project x) ∙ sym (project_put is x);
      library = λ x. old.library x ∙ sym (library_stays is x);
    }

    pub library_out : s.library ≡ true → AreRootsOf files t → IsTaken f own t.library new → AreRootsOf less (record { project = t.project; library = new })
    library_out is old taken = record {
      project = λ x. old.project x ∙ project_stays is x;
      library = λ x. taken x ∙ ap (left f (is_any (own x))) (old.library x)
          ∙ none_left f (own x) (library_roots files x) (library_roots less x) (is_behind files f) (library_put is x) (library_left x);
    }

    pub project_out : s.library ≡ false → AreRootsOf files t → IsTaken f own t.project new → AreRootsOf less (record { project = new; library = t.library })
    project_out is old taken = record {
      project = λ x. taken x ∙ ap (left f (is_any (own x))) (old.project x)
          ∙ none_left f (own x) (project_roots files x) (project_roots less x) (is_behind files f) (project_put is x) (project_left x);
      library = λ x. old.library x ∙ library_stays is x;
    }

    pub library_same : AreRootsOf less t → IsAsBefore t.library new → AreRootsOf less (record { project = t.project; library = new })
    library_same old same = record { project = old.project; library = λ x. same x ∙ old.library x }

    pub project_same : AreRootsOf less t → IsAsBefore t.project new → AreRootsOf less (record { project = new; library = t.library })
    project_same old same = record { project = λ x. same x ∙ old.project x; library = old.library }
