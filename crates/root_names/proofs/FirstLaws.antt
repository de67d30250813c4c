-- The names of roots, file after file.
use Rattle.std.proofs.Common.{◌≡◌, ℕ, ◌+◌, ◌≤◌, zero, suc, Bool, true, false, List, [], ◌∷◌, map, length, refl, sym, ◌∙◌, ap, subst, arith, add-one}
use Rattle.std.specs.Prelude.{Some, None, Option, slice_get}
use Rattle.std.specs.Option.{option_and_then}
use Rattle.linker_base.specs.Members.{IsEachOnce}
use Rattle.element_store.specs.declared.numbers.FileNo.{FileNo}
use Rattle.element_store.specs.declared.numbers.MemberNo.{MemberNo}
use Rattle.element_store.specs.declared.models.StoredFile.{StoredFile}
use Rattle.element_store.specs.BaseRules.{model_of}
use Rattle.element_store.specs.Stored.{with_model}
use Rattle.root_names.specs.Firsts.{first_models}
use Rattle.root_names.specs.Roots.{Entries, Tables, AreRootsOf, HaveNoModel}
use Rattle.root_names.specs.Steps.{HasOthers, IsPut, is_behind, own_roots, stand_so}
use Rattle.root_names.proofs.KeepLaws.{library_others, project_others, library_in, project_in}

-- with the model of the next file, and without it
pub next_less : (files : List StoredFile) (k : ℕ) → with_model (first_models (suc k) files) k None ≡ first_models k files
next_less [] k = refl
next_less (s ∷ files) zero = refl
next_less (s ∷ files) (suc k) = ap (λ fs. s ∷ fs) (next_less files k)

-- the next file has its model
pub next_there : (files : List StoredFile) (k : ℕ) → slice_get (first_models (suc k) files) k ≡ slice_get files k
next_there [] k = refl
next_there (s ∷ files) zero = refl
next_there (s ∷ files) (suc k) = next_there files k

-- names and their order don't hang on models
pub names_kept : (files : List StoredFile) (n : ℕ) → map (λ x. x.name) (first_models n files) ≡ map (λ x. x.name) files
names_kept [] n = refl
names_kept (s ∷ files) zero = ap (λ ns. s.name ∷ ns) (names_kept files zero)
names_kept (s ∷ files) (suc n) = ap (λ ns. s.name ∷ ns) (names_kept files n)

-- what of a file its place hangs on
abbrev bare : Option StoredFile → Option StoredFile
bare None = None
bare (Some s) = Some (record s { model = None })

bare_kept : (files : List StoredFile) (n k : ℕ) → bare (slice_get (first_models n files) k) ≡ bare (slice_get files k)
bare_kept [] n k = refl
bare_kept (s ∷ files) zero zero = refl
bare_kept (s ∷ files) zero (suc k) = bare_kept files zero k
bare_kept (s ∷ files) (suc n) zero = refl
bare_kept (s ∷ files) (suc n) (suc k) = bare_kept files n k

so_bare : (s t : Option StoredFile) → stand_so s t ≡ stand_so (bare s) (bare t)
so_bare None t = refl
so_bare (Some a) None = refl
so_bare (Some a) (Some b) = refl

pub behind_kept : (files : List StoredFile) (n : ℕ) (f : FileNo) → is_behind (first_models n files) f ≡ is_behind files f
behind_kept files n f = λ i m. behind_at m i
  where
    behind_at : (m : MemberNo) → is_behind (first_models n files) f m ≡ is_behind files f m
    behind_at m =
        so_bare (slice_get (first_models n files) f.0) (slice_get (first_models n files) m.file.0)
        ∙ ((λ i. stand_so (bare_kept files n f.0 i) (bare_kept files n m.file.0 i))
        ∙ sym (so_bare (slice_get files f.0) (slice_get files m.file.0)))

-- at first no file has a model, and in the end each has its own
pub none_first : (files : List StoredFile) → HaveNoModel (first_models 0 files)
none_first [] f s at = cc
none_first (x ∷ files) zero s at = let same : record x { model = None } ≡ s = cc in sym (ap (λ (y : StoredFile). y.model) same)
none_first (x ∷ files) (suc f) s at = none_first files f s at

pub all_first : (files : List StoredFile) (n : ℕ) → length files ≤ n → first_models n files ≡ files
all_first [] n long = refl
all_first (s ∷ files) zero long = absurd (omega (arith, long))
all_first (s ∷ files) (suc n) long = ap (λ fs. s ∷ fs) (all_first files n (omega (arith, long)))

-- ---- the next file's roots among those of the files before it

module _ (files : List StoredFile) (k : FileNo) (s : StoredFile) (at : slice_get files k.0 ≡ Some s) (once : IsEachOnce (map (λ y. y.name) files))
    (t : Tables) (new : Entries) where
  abbrev more : List StoredFile
  more = first_models (k.0 + 1) files

  there : slice_get more k.0 ≡ Some s
  there = ap (λ n. slice_get (first_models n files) k.0) (add-one k.0) ∙ (next_there files k.0 ∙ at)

  fresh : IsEachOnce (map (λ y. y.name) more)
  fresh = subst IsEachOnce (sym (names_kept files (k.0 + 1))) once

  before : AreRootsOf (first_models k.0 files) t → AreRootsOf (with_model more k.0 None) t
  before roots = subst (λ (fs : List StoredFile). AreRootsOf fs t) (sym (ap (λ n. with_model (first_models n files) k.0 None) (add-one k.0)
      ∙ next_less files k.0)) roots

  -- its own roots, put where they are to stand
  put_so : (old : Entries) → IsPut (is_behind files k) (own_roots k (model_of files k.0)) old new
      → IsPut (is_behind more k) (own_roots k (model_of more k.0)) old new
  put_so old put = subst (λ (o : Option StoredFile). IsPut (is_behind more k) (own_roots k (option_and_then (λ y. y.model) o)) old new) (at ∙ sym there)
      (subst (λ (test : MemberNo → Bool). IsPut test (own_roots k (model_of files k.0)) old new) (sym (behind_kept files (k.0 + 1) k)) put)

  pub library_apart : AreRootsOf (first_models k.0 files) t → HasOthers k t.library
  library_apart roots = library_others more k s there fresh t new (before roots)

  pub project_apart : AreRootsOf (first_models k.0 files) t → HasOthers k t.project
  project_apart roots = project_others more k s there fresh t new (before roots)

  pub library_entered : s.library ≡ true → AreRootsOf (first_models k.0 files) t
      → IsPut (is_behind files k) (own_roots k (model_of files k.0)) t.library new
      → AreRootsOf more (record { project = t.project; library = new })
  library_entered is roots put = library_in more k s there fresh t new is (before roots) (put_so t.library put)

  pub project_entered : s.library ≡ false → AreRootsOf (first_models k.0 files) t
      → IsPut (is_behind files k) (own_roots k (model_of files k.0)) t.project new
      → AreRootsOf more (record { project = new; library = t.library })
  project_entered is roots put = project_in more k s there fresh t new is (before roots) (put_so t.project put)
