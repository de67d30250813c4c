-- What is kept of a file is what the files have.
use Rattle.std.proofs.Common.{◌++◌, Result, append_assoc, inl, inr, ◌≡◌, ◌∙◌, ℕ, zero, suc, ◌+◌, ◌<◌, List, [], ◌∷◌, length, refl, sym, ap, subst, arith, zero-add}
use Rattle.std.specs.Prelude.{Option, Some, None, slice_get, option_and_then}
use Rattle.std.specs.Option.{option_map_or}
use Rattle.std.specs.Result.{OnOk}
use Rattle.std.proofs.lemmas.Option.{slice_get_within}
use Rattle.linker_base.proofs.Cases.{some_same, option_cases}
use Rattle.element_store.specs.declared.numbers.FileNo.{FileNo}
use Rattle.element_store.specs.declared.numbers.RefNo.{RefNo}
use Rattle.element_store.specs.declared.records.Reference.{Reference}
use Rattle.element_store.specs.declared.models.StoredFile.{StoredFile}
use Rattle.element_store.specs.declared.outcome.Language.TheVariants.{Sysml}
use Rattle.element_store.specs.Model.{Data, bare_model}
use Rattle.element_store.specs.BaseRules.{model_of}
use Rattle.text_model.specs.declared.fault.FileFault.{FileFault}
use Rattle.link_model.specs.Outside.{model_in}
use Rattle.book_model.specs.Readings.{language_of, model_by}
use Rattle.book_model.specs.Files.{ProjectFile, model_at, name_at, stored, stored_file, stored_from, text_at, text_of}
use Rattle.book_model.specs.Queries.{text_of_reference, written_in}
use Rattle.project_files.specs.declared.files.Kept.{Kept}
use Rattle.project_files.specs.Kept.{content_at, own_kept, StandsWithin, reading_of, file_of, files_of, content_of, IsByFault, IsKept, IsKeptWith, AreKeptFrom, AreKept}

-- the model of a reading is the one that is kept
read_model : (number : FileNo) (name : List ℕ) (fault : Option FileFault) (d : Data) → IsByFault number name fault d
    → model_by number (language_of name) (reading_of fault (Some d)) ≡ d
read_model number name None d is = refl
read_model number name (Some fault) d is = sym is

-- links see the file that is stored
stored_one : (number : FileNo) (x : StoredFile) (k : Option Kept) → IsKept number x k → stored_file number (file_of x k) ≡ x
stored_one number x None none = ap (λ m. record x { model = m }) (sym none)
stored_one number x (Some k) kept =
    let same : model_by number (language_of x.name) (reading_of k.fault x.model) ≡ kept.model =
    ap (λ m. model_by number (language_of x.name) (reading_of k.fault m)) kept.has ∙ read_model number x.name k.fault kept.model kept.fault in
    ap (λ m. record x { model = m }) (ap Some same ∙ sym kept.has)

-- links see the files that are stored
stored_all : (n : ℕ) (xs : List StoredFile) (ks : List (Option Kept)) → AreKeptFrom n xs ks → stored_from n (files_of xs ks) ≡ xs
stored_all n [] [] kept = refl
stored_all n [] (k ∷ ks) kept = absurd kept
stored_all n (x ∷ xs) [] kept = absurd kept
stored_all n (x ∷ xs) (k ∷ ks) kept =
    let one = stored_one (record { 0 = n }) x k kept.0 in
    let more = stored_all (suc n) xs ks kept.1 in
    λ i. one i ∷ more i

-- links see the models that are kept
pub stored_kept : (xs : List StoredFile) (ks : List (Option Kept)) → AreKept xs ks → stored (files_of xs ks) ≡ xs
stored_kept xs ks kept = stored_all 0 xs ks kept

-- what is kept of the file at a place
record At (n : ℕ) (xs : List StoredFile) (ks : List (Option Kept)) (i : ℕ) (x : StoredFile) : Type 0 where
  own : Option Kept
  stands : slice_get ks i ≡ Some own
  file : slice_get (files_of xs ks) i ≡ Some (file_of x own)
  kept : IsKept (record { 0 = n + i }) x own

-- it stands there
at_place : (n : ℕ) (xs : List StoredFile) (ks : List (Option Kept)) → AreKeptFrom n xs ks → (i : ℕ) (x : StoredFile) → slice_get xs i ≡ Some x → At n xs ks i x
at_place n [] ks kept i x at = absurd (cc)
at_place n (y ∷ xs) [] kept i x at = absurd kept
at_place n (y ∷ xs) (k ∷ ks) kept zero x at =
    let same = some_same y x at in
    let number : n ≡ n + 0 = omega arith in
    record {
      own = k;
      stands = refl;
      file = ap (λ z. Some (file_of z k)) same;
      kept = subst (λ z. IsKept (record { 0 = n + 0 }) z k) same (subst (λ m. IsKept (record { 0 = m }) y k) number kept.0);
    }
at_place n (y ∷ xs) (k ∷ ks) kept (suc i) x at =
    let more = at_place (suc n) xs ks kept.1 i x at in
    let number : suc n + i ≡ n + suc i = omega arith in
    record { own = more.own; stands = more.stands; file = more.file; kept = subst (λ m. IsKept (record { 0 = m }) x more.own) number more.kept }

-- as many files as are stored
pub files_long : (n : ℕ) (xs : List StoredFile) (ks : List (Option Kept)) → AreKeptFrom n xs ks → length (files_of xs ks) ≡ length xs
files_long n [] [] kept = refl
files_long n [] (k ∷ ks) kept = absurd kept
files_long n (x ∷ xs) [] kept = absurd kept
files_long n (x ∷ xs) (k ∷ ks) kept = ap suc (files_long (suc n) xs ks kept.1)

-- the name of a file is the one that is stored
pub name_kept : (xs : List StoredFile) (ks : List (Option Kept)) → AreKept xs ks → (f : FileNo) (x : StoredFile) → slice_get xs f.0 ≡ Some x
    → x.name ≡ name_at (files_of xs ks) f
name_kept xs ks kept f x at =
    let own = at_place 0 xs ks kept f.0 x at in
    sym (ap (λ o. option_map_or (λ (file : ProjectFile). file.name) o []) own.file)

-- a file that has a model, with what is kept of it
pub record HasKept (xs : List StoredFile) (ks : List (Option Kept)) (f : FileNo) (d : Data) : Type 0 where
  pub stored : StoredFile
  pub own : Kept
  pub stands : slice_get xs f.0 ≡ Some stored
  pub kept : slice_get ks f.0 ≡ Some (Some own)
  pub text : own.text ≡ text_at (files_of xs ks) f
  pub model : d ≡ model_at (files_of xs ks) f
  pub with_it : IsKeptWith f stored own
  pub same : with_it.model ≡ d

-- what is kept of a file with a model, by cases
kept_by : (xs : List StoredFile) (ks : List (Option Kept)) → AreKept xs ks → (f : FileNo) (d : Data) (x : StoredFile) (own : Option Kept)
    → slice_get xs f.0 ≡ Some x → x.model ≡ Some d → slice_get ks f.0 ≡ Some own → slice_get (files_of xs ks) f.0 ≡ Some (file_of x own) → IsKept f x own
    → HasKept xs ks f d
kept_by xs ks kept f d x None stands has at file none = absurd (cc)
kept_by xs ks kept f d x (Some k) stands has at file with_it =
    let seen : model_at (files_of xs ks) f ≡ d =
    ap (λ s. model_in (slice_get s f.0)) (stored_kept xs ks kept) ∙ ap model_in stands
    ∙ ap (λ o. option_map_or (λ (e : Data). e) o (bare_model (record { 0 = 0 }) Sysml)) has in
    record {
      stored = x;
      own = k;
      stands = stands;
      kept = at;
      text = sym (ap (λ o. option_map_or text_of o []) file);
      model = sym seen;
      with_it = with_it;
      same = some_same with_it.model d (sym with_it.has ∙ has);
    }

-- it is kept
pub has_kept : (xs : List StoredFile) (ks : List (Option Kept)) → AreKept xs ks → (f : FileNo) (d : Data) → model_of xs f.0 ≡ Some d → HasKept xs ks f d
has_kept xs ks kept f d has = elim (option_cases (slice_get xs f.0)) [
  | inl none ↦ let nothing = ap (option_and_then (λ (x : StoredFile). x.model)) none in absurd (cc)
  | inr found ↦
      let own = at_place 0 xs ks kept f.0 found.0 found.1 in
      let model : found.0.model ≡ Some d = sym (ap (option_and_then (λ (x : StoredFile). x.model)) found.1) ∙ has in
      let number : 0 + f.0 ≡ f.0 = zero-add f.0 in
      kept_by xs ks kept f d found.0 own.own found.1 model own.stands own.file (subst (λ n. IsKept (record { 0 = n }) found.0 own.own) number own.kept)
]

-- the models of the files that links see
pub seen_model : (xs : List StoredFile) (ks : List (Option Kept)) (files : List ProjectFile) → AreKept xs ks → files_of xs ks ≡ files → (f : FileNo) (d : Data)
    → model_of (stored files) f.0 ≡ Some d → model_of xs f.0 ≡ Some d
seen_model xs ks files kept view f d has = ap (λ s. model_of s f.0) (sym (stored_kept xs ks kept) ∙ ap stored view) ∙ has

-- a stored file stands at each number below their count
pub stored_at : (xs : List StoredFile) (i : ℕ) → i < length xs → (x : StoredFile) × (slice_get xs i ≡ Some x)
stored_at [] i lt = absurd (omega (arith, lt))
stored_at (x ∷ xs) zero lt = (x, refl)
stored_at (x ∷ xs) (suc i) lt = stored_at xs i (omega (arith, lt))

-- as many files as links see
stored_long : (n : ℕ) (files : List ProjectFile) → length (stored_from n files) ≡ length files
stored_long n [] = refl
stored_long n (f ∷ fs) = ap suc (stored_long (suc n) fs)

-- a model is that of a file
model_found : (o : Option StoredFile) (d : Data) → option_and_then (λ (x : StoredFile). x.model) o ≡ Some d
    → ((x : StoredFile) × (o ≡ Some x)) × (model_in o ≡ d)
model_found None d has = absurd (cc)
model_found (Some x) d has = ((x, refl), ap (λ m. option_map_or (λ (e : Data). e) m (bare_model (record { 0 = 0 }) Sysml)) has)

-- the file of a model stands
pub live_within : (files : List ProjectFile) (f : FileNo) (d : Data) → model_of (stored files) f.0 ≡ Some d → f.0 < length files
live_within files f d has =
    let found = (model_found (slice_get (stored files) f.0) d has).0 in
    subst (λ n. f.0 < n) (stored_long 0 files) (slice_get_within (stored files) f.0 found.0 found.1)

-- and it is the model of that file
pub live_model : (files : List ProjectFile) (f : FileNo) (d : Data) → model_of (stored files) f.0 ≡ Some d → model_at files f ≡ d
live_model files f d has = (model_found (slice_get (stored files) f.0) d has).1

-- a reference that stands is written as it says
pub reference_written : (files : List ProjectFile) (r : RefNo) (d : Data) → model_of (stored files) r.file.0 ≡ Some d → r.index < length d.references
    → (model : Data) → model ≡ model_at files r.file
    → (x : Reference) × (slice_get model.references r.index ≡ Some x) × (text_of_reference files r ≡ written_in model x)
reference_written files r d has lt model is =
    let same : d ≡ model = sym (live_model files r.file d has) ∙ sym is in
    let found = reference_at d.references r.index lt in
    let at : slice_get model.references r.index ≡ Some found.0 = ap (λ (e : Data). slice_get e.references r.index) (sym same) ∙ found.1 in (
      found.0,
      at,
      ap (λ (e : Data). option_map_or (written_in e) (slice_get e.references r.index) []) (sym is) ∙ ap (λ o. option_map_or (written_in model) o []) at,
    )
  where
    reference_at : (rs : List Reference) (i : ℕ) → i < length rs → (x : Reference) × (slice_get rs i ≡ Some x)
    reference_at [] i lt = absurd (omega (arith, lt))
    reference_at (x ∷ rs) zero lt = (x, refl)
    reference_at (x ∷ rs) (suc i) lt = reference_at rs i (omega (arith, lt))

-- bytes are written behind those that stand
pub behind : (old whole part middle new : List ℕ) → middle ≡ old ++ whole → new ≡ middle ++ part → new ≡ old ++ (whole ++ part)
behind old whole part middle new first second = second ∙ ap (λ bytes. bytes ++ part) first ∙ append_assoc old whole part

-- and so by a last call
pub behind_last : {E : Type 0} (r : Result (Unit {0}) E) (old whole part middle new : List ℕ) → middle ≡ old ++ whole
    → OnOk r (new ≡ middle ++ part) → OnOk r (new ≡ old ++ (whole ++ part))
behind_last r old whole part middle new first second =
    subst (λ bytes. OnOk r (new ≡ bytes)) (ap (λ bytes. bytes ++ part) first ∙ append_assoc old whole part) second

-- the content of a file, by what is kept of it
abbrev ContentBy : ℕ → List StoredFile → Option ProjectFile → ℕ → Option (Option Kept) → Type 0
ContentBy n xs file i (Some (Some k)) = (x : StoredFile) × (slice_get xs i ≡ Some x) × IsKeptWith (record { 0 = n + i }) x k
    × (option_and_then (λ (f : ProjectFile). f.content) file ≡ content_of x.model (Some k))
ContentBy n xs file i other = option_and_then (λ (f : ProjectFile). f.content) file ≡ None

-- what is kept says which content a file has
content_by : (n : ℕ) (xs : List StoredFile) (ks : List (Option Kept)) → AreKeptFrom n xs ks → (i : ℕ)
    → ContentBy n xs (slice_get (files_of xs ks) i) i (slice_get ks i)
content_by n [] [] kept i = refl
content_by n [] (k ∷ ks) kept i = absurd kept
content_by n (x ∷ xs) [] kept i = absurd kept
content_by n (x ∷ xs) (None ∷ ks) kept zero = refl
content_by n (x ∷ xs) (Some k ∷ ks) kept zero =
    let number : n ≡ n + 0 = omega arith in
    (x, refl, subst (λ m. IsKeptWith (record { 0 = m }) x k) number kept.0, refl)
content_by n (x ∷ xs) (k ∷ ks) kept (suc i) = later (slice_get ks i) (content_by (suc n) xs ks kept.1 i) where
  later : (o : Option (Option Kept)) → ContentBy (suc n) xs (slice_get (files_of xs ks) i) i o → ContentBy n (x ∷ xs) (slice_get (files_of xs ks) i) (suc i) o
  later None h = h
  later (Some None) h = h
  later (Some (Some own)) (y, at, with_it, is) =
      let number : suc n + i ≡ n + suc i = omega arith in
      (y, at, subst (λ m. IsKeptWith (record { 0 = m }) y own) number with_it, is)

-- a text that is kept, with its file and its content
pub record HasText (xs : List StoredFile) (files : List ProjectFile) (f : FileNo) (k : Kept) : Type 0 where
  pub model : Data
  pub has : model_of xs f.0 ≡ Some model
  pub with_it : StandsWithin k
  pub content : content_at files f ≡ Some (record { text = k.text; reading = reading_of k.fault (Some model) })

-- the text that is kept at a place is that of the file there
pub has_text : (xs : List StoredFile) (ks : List (Option Kept)) (files : List ProjectFile) → AreKept xs ks → files_of xs ks ≡ files → (f : FileNo) (k : Kept)
    → own_kept ks f.0 ≡ Some k → HasText xs files f k
has_text xs ks files kept view f k at =
    let by : ContentBy 0 xs (slice_get (files_of xs ks) f.0) f.0 (Some (Some k)) =
    subst (ContentBy 0 xs (slice_get (files_of xs ks) f.0) f.0) (both (slice_get ks f.0) at) (content_by 0 xs ks kept f.0) in
    record {
      model = by.2.model;
      has = ap (option_and_then (λ (x : StoredFile). x.model)) by.1 ∙ by.2.has;
      with_it = by.2.within;
      content = ap (λ all. content_at all f) (sym view) ∙ by.3 ∙ ap (λ m. content_of m (Some k)) by.2.has;
    }
  where
    both : (o : Option (Option Kept)) → option_and_then (λ (x : Option Kept). x) o ≡ Some k → o ≡ Some (Some k)
    both None e = absurd (cc)
    both (Some x) e = ap Some e

-- where no text is kept there is no content
pub no_text : (xs : List StoredFile) (ks : List (Option Kept)) (files : List ProjectFile) → AreKept xs ks → files_of xs ks ≡ files → (f : FileNo)
    → own_kept ks f.0 ≡ None → content_at files f ≡ None
no_text xs ks files kept view f at = ap (λ all. content_at all f) (sym view) ∙ by (slice_get ks f.0) at (content_by 0 xs ks kept f.0) where
  by : (o : Option (Option Kept)) → option_and_then (λ (x : Option Kept). x) o ≡ None → ContentBy 0 xs (slice_get (files_of xs ks) f.0) f.0 o
      → content_at (files_of xs ks) f ≡ None
  by None at h = h
  by (Some None) at h = h
  by (Some (Some k)) at h = absurd (cc)
