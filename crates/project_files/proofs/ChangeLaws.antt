-- What a change of one file, or one file more, leaves.
use Rattle.std.proofs.Common.{◌≡◌, ◌∙◌, ℕ, zero, suc, ◌+◌, ◌<◌, List, [], ◌∷◌, ◌++◌, length, map, refl, sym, ap, subst, arith, slice_set, zero-add}
use Rattle.std.specs.Prelude.{Option, Some, None, slice_get}
use Rattle.element_store.specs.declared.numbers.FileNo.{FileNo}
use Rattle.element_store.specs.declared.models.StoredFile.{StoredFile}
use Rattle.element_store.specs.Model.{Data}
use Rattle.element_store.specs.Stored.{with_model}
use Rattle.book_model.specs.Files.{ProjectFile, name_at}
use Rattle.project_files.specs.declared.files.Kept.{Kept}
use Rattle.project_files.specs.Kept.{content_of, file_of, files_of, with_content_at, IsByFault, IsKept, IsKeptWith, MayKeep, AreKeptFrom, AreKept}
use Rattle.project_files.proofs.KeptLaws.{name_kept}

-- as many are kept as files are stored
pub kept_long : (n : ℕ) (xs : List StoredFile) (ks : List (Option Kept)) → AreKeptFrom n xs ks → length ks ≡ length xs
kept_long n [] [] kept = refl
kept_long n [] (k ∷ ks) kept = absurd kept
kept_long n (x ∷ xs) [] kept = absurd kept
kept_long n (x ∷ xs) (k ∷ ks) kept = ap suc (kept_long (suc n) xs ks kept.1)

-- what is kept after a change of one file
changed_from : (n : ℕ) (xs : List StoredFile) (ks : List (Option Kept)) (i : ℕ) (m : Option Data) (k : Option Kept) → AreKeptFrom n xs ks → i < length xs
    → ((x : StoredFile) → slice_get xs i ≡ Some x → IsKept (record { 0 = n + i }) (record x { model = m }) k)
    → AreKeptFrom n (with_model xs i m) (slice_set ks i k)
changed_from n [] ks i m k kept lt own = absurd (omega (arith, lt))
changed_from n (x ∷ xs) [] i m k kept lt own = absurd kept
changed_from n (x ∷ xs) (o ∷ ks) zero m k kept lt own =
    let number : n + 0 ≡ n = omega arith in
    (subst (λ j. IsKept (record { 0 = j }) (record x { model = m }) k) number (own x refl), kept.1)
changed_from n (x ∷ xs) (o ∷ ks) (suc i) m k kept lt own =
    let number : n + suc i ≡ suc n + i = omega arith in (
      kept.0,
      changed_from (suc n) xs ks i m k kept.1 (omega (arith, lt))
          (λ y at. subst (λ j. IsKept (record { 0 = j }) (record y { model = m }) k) number (own y at)),
    )

-- and the files
pub changed_files : (n : ℕ) (xs : List StoredFile) (ks : List (Option Kept)) (i : ℕ) (m : Option Data) (k : Option Kept) → AreKeptFrom n xs ks
    → files_of (with_model xs i m) (slice_set ks i k) ≡ with_content_at (files_of xs ks) i (content_of m k)
changed_files n [] [] i m k kept = refl
changed_files n [] (o ∷ ks) i m k kept = absurd kept
changed_files n (x ∷ xs) [] i m k kept = absurd kept
changed_files n (x ∷ xs) (o ∷ ks) zero m k kept = refl
changed_files n (x ∷ xs) (o ∷ ks) (suc i) m k kept = ap (λ fs. file_of x o ∷ fs) (changed_files (suc n) xs ks i m k kept.1)

-- a text that may be kept is
pub put_kept : (xs : List StoredFile) (ks : List (Option Kept)) (files : List ProjectFile) → AreKept xs ks → files_of xs ks ≡ files
    → (f : FileNo) (k : Kept) (d : Data) → f.0 < length xs → MayKeep f (name_at files f) k d → AreKept (with_model xs f.0 (Some d)) (slice_set ks f.0 (Some k))
put_kept xs ks files kept view f k d lt may =
    changed_from 0 xs ks f.0 (Some d) (Some k) kept lt (λ x at.
    let number : f.0 ≡ 0 + f.0 = sym (zero-add f.0) in
    let name : name_at files f ≡ x.name = sym (name_kept xs ks kept f x at ∙ ap (λ fs. name_at fs f) view) in
    let own : IsKeptWith f (record x { model = Some d }) k = record {
      model = d;
      has = refl;
      fault = subst (λ bytes. IsByFault f bytes k.fault d) name may.fault;
      spellable = may.spellable;
      places = may.places;
      within = may.within;
    } in
    subst (λ j. IsKept (record { 0 = j }) (record x { model = Some d }) (Some k)) number own)

-- a file whose text is let go has no model
pub clear_kept : (xs : List StoredFile) (ks : List (Option Kept)) (i : ℕ) → AreKept xs ks → i < length xs → AreKept (with_model xs i None) (slice_set ks i None)
clear_kept xs ks i kept lt = changed_from 0 xs ks i None None kept lt (λ x at. refl)

-- one file more, without a text
pub added_kept : (n : ℕ) (xs : List StoredFile) (ks : List (Option Kept)) (x : StoredFile) → x.model ≡ None → AreKeptFrom n xs ks
    → AreKeptFrom n (xs ++ x ∷ []) (ks ++ None ∷ [])
added_kept n [] [] x none kept = (none, tt)
added_kept n [] (k ∷ ks) x none kept = absurd kept
added_kept n (y ∷ xs) [] x none kept = absurd kept
added_kept n (y ∷ xs) (k ∷ ks) x none kept = (kept.0, added_kept (suc n) xs ks x none kept.1)

-- and the files
pub added_files : (n : ℕ) (xs : List StoredFile) (ks : List (Option Kept)) (x : StoredFile) → AreKeptFrom n xs ks
    → files_of (xs ++ x ∷ []) (ks ++ None ∷ []) ≡ files_of xs ks ++ file_of x None ∷ []
added_files n [] [] x kept = refl
added_files n [] (k ∷ ks) x kept = absurd kept
added_files n (y ∷ xs) [] x kept = absurd kept
added_files n (y ∷ xs) (k ∷ ks) x kept = ap (λ fs. file_of y k ∷ fs) (added_files (suc n) xs ks x kept.1)

-- the names of the files are those that are stored
pub names_kept : (n : ℕ) (xs : List StoredFile) (ks : List (Option Kept)) → AreKeptFrom n xs ks
    → map (λ (x : StoredFile). x.name) xs ≡ map (λ (f : ProjectFile). f.name) (files_of xs ks)
names_kept n [] [] kept = refl
names_kept n [] (k ∷ ks) kept = absurd kept
names_kept n (x ∷ xs) [] kept = absurd kept
names_kept n (x ∷ xs) (k ∷ ks) kept = ap (λ names. x.name ∷ names) (names_kept (suc n) xs ks kept.1)
