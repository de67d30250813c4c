-- The references of files, one after another.
use Rattle.std.proofs.Common.{◌≡◌, ◌∙◌, ℕ, ◌+◌, ◌<◌, ◌≤◌, zero, suc, List, [], ◌∷◌, ◌++◌, map, length, drop, refl, sym, ap, subst, arith, add-one, append_assoc, append-nil}
use Rattle.std.specs.Prelude.{Option, Some, None, slice_get}
use Rattle.std.specs.List.{flat_map}
use Rattle.element_store.specs.declared.numbers.FileNo.{FileNo}
use Rattle.element_store.specs.declared.models.StoredFile.{StoredFile}
use Rattle.element_store.specs.Model.{Data}
use Rattle.element_store.specs.Numbers.{places_from}
use Rattle.element_store.specs.BaseRules.{model_of}
use Rattle.link_model.specs.declared.keys.LinkKey.{LinkKey}
use Rattle.link_model.specs.Outside.{numbered_from, keys_in, keys_of}
use Rattle.link_model.specs.Readers.{key}

places_next : {A : Type 0} (n : ℕ) (xs : List A) (i : ℕ) → i < length xs → places_from n (drop i xs) ≡ n ∷ places_from (suc n) (drop (suc i) xs)
places_next n [] i lt = absurd (omega (arith, lt))
places_next n (x ∷ xs) zero lt = refl
places_next n (x ∷ xs) (suc i) lt = places_next n xs i (omega (arith, lt))

places_end : {A : Type 0} (n : ℕ) (xs : List A) (i : ℕ) → length xs ≤ i → places_from n (drop i xs) ≡ []
places_end n [] zero le = refl
places_end n [] (suc i) le = refl
places_end n (x ∷ xs) zero le = absurd (omega (arith, le))
places_end n (x ∷ xs) (suc i) le = places_end n xs i (omega (arith, le))

-- one reference more of a model
pub one_more : {A : Type 0} (f : FileNo) (xs : List A) (i : ℕ) (now new whole : List LinkKey) → i < length xs → new ≡ now ++ key f i ∷ []
    → now ++ map (key f) (places_from i (drop i xs)) ≡ whole → new ++ map (key f) (places_from (i + 1) (drop (i + 1) xs)) ≡ whole
one_more f xs i now new whole lt is before =
    ap (λ n. new ++ map (key f) (places_from n (drop n xs))) (add-one i)
    ∙ (ap (λ ks. ks ++ map (key f) (places_from (suc i) (drop (suc i) xs))) is
    ∙ (append_assoc now (key f i ∷ []) (map (key f) (places_from (suc i) (drop (suc i) xs)))
    ∙ (ap (λ ns. now ++ map (key f) ns) (sym (places_next i xs i lt)) ∙ before)))

pub all_are : {A : Type 0} (f : FileNo) (xs : List A) (i : ℕ) (now whole : List LinkKey) → length xs ≤ i
    → now ++ map (key f) (places_from i (drop i xs)) ≡ whole → now ≡ whole
all_are f xs i now whole le before = sym (append-nil now) ∙ (ap (λ ns. now ++ map (key f) ns) (sym (places_end i xs i le)) ∙ before)

numbered_next : (n : ℕ) (files : List StoredFile) (i : ℕ) (s : StoredFile) → slice_get files i ≡ Some s
    → numbered_from n (drop i files) ≡ record { number = record { 0 = n }; file = s } ∷ numbered_from (suc n) (drop (suc i) files)
numbered_next n [] i s at = cc
numbered_next n (x ∷ files) zero s at =
    let same : x ≡ s = cc in ap (λ y. record { number = record { 0 = n }; file = y } ∷ numbered_from (suc n) files) same
numbered_next n (x ∷ files) (suc i) s at = numbered_next n files i s at

numbered_end : (n : ℕ) (files : List StoredFile) (i : ℕ) → length files ≤ i → numbered_from n (drop i files) ≡ []
numbered_end n [] zero le = refl
numbered_end n [] (suc i) le = refl
numbered_end n (x ∷ files) zero le = absurd (omega (arith, le))
numbered_end n (x ∷ files) (suc i) le = numbered_end n files i (omega (arith, le))

pub there : {A : Type 0} (xs : List A) (i : ℕ) → i < length xs → (x : A) × (slice_get xs i ≡ Some x)
there [] i lt = absurd (omega (arith, lt))
there (x ∷ xs) zero lt = (x, refl)
there (x ∷ xs) (suc i) lt = there xs i (omega (arith, lt))

-- one file more
pub file_more : (files : List StoredFile) (i : ℕ) (now new whole : List LinkKey) → i < length files
    → ((s : StoredFile) → slice_get files i ≡ Some s → new ≡ now ++ keys_in (record { number = record { 0 = i }; file = s }))
    → now ++ flat_map keys_in (numbered_from i (drop i files)) ≡ whole → new ++ flat_map keys_in (numbered_from (i + 1) (drop (i + 1) files)) ≡ whole
file_more files i now new whole lt is before =
    let s = there files i lt in
    let own = keys_in (record { number = record { 0 = i }; file = s.0 }) in
    let rest = flat_map keys_in (numbered_from (suc i) (drop (suc i) files)) in
    ap (λ n. new ++ flat_map keys_in (numbered_from n (drop n files))) (add-one i)
    ∙ (ap (λ ks. ks ++ rest) (is s.0 s.1) ∙ (append_assoc now own rest
    ∙ (ap (λ ns. now ++ flat_map keys_in ns) (sym (numbered_next i files i s.0 s.1)) ∙ before)))

pub files_are : (files : List StoredFile) (i : ℕ) (now whole : List LinkKey) → length files ≤ i
    → now ++ flat_map keys_in (numbered_from i (drop i files)) ≡ whole → now ≡ whole
files_are files i now whole le before =
    sym (append-nil now) ∙ (ap (λ ns. now ++ flat_map keys_in ns) (sym (numbered_end i files i le)) ∙ before)

-- the references of a file are those of its model
pub keys_with : (files : List StoredFile) (f : FileNo) (d : Data) (s : StoredFile) → model_of files f.0 ≡ Some d → slice_get files f.0 ≡ Some s
    → keys_in (record { number = f; file = s }) ≡ map (key f) (places_from 0 d.references)
keys_with files f d s of at = by s.model refl (sym (ap (λ (o : Option StoredFile). told o) at) ∙ of)
  where
    told : Option StoredFile → Option Data
    told None = None
    told (Some x) = x.model

    by : (m : Option Data) → s.model ≡ m → s.model ≡ Some d → keys_in (record { number = f; file = s }) ≡ map (key f) (places_from 0 d.references)
    by None none some = cc
    by (Some e) has some =
        let same : e ≡ d = cc in
        ap (λ o. keys_in (record { number = f; file = record s { model = o } })) has ∙ ap (λ (z : Data). map (key f) (places_from 0 z.references)) same

pub keys_without : (files : List StoredFile) (f : FileNo) (s : StoredFile) → model_of files f.0 ≡ None → slice_get files f.0 ≡ Some s
    → keys_in (record { number = f; file = s }) ≡ []
keys_without files f s of at = by s.model refl (sym (ap (λ (o : Option StoredFile). told o) at) ∙ of)
  where
    told : Option StoredFile → Option Data
    told None = None
    told (Some x) = x.model

    by : (m : Option Data) → s.model ≡ m → s.model ≡ None → keys_in (record { number = f; file = s }) ≡ []
    by None none is = ap (λ o. keys_in (record { number = f; file = record s { model = o } })) none
    by (Some e) has is = cc
