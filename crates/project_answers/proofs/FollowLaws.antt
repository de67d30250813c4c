-- The files whose edits are followed, over the going and coming of a text.
use Rattle.std.proofs.Common.{◌≡◌, ℕ, ◌+◌, ◌<◌, ◌≤◌, zero, suc, false, cond, List, [], ◌∷◌, ◌++◌, length, refl, sym, ◌∙◌, ap, subst, inl, inr, arith}
use Rattle.std.specs.Prelude.{slice_get, Option, None, Some, ◌⊎◌}
use Rattle.std.specs.Option.{option_map}
use Rattle.linker_base.proofs.Cases.{bool_cases}
use Rattle.element_store.specs.declared.numbers.FileNo.{FileNo}
use Rattle.element_store.specs.declared.models.StoredFile.{StoredFile}
use Rattle.element_store.specs.Model.{Data}
use Rattle.element_store.specs.Stored.{with_model}
use Rattle.link_model.specs.Edits.{HasCome}
use Rattle.book_model.specs.Files.{Content, ProjectFile, is_under, number_under, stored, stored_file, stored_from, with_content}
use Rattle.book_model.specs.Readings.{language_of, model_by}
use Rattle.project_book.specs.Named.{HaveMoved, IsOwn}
use Rattle.project_book.proofs.NamedLaws.{own_moved}
use Rattle.project_answers.specs.Holds.{FollowedBefore}
use Rattle.project_answers.proofs.OrderLaws.{stored_long}

-- what is stored of a file of the book is none of the library
own_from : (n : ℕ) (files : List ProjectFile) (f : ℕ) → ((g : ProjectFile) → slice_get files f ≡ Some g → g.library ≡ false)
    → (s : StoredFile) → slice_get (stored_from n files) f ≡ Some s → s.library ≡ false
own_from n [] f own s at = cc
own_from n (x ∷ files) zero own s at =
    let same : stored_file (record { 0 = n }) x ≡ s = cc in ap (λ (u : StoredFile). u.library) (sym same) ∙ own x refl
own_from n (x ∷ files) (suc f) own s at = own_from (suc n) files f own s at

pub own_file : (files : List ProjectFile) (file : FileNo) → IsOwn files file → (s : StoredFile) → slice_get (stored files) file.0 ≡ Some s
    → s.library ≡ false
own_file files file own s at = own_from 0 files file.0 own s at

-- no model is replaced beyond the last file
pub beyond : (files : List StoredFile) (f : ℕ) (m : Option Data) → length files ≤ f → with_model files f m ≡ files
beyond [] f m le = refl
beyond (x ∷ files) zero m le = absurd (omega (arith, le))
beyond (x ∷ files) (suc f) m le = ap (λ (fs : List StoredFile). x ∷ fs) (beyond files f m (omega (arith, le)))

twice : (files : List StoredFile) (f : ℕ) (m k : Option Data) → with_model (with_model files f m) f k ≡ with_model files f k
twice [] f m k = refl
twice (x ∷ files) zero m k = refl
twice (x ∷ files) (suc f) m k = ap (λ (fs : List StoredFile). x ∷ fs) (twice files f m k)

file_at : (files : List StoredFile) (f : ℕ) → f < length files → (s : StoredFile) × (slice_get files f ≡ Some s)
file_at [] f lt = absurd (omega (arith, lt))
file_at (x ∷ files) zero lt = (x, refl)
file_at (x ∷ files) (suc f) lt = file_at files f (omega (arith, lt))

-- A content is kept under a name: in the file of that name, or in a new one.
pub record IsChanged (before after : List StoredFile) (f : ℕ) : Type 0 where
  pub model : Option Data
  pub is : after ≡ with_model before f model
  pub there : f < length before

pub record IsMore (before after : List StoredFile) (f : ℕ) : Type 0 where
  pub file : StoredFile
  pub is : after ≡ before ++ file ∷ []
  pub last : f ≡ length before

changed_next : (x : StoredFile) (before after : List StoredFile) (f : ℕ) → IsChanged before after f ⊎ IsMore before after f
    → IsChanged (x ∷ before) (x ∷ after) (suc f) ⊎ IsMore (x ∷ before) (x ∷ after) (suc f)
changed_next x before after f (inl h) =
    inl (record { model = h.model; is = ap (λ (fs : List StoredFile). x ∷ fs) h.is; there = (let lt = h.there in omega arith) })
changed_next x before after f (inr h) = inr (record { file = h.file; is = ap (λ (fs : List StoredFile). x ∷ fs) h.is; last = ap suc h.last })

pub kept_stored : (n : ℕ) (files : List ProjectFile) (name : List ℕ) (c : Option Content)
    → IsChanged (stored_from n files) (stored_from n (with_content files name c)) (number_under files name)
    ⊎ IsMore (stored_from n files) (stored_from n (with_content files name c)) (number_under files name)
kept_stored n [] name c = inr (record { file = stored_file (record { 0 = n }) (record { name = name; library = false; content = c }); is = refl; last = refl })
kept_stored n (x ∷ files) name c = elim (bool_cases (is_under name x)) [
  | inl a ↦ subst (λ b. IsChanged (stored_from n (x ∷ files)) (stored_from n (cond b (record x { content = c } ∷ files) (x ∷ with_content files name c)))
      (cond b 0 (suc (number_under files name)))
      ⊎ IsMore (stored_from n (x ∷ files)) (stored_from n (cond b (record x { content = c } ∷ files) (x ∷ with_content files name c)))
      (cond b 0 (suc (number_under files name)))) (sym a)
      (inl (record { model = option_map (λ k. model_by (record { 0 = n }) (language_of x.name) k.reading) c; is = refl; there = omega arith }))
  | inr b ↦ subst (λ b. IsChanged (stored_from n (x ∷ files)) (stored_from n (cond b (record x { content = c } ∷ files) (x ∷ with_content files name c)))
      (cond b 0 (suc (number_under files name)))
      ⊎ IsMore (stored_from n (x ∷ files)) (stored_from n (cond b (record x { content = c } ∷ files) (x ∷ with_content files name c)))
      (cond b 0 (suc (number_under files name)))) (sym b)
      (changed_next (stored_file (record { 0 = n }) x) (stored_from (suc n) files) (stored_from (suc n) (with_content files name c)) (number_under files name)
      (kept_stored (suc n) files name c))
]

more_length : (files : List StoredFile) (s : StoredFile) → length (files ++ s ∷ []) ≡ suc (length files)
more_length [] s = refl
more_length (x ∷ files) s = ap suc (more_length files s)

with_length : (files : List StoredFile) (f : ℕ) (m : Option Data) → length (with_model files f m) ≡ length files
with_length [] f m = refl
with_length (x ∷ files) zero m = refl
with_length (x ∷ files) (suc f) m = ap suc (with_length files f m)

-- THE COMING of a text, where the file is one of the project's
came : (followed before now : List StoredFile) (f : ℕ) → followed ≡ with_model before f None → (now ≡ before) ⊎ (IsChanged before now f ⊎ IsMore before now f)
    → (s : StoredFile) → slice_get now f ≡ Some s → (followed ≡ with_model now f None) ⊎ ((now ≡ followed ++ s ∷ []) × (f ≡ length followed))
came followed before now f is (inl same) s at = inl (is ∙ ap (λ (fs : List StoredFile). with_model fs f None) (sym same))
came followed before now f is (inr (inl h)) s at =
    inl (is ∙ sym (twice before f h.model None) ∙ ap (λ (fs : List StoredFile). with_model fs f None) (sym h.is))
came followed before now f is (inr (inr h)) s at =
    let same : followed ≡ before = is ∙ beyond before f None (let e = h.last in omega arith) in
    let file : h.file ≡ s = let there = last_at before h.file f h.last (subst (λ (fs : List StoredFile). slice_get fs f ≡ Some s) h.is at) in there in
    inr (h.is ∙ (λ i. sym same i ++ file i ∷ []), h.last ∙ ap length (sym same))
  where
    last_at : (files : List StoredFile) (x : StoredFile) (f : ℕ) → f ≡ length files → slice_get (files ++ x ∷ []) f ≡ Some s → x ≡ s
    last_at [] x zero e got = cc
    last_at [] x (suc f) e got = absurd (omega (arith, e))
    last_at (y ∷ files) x zero e got = absurd (omega (arith, e))
    last_at (y ∷ files) x (suc f) e got = last_at files x f (omega (arith, e)) got

-- and where it isn't: nothing came
none_came : (followed before now : List StoredFile) (f : ℕ) → followed ≡ with_model before f None
    → (now ≡ before) ⊎ (IsChanged before now f ⊎ IsMore before now f) → length now ≤ f → followed ≡ now
none_came followed before now f is (inl same) le =
    is ∙ beyond before f None (let e = ap length same in omega (arith, le)) ∙ sym same
none_came followed before now f is (inr (inl h)) le =
    absurd (let e = ap length h.is ∙ with_length before f h.model in let lt = h.there in omega (arith, le))
none_came followed before now f is (inr (inr h)) le =
    absurd (let e = ap length h.is ∙ more_length before h.file in let last = h.last in omega (arith, le))

stored_moved : (before now : List ProjectFile) (name : List ℕ) (f : ℕ) → number_under before name ≡ f → HaveMoved before now name
    → (stored now ≡ stored before) ⊎ (IsChanged (stored before) (stored now) f ⊎ IsMore (stored before) (stored now) f)
stored_moved before now name f place (inl same) = inl (ap stored same)
stored_moved before now name f place (inr h) = inr (subst
    (λ (fs : List ProjectFile). IsChanged (stored before) (stored fs) f ⊎ IsMore (stored before) (stored fs) f)
    (sym h.1) (subst
    (λ (n : ℕ). IsChanged (stored before) (stored (with_content before name h.0)) n ⊎ IsMore (stored before) (stored (with_content before name h.0)) n)
    place (kept_stored 0 before name h.0)))

pub has_come : (followed : List StoredFile) (now : List ProjectFile) (file : FileNo) → FollowedBefore followed now file
    → file.0 < length now → HasCome followed (stored now) file
has_come followed now file before lt =
    let there = file_at (stored now) file.0 (let e = stored_long 0 now in omega (arith, lt)) in
    let own = own_file now file (own_moved before.before now before.moved.name file before.moved.place before.moved.moved) in (
      there.0,
      there.1,
      own there.0 there.1,
      came followed (stored before.before) (stored now) file.0 before.followed_is
          (stored_moved before.before now before.moved.name file.0 before.moved.place before.moved.moved) there.0 there.1,
    )

pub has_not_come : (followed : List StoredFile) (now : List ProjectFile) (file : FileNo) → FollowedBefore followed now file → length now ≤ file.0
    → followed ≡ stored now
has_not_come followed now file before le =
    none_came followed (stored before.before) (stored now) file.0 before.followed_is
    (stored_moved before.before now before.moved.name file.0 before.moved.place before.moved.moved) (let e = stored_long 0 now in omega (arith, le))

-- FOR THE CODE: files that are lent, their models, and how many they are
module _ (models : List StoredFile) (lent files : List ProjectFile) (count : ℕ) (is : models ≡ stored lent) (same : lent ≡ files)
    (counted : count ≡ length lent) where
  models_are : models ≡ stored files
  models_are = is ∙ ap stored same

  pub stored_within : (f : ℕ) → f < count → f < length models
  stored_within f lt = let e = ap length is in let long = stored_long 0 lent in omega (arith, lt, counted)

  pub stored_own : (file : FileNo) → IsOwn files file → (s : StoredFile) → slice_get models file.0 ≡ Some s → s.library ≡ false
  stored_own file own s at = own_file files file own s (subst (λ (fs : List StoredFile). slice_get fs file.0 ≡ Some s) models_are at)

  pub stored_come : (followed : List StoredFile) (file : FileNo) → FollowedBefore followed files file → file.0 < count
      → HasCome followed models file
  stored_come followed file before lt = subst (λ (fs : List StoredFile). HasCome followed fs file) (sym models_are)
      (has_come followed files file before (let e = ap length same in omega (arith, lt, counted)))

pub stays_beyond : (followed : List StoredFile) (lent files : List ProjectFile) (f count : ℕ) → lent ≡ files → count ≡ length lent → count ≤ f
    → followed ≡ stored files → followed ≡ with_model (stored files) f None
stays_beyond followed lent files f count same counted le is =
    is ∙ sym (beyond (stored files) f None (let long = stored_long 0 files in let e = ap length same in omega (arith, le, counted)))

pub stays_where_none : (followed : List StoredFile) (lent files : List ProjectFile) (file : FileNo) (count : ℕ) → lent ≡ files → count ≡ length lent
    → count ≤ file.0 → FollowedBefore followed files file → followed ≡ stored files
stays_where_none followed lent files file count same counted le before =
    has_not_come followed files file before (let e = ap length same in omega (arith, le, counted))
