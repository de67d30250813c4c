-- An edit changes one file, or adds one.
use Rattle.std.proofs.Common.{◌≡◌, ◌∙◌, ℕ, ◌+◌, ◌<◌, suc, Bool, true, false, cond, not, ◌&&◌, List, [], ◌∷◌, ◌++◌, length, refl, sym, ap, subst, arith, inl, inr}
use Rattle.std.specs.Prelude.{Option, nat_eq, map}
use Rattle.std.specs.Option.{option_map}
use Rattle.std.specs.Cmp.Lexicographic.{pointwise, bytes_decides}
use Rattle.linker_base.proofs.Cases.{bool_cases}
use Rattle.element_store.specs.Model.{Data}
use Rattle.element_store.specs.Stored.{with_model}
use Rattle.book_model.specs.Book.{Book, with_entry}
use Rattle.book_model.specs.Readings.{language_of, model_by}
use Rattle.book_model.specs.Files.{LibraryTexts, Content, ProjectFile, IsContentOf, AreFilesFrom, AreFilesOf, is_under, content_under, number_under, with_content, stored_file, stored_from, stored}
use Rattle.book_model.specs.Laws.{IsContentUnder, IsStoredAfter, IsFoundAfter}
use Rattle.book_model.proofs.FileLaws.{library_entry, book_entry}

-- what stands at the number n + k under the name
abbrev Stands : ℕ → ℕ → List ℕ → Option (List ℕ) → Option Content → Type 0
Stands n k name text c = IsContentOf (record { 0 = n + k }) (language_of name) text c

-- the file under the name is the first, or a later one
first_under : (f : ProjectFile) (fs : List ProjectFile) (name : List ℕ) (c : Option Content) → is_under name f ≡ true
    → (number_under (f ∷ fs) name ≡ 0) × (with_content (f ∷ fs) name c ≡ record f { content = c } ∷ fs)
first_under f fs name c is = (
  ap (λ b. cond b 0 (suc (number_under fs name))) is,
  ap
      (λ b. cond b (record f { content = c } ∷ fs) (f ∷ with_content fs name c)) is,
)

-- or it is a later one
later_under : (f : ProjectFile) (fs : List ProjectFile) (name : List ℕ) (c : Option Content) → is_under name f ≡ false
    → (number_under (f ∷ fs) name ≡ suc (number_under fs name)) × (with_content (f ∷ fs) name c ≡ f ∷ with_content fs name c)
later_under f fs name c is = (
  ap (λ b. cond b 0 (suc (number_under fs name))) is,
  ap
      (λ b. cond b (record f { content = c } ∷ fs) (f ∷ with_content fs name c)) is,
)

-- a file of the book is under a name exactly where the entry is
book_under : (name entry : List ℕ) (f : ProjectFile) → f.library ≡ false → f.name ≡ entry → is_under name f ≡ pointwise nat_eq name entry
book_under name entry f own same = ap (λ b. not b && pointwise nat_eq name f.name) own ∙ ap (pointwise nat_eq name) same

-- a file of the library is under no name
library_under : (name : List ℕ) (f : ProjectFile) → f.library ≡ true → is_under name f ≡ false
library_under name f other = ap (λ b. not b && pointwise nat_eq name f.name) other

-- the entries of a book
book_changed : (n : ℕ) (book : Book) (files : List ProjectFile) (name : List ℕ) (text : Option (List ℕ)) (c : Option Content)
    → AreFilesFrom n (map book_entry book) files → Stands n (number_under files name) name text c
    → AreFilesFrom n (map book_entry (with_entry book name text)) (with_content files name c)
book_changed n [] [] name text c are is =
    (record { name = refl; library = refl; content = subst (λ k. IsContentOf (record { 0 = k }) (language_of name) text c) (omega arith) is }, tt)
book_changed n [] (f ∷ fs) name text c are is = absurd are
book_changed n (e ∷ es) [] name text c are is = absurd are
book_changed n (e ∷ es) (f ∷ fs) name text c are is = elim (bool_cases (pointwise nat_eq name e.0)) [
  | inl here ↦
      let found = first_under f fs name c (book_under name e.0 f are.0.library are.0.name ∙ here) in
      let there : Stands n 0 name text c = subst (λ k. Stands n k name text c) found.0 is in
      let numbered : IsContentOf (record { 0 = n }) (language_of name) text c =
      subst (λ k. IsContentOf (record { 0 = k }) (language_of name) text c) (omega arith) there in
      let own : IsContentOf (record { 0 = n }) (language_of e.0) text c =
      subst (λ x. IsContentOf (record { 0 = n }) (language_of x) text c) ((bytes_decides name e.0).0 here) numbered in
      rw (here, found.1) (record { name = are.0.name; library = are.0.library; content = own }, are.1)
  | inr far ↦
      let found = later_under f fs name c (book_under name e.0 f are.0.library are.0.name ∙ far) in
      let there : Stands n (suc (number_under fs name)) name text c = subst (λ k. Stands n k name text c) found.0 is in
      let numbered : Stands (suc n) (number_under fs name) name text c =
      subst (λ k. IsContentOf (record { 0 = k }) (language_of name) text c) (omega arith) there in
      rw (far, found.1) (are.0, book_changed (suc n) es fs name text c are.1 numbered)
]

-- and those of a library before them, which stay
all_changed : (n : ℕ) (library : LibraryTexts) (book : Book) (files : List ProjectFile) (name : List ℕ) (text : Option (List ℕ)) (c : Option Content)
    → AreFilesFrom n (map library_entry library ++ map book_entry book) files → Stands n (number_under files name) name text c
    → AreFilesFrom n (map library_entry library ++ map book_entry (with_entry book name text)) (with_content files name c)
all_changed n [] book files name text c are is = book_changed n book files name text c are is
all_changed n (e ∷ es) book [] name text c are is = absurd are
all_changed n (e ∷ es) book (f ∷ fs) name text c are is =
    let found = later_under f fs name c (library_under name f are.0.library) in
    let there : Stands n (suc (number_under fs name)) name text c = subst (λ k. Stands n k name text c) found.0 is in
    let numbered : Stands (suc n) (number_under fs name) name text c =
    subst (λ k. IsContentOf (record { 0 = k }) (language_of name) text c) (omega arith) there in
    rw found.1 (are.0, all_changed (suc n) es book fs name text c are.1 numbered)

-- the files after an edit of one entry
pub files_changed : (book : Book) (library : LibraryTexts) (files : List ProjectFile) (name : List ℕ) (text : Option (List ℕ)) (c : Option Content)
    → AreFilesOf book library files → IsContentUnder files name text c
    → AreFilesOf (with_entry book name text) library (with_content files name c)
files_changed book library files name text c are is =
    all_changed 0 library book files name text c are (subst (λ k. IsContentOf (record { 0 = k }) (language_of name) text c) (omega arith) is)

-- ---- what links see then

-- the model that links see at a number
abbrev model_of_number : ℕ → List ℕ → Option Content → Option Data
model_of_number k name c = option_map (λ (x : Content). model_by (record { 0 = k }) (language_of name) x.reading) c

-- the name of the file under a name
under_name : (f : ProjectFile) (name : List ℕ) → is_under name f ≡ true → name ≡ f.name
under_name f name is = (bytes_decides name f.name).0 (by_library f.library is) where
  by_library : (library : Bool) → (not library && pointwise nat_eq name f.name) ≡ true → pointwise nat_eq name f.name ≡ true
  by_library true e = absurd (cc)
  by_library false e = e

-- the model of a name that was there is replaced
stored_kept : (n : ℕ) (files : List ProjectFile) (name : List ℕ) (c : Option Content) → number_under files name < length files
    → stored_from n (with_content files name c) ≡ with_model (stored_from n files) (number_under files name)
    (model_of_number (n + number_under files name) name c)
stored_kept n [] name c lt = absurd (omega (arith, lt))
stored_kept n (f ∷ fs) name c lt = elim (bool_cases (is_under name f)) [
  | inl here ↦
      let found = first_under f fs name c here in
      let same : name ≡ f.name = under_name f name here in
      let model : model_of_number n f.name c ≡ model_of_number (n + 0) name c = λ j. model_of_number (omega_at n j) (sym same j) c in
      rw (found.0, found.1) (ap (λ m. record (stored_file (record { 0 = n }) f) { model = m } ∷ stored_from (suc n) fs) model)
  | inr far ↦
      let found = later_under f fs name c far in
      let less : number_under fs name < length fs = omega (arith, subst (λ k. k < length (f ∷ fs)) found.0 lt) in
      let more = stored_kept (suc n) fs name c less in
      let model : model_of_number (suc n + number_under fs name) name c ≡ model_of_number (n + suc (number_under fs name)) name c =
      ap (λ k. model_of_number k name c) (omega arith) in
      rw (found.0, found.1)
      (ap (λ xs. stored_file (record { 0 = n }) f ∷ xs) (more ∙ ap (with_model (stored_from (suc n) fs) (number_under fs name)) model))
] where
  omega_at : (n : ℕ) → n ≡ n + 0
  omega_at n = omega arith

-- a new name has a file after the others
stored_added : (n : ℕ) (files : List ProjectFile) (name : List ℕ) (c : Option Content) → number_under files name ≡ length files
    → stored_from n (with_content files name c) ≡ stored_from n files
    ++ record { name = name; library = false; model = model_of_number (n + length files) name c } ∷ []
stored_added n [] name c e =
    ap (λ k. record { name = name; library = false; model = model_of_number k name c } ∷ []) (omega arith)
stored_added n (f ∷ fs) name c e = elim (bool_cases (is_under name f)) [
  | inl here ↦ absurd (omega (arith, sym (first_under f fs name c here).0 ∙ e))
  | inr far ↦
      let found = later_under f fs name c far in
      let less : number_under fs name ≡ length fs = omega (arith, sym found.0 ∙ e) in
      let more = stored_added (suc n) fs name c less in
      let last = ap (λ k. stored_from (suc n) fs ++ record { name = name; library = false; model = model_of_number k name c } ∷ [])
      (omega_suc n (length fs)) in
      rw found.1 (ap (λ xs. stored_file (record { 0 = n }) f ∷ xs) (more ∙ last))
] where
  omega_suc : (n k : ℕ) → suc n + k ≡ n + suc k
  omega_suc n k = omega arith

-- what links see after an edit of one entry
pub stored_changed : (files : List ProjectFile) (name : List ℕ) (c : Option Content) → IsStoredAfter files name c
stored_changed files name c = record {
  kept = λ lt. stored_kept 0 files name c lt
      ∙ ap (λ k. with_model (stored files) (number_under files name) (model_of_number k name c)) (from_zero (number_under files name));
  added = λ e. stored_added 0 files name c e
      ∙ ap (λ k. stored files ++ record { name = name; library = false; model = model_of_number k name c } ∷ [])
      (from_zero (length files) ∙ sym e);
} where
  from_zero : (k : ℕ) → 0 + k ≡ k
  from_zero k = omega arith

-- ---- what is found then

-- a new file is under its name
new_is_under : (name : List ℕ) (c : Option Content) → is_under name (record { name = name; library = false; content = c }) ≡ true
new_is_under name c = (bytes_decides name name).1 refl

-- a file under one name isn't under another
other_under : (f g : ProjectFile) (name x : List ℕ) → (x ≡ name → ⊥) → is_under name f ≡ true → g.name ≡ f.name → is_under x g ≡ false
other_under f g name x other here same = by_test g.library (pointwise nat_eq x g.name) refl where
  by_test : (library b : Bool) → b ≡ pointwise nat_eq x g.name → (not library && b) ≡ false
  by_test true b e = refl
  by_test false false e = refl
  by_test false true e = absurd (other ((bytes_decides x g.name).0 (sym e) ∙ (same ∙ sym (under_name f name here))))

-- the name has what was put there
found_own : (files : List ProjectFile) (name : List ℕ) (c : Option Content) → content_under (with_content files name c) name ≡ c
found_own [] name c = rw (new_is_under name c) refl
found_own (f ∷ fs) name c = elim (bool_cases (is_under name f)) [
  | inl here ↦ rw ((first_under f fs name c here).1, here) refl
  | inr far ↦ rw ((later_under f fs name c far).1, far) (found_own fs name c)
]

-- and every other name what it had
found_others : (files : List ProjectFile) (name x : List ℕ) (c : Option Content) → (x ≡ name → ⊥)
    → content_under (with_content files name c) x ≡ content_under files x
found_others [] name x c other =
    let none = other_under (record { name = name; library = false; content = c }) (record { name = name; library = false; content = c }) name x other
    (new_is_under name c) refl in
    rw none refl
found_others (f ∷ fs) name x c other = elim (bool_cases (is_under name f)) [
  | inl here ↦ rw ((first_under f fs name c here).1, other_under f (record f { content = c }) name x other here refl) refl
  | inr far ↦ rw ((later_under f fs name c far).1) (ap (λ o. cond (is_under x f) f.content o) (found_others fs name x c other))
]

-- what is found under all names after an edit
pub found_changed : (files : List ProjectFile) (name : List ℕ) (c : Option Content) → IsFoundAfter files name c
found_changed files name c = record { own = found_own files name c; others = λ x other. found_others files name x c other }
