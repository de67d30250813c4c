-- Files and their numbers: what a name more, or a content at a number, leaves.
use Rattle.std.proofs.Common.{◌≡◌, ◌∙◌, ℕ, zero, suc, ◌+◌, ◌<◌, Bool, true, false, cond, not, ◌&&◌, nat_eq, List, [], ◌∷◌, ◌++◌, length, map, refl, sym, ap, subst, arith, inl, inr}
use Rattle.std.specs.Prelude.{Option, Some, None, slice_get, option_and_then}
use Rattle.std.specs.Option.{option_map, option_map_or}
use Rattle.std.specs.Map.{lookup}
use Rattle.std.specs.Cmp.Lexicographic.{pointwise, bytes_decides}
use Rattle.linker_base.specs.Members.{IsMember}
use Rattle.linker_base.proofs.Cases.{bool_cases, some_same}
use Rattle.indexmap.specs.IndexMap.{insert_entry}
use Rattle.element_store.specs.declared.numbers.FileNo.{FileNo}
use Rattle.element_store.specs.FileNames.{is_file_name}
use Rattle.book_model.specs.Book.{Book, text_in, with_entry}
use Rattle.book_model.specs.Readings.{language_of}
use Rattle.book_model.specs.Files.{Content, ProjectFile, IsContentOf, AreFilesFrom, AreFilesOf, is_under, content_under, number_under, text_of, with_content, name_at}
use Rattle.book_model.proofs.FileLaws.{book_entry, library_entry}
use Rattle.project_files.specs.Kept.{content_at, with_content_at}
use Rattle.project_book.specs.Named.{text_in_content, of_book, of_library, library_in, book_of, numbers_from, with_name, IsFixed, IsRead, AreReadFrom, AreRead, HaveMoved, IsNumberUnder, IsOwn}

-- a file of the book is under a name exactly where it has it
pub under_is : (name : List ℕ) (f : ProjectFile) → f.library ≡ false → is_under name f ≡ pointwise nat_eq name f.name
under_is name f own = ap (λ b. not b && pointwise nat_eq name f.name) own

-- and one of the library under none
pub under_none : (name : List ℕ) (f : ProjectFile) → f.library ≡ true → is_under name f ≡ false
under_none name f fixed = ap (λ b. not b && pointwise nat_eq name f.name) fixed

-- a name that a file is under is its name
under_name : (name : List ℕ) (f : ProjectFile) → is_under name f ≡ true → name ≡ f.name
under_name name f is = (bytes_decides name f.name).0 (by_library f.library is) where
  by_library : (library : Bool) → (not library && pointwise nat_eq name f.name) ≡ true → pointwise nat_eq name f.name ≡ true
  by_library true e = absurd (cc)
  by_library false e = e

-- and the file is the book's
pub under_own : (name : List ℕ) (f : ProjectFile) → is_under name f ≡ true → f.library ≡ false
under_own name f is = elim (bool_cases f.library) [
  | inl fixed ↦ absurd (true_isnt (sym is ∙ under_none name f fixed))
  | inr own ↦ own
] where
  true_isnt : true ≡ false → ⊥
  true_isnt e = cc

-- a name that is under the first file, or behind it
pub number_here : (name : List ℕ) (f : ProjectFile) (fs : List ProjectFile) → is_under name f ≡ true → number_under (f ∷ fs) name ≡ 0
number_here name f fs is = ap (λ b. cond b 0 (suc (number_under fs name))) is

pub number_far : (name : List ℕ) (f : ProjectFile) (fs : List ProjectFile) → is_under name f ≡ false
    → number_under (f ∷ fs) name ≡ suc (number_under fs name)
number_far name f fs is = ap (λ b. cond b 0 (suc (number_under fs name))) is

with_here : (name : List ℕ) (c : Option Content) (f : ProjectFile) (fs : List ProjectFile) → is_under name f ≡ true
    → with_content (f ∷ fs) name c ≡ record f { content = c } ∷ fs
with_here name c f fs is = ap (λ b. cond b (record f { content = c } ∷ fs) (f ∷ with_content fs name c)) is

with_far : (name : List ℕ) (c : Option Content) (f : ProjectFile) (fs : List ProjectFile) → is_under name f ≡ false
    → with_content (f ∷ fs) name c ≡ f ∷ with_content fs name c
with_far name c f fs is = ap (λ b. cond b (record f { content = c } ∷ fs) (f ∷ with_content fs name c)) is

-- ---- the library and the book of the files

-- a file of the library isn't in the book
pub book_fixed : (f : ProjectFile) (fs : List ProjectFile) → f.library ≡ true → book_of (f ∷ fs) ≡ book_of fs
book_fixed f fs fixed = ap (λ b. of_book b (f.name, text_in_content f.content) ++ book_of fs) fixed

-- and one of the book is
pub book_own : (f : ProjectFile) (fs : List ProjectFile) → f.library ≡ false → book_of (f ∷ fs) ≡ (f.name, text_in_content f.content) ∷ book_of fs
book_own f fs own = ap (λ b. of_book b (f.name, text_in_content f.content) ++ book_of fs) own

-- a content under a name is a text under it
pub book_with : (files : List ProjectFile) (name : List ℕ) (c : Option Content)
    → book_of (with_content files name c) ≡ with_entry (book_of files) name (text_in_content c)
book_with [] name c = refl
book_with (f ∷ fs) name c = elim (bool_cases f.library) [
  | inl fixed ↦
      ap book_of (with_far name c f fs (under_none name f fixed)) ∙ (book_fixed f (with_content fs name c) fixed
      ∙ (book_with fs name c ∙ sym (ap (λ book. with_entry book name (text_in_content c)) (book_fixed f fs fixed))))
  | inr own ↦
      book_with_own f fs name c own (book_with fs name c) ∙ sym (ap (λ book. with_entry book name (text_in_content c)) (book_own f fs own))
] where
  book_with_own : (f : ProjectFile) (fs : List ProjectFile) (name : List ℕ) (c : Option Content) → f.library ≡ false
      → book_of (with_content fs name c) ≡ with_entry (book_of fs) name (text_in_content c)
      → book_of (with_content (f ∷ fs) name c) ≡ with_entry ((f.name, text_in_content f.content) ∷ book_of fs) name (text_in_content c)
  book_with_own f fs name c own more = elim (bool_cases (pointwise nat_eq name f.name)) [
    | inl here ↦
        ap book_of (with_here name c f fs (under_is name f own ∙ here)) ∙ (book_own (record f { content = c }) fs own
        ∙ sym (ap (λ b. cond b ((f.name, text_in_content c) ∷ book_of fs)
        ((f.name, text_in_content f.content) ∷ with_entry (book_of fs) name (text_in_content c))) here))
    | inr far ↦
        ap book_of (with_far name c f fs (under_is name f own ∙ far)) ∙ (book_own f (with_content fs name c) own
        ∙ (ap (λ es. (f.name, text_in_content f.content) ∷ es) more
        ∙ sym (ap (λ b. cond b ((f.name, text_in_content c) ∷ book_of fs)
        ((f.name, text_in_content f.content) ∷ with_entry (book_of fs) name (text_in_content c))) far)))
  ]

-- what stands for a file of the book in the library: nothing
pub library_own : (f : ProjectFile) (fs : List ProjectFile) → f.library ≡ false → library_in (f ∷ fs) ≡ library_in fs
library_own f fs own = ap (λ b. of_library b (f.name, text_of f) ++ library_in fs) own

-- and for one of the library its name and text
pub library_fixed : (f : ProjectFile) (fs : List ProjectFile) → f.library ≡ true → library_in (f ∷ fs) ≡ (f.name, text_of f) ∷ library_in fs
library_fixed f fs fixed = ap (λ b. of_library b (f.name, text_of f) ++ library_in fs) fixed

-- and leaves the library
pub library_with : (files : List ProjectFile) (name : List ℕ) (c : Option Content) → library_in (with_content files name c) ≡ library_in files
library_with [] name c = refl
library_with (f ∷ fs) name c = elim (bool_cases (is_under name f)) [
  | inl here ↦
      let own = under_own name f here in
      ap library_in (with_here name c f fs here) ∙ (library_own (record f { content = c }) fs own ∙ sym (library_own f fs own))
  | inr far ↦
      ap library_in (with_far name c f fs far)
      ∙ ap (λ es. of_library f.library (f.name, text_of f) ++ es) (library_with fs name c)
]

-- a file of the library has a text
fixed_text : (b : Bool) (name : List ℕ) (c : Option Content) → b ≡ true → IsFixed b name c
    → text_in_content c ≡ Some (option_map_or (λ (x : Content). x.text) c [])
fixed_text true name (Some c) e h = refl
fixed_text true name None e h = absurd h
fixed_text false name c e h = absurd (cc)

-- the files are those of their book over their library
pub files_of_book : (n : ℕ) (files : List ProjectFile) → AreReadFrom n files
    → AreFilesFrom n (map library_entry (library_in files) ++ map book_entry (book_of files)) files
files_of_book n [] h = tt
files_of_book n (f ∷ fs) h = elim (bool_cases f.library) [
  | inl fixed ↦
      let text = fixed_text f.library f.name f.content fixed h.0.fixed in
      subst (λ es. AreFilesFrom n es (f ∷ fs))
      (sym (λ j. map library_entry (library_fixed f fs fixed j) ++ map book_entry (book_fixed f fs fixed j))) (
        record {
          name = refl;
          library = fixed;
          content = subst (λ o. IsContentOf (record { 0 = n }) (language_of f.name) o f.content) text h.0.content;
        },
        files_of_book (suc n) fs h.1,
      )
  | inr own ↦
      let none = h.0.first own in
      let more = subst (λ es. AreFilesFrom (suc n) (map library_entry es ++ map book_entry (book_of fs)) fs) none (files_of_book (suc n) fs h.1) in
      subst (λ es. AreFilesFrom n es (f ∷ fs))
      (sym (λ j. map library_entry ((library_own f fs own ∙ none) j) ++ map book_entry (book_own f fs own j)))
      (record { name = refl; library = own; content = h.0.content }, more)
]

-- as many files as names of the library and the book
pub files_long : (files : List ProjectFile) → length files ≡ length (library_in files) + length (book_of files)
files_long [] = refl
files_long (f ∷ fs) = elim (bool_cases f.library) [
  | inl fixed ↦ omega (arith, files_long fs, ap length (library_fixed f fs fixed), ap length (book_fixed f fs fixed))
  | inr own ↦ omega (arith, files_long fs, ap length (library_own f fs own), ap length (book_own f fs own))
]

-- ---- numbers

numbers_fixed : (n : ℕ) (f : ProjectFile) (fs : List ProjectFile) → f.library ≡ true → numbers_from n (f ∷ fs) ≡ numbers_from (suc n) fs
numbers_fixed n f fs fixed = ap (λ b. of_book b (f.name, record { 0 = n }) ++ numbers_from (suc n) fs) fixed

numbers_own : (n : ℕ) (f : ProjectFile) (fs : List ProjectFile) → f.library ≡ false
    → numbers_from n (f ∷ fs) ≡ (f.name, record { 0 = n }) ∷ numbers_from (suc n) fs
numbers_own n f fs own = ap (λ b. of_book b (f.name, record { 0 = n }) ++ numbers_from (suc n) fs) own

-- as many as names of the book
pub numbers_long : (n : ℕ) (files : List ProjectFile) → length (numbers_from n files) ≡ length (book_of files)
numbers_long n [] = refl
numbers_long n (f ∷ fs) = elim (bool_cases f.library) [
  | inl fixed ↦ ap length (numbers_fixed n f fs fixed) ∙ (numbers_long (suc n) fs ∙ sym (ap length (book_fixed f fs fixed)))
  | inr own ↦ ap length (numbers_own n f fs own) ∙ (ap suc (numbers_long (suc n) fs) ∙ sym (ap length (book_own f fs own)))
]

-- what a number that was looked up says
abbrev NumberBy : ℕ → List ProjectFile → List ℕ → Option FileNo → Type 0
NumberBy n files name (Some k) = (n + number_under files name ≡ k.0) × (number_under files name < length files)
NumberBy n files name None = number_under files name ≡ length files

-- a name that isn't under the first file has its number behind it
number_later : (n : ℕ) (f : ProjectFile) (fs : List ProjectFile) (name : List ℕ) → number_under (f ∷ fs) name ≡ suc (number_under fs name)
    → (o : Option FileNo) → NumberBy (suc n) fs name o → NumberBy n (f ∷ fs) name o
number_later n f fs name under (Some k) (is, below) = (omega (arith, under, is), omega (arith, under, below))
number_later n f fs name under None is = omega (arith, under, is)

number_by : (n : ℕ) (files : List ProjectFile) (name : List ℕ) → NumberBy n files name (lookup (pointwise nat_eq name) (numbers_from n files))
number_by n [] name = refl
number_by n (f ∷ fs) name = elim (bool_cases f.library) [
  | inl fixed ↦
      subst (NumberBy n (f ∷ fs) name) (sym (ap (lookup (pointwise nat_eq name)) (numbers_fixed n f fs fixed)))
      (number_later n f fs name (number_far name f fs (under_none name f fixed)) _ (number_by (suc n) fs name))
  | inr own ↦
      subst (NumberBy n (f ∷ fs) name) (sym (ap (lookup (pointwise nat_eq name)) (numbers_own n f fs own)))
      (by (pointwise nat_eq name f.name) (under_is name f own) (number_by (suc n) fs name))
] where
  by : (b : Bool) → is_under name f ≡ b → NumberBy (suc n) fs name (lookup (pointwise nat_eq name) (numbers_from (suc n) fs))
      → NumberBy n (f ∷ fs) name (cond b (Some (record { 0 = n })) (lookup (pointwise nat_eq name) (numbers_from (suc n) fs)))
  by true is more = let under = number_here name f fs is in (omega (arith, under), omega (arith, under))
  by false is more = number_later n f fs name (number_far name f fs is) _ more

-- a number that is looked up is the one under the name
pub number_found : (files : List ProjectFile) (name : List ℕ) (o : Option FileNo) → lookup (pointwise nat_eq name) (numbers_from 0 files) ≡ o
    → IsNumberUnder files name o
number_found files name o is = by o (subst (NumberBy 0 files name) is (number_by 0 files name)) where
  by : (o : Option FileNo) → NumberBy 0 files name o → IsNumberUnder files name o
  by (Some k) (same, below) = (omega (arith, same), omega (arith, same, below))
  by None same = same

-- a new name is none of the files'
pub name_fresh : (n : ℕ) (files : List ProjectFile) (name : List ℕ) → AreReadFrom n files → is_file_name name ≡ true
    → number_under files name ≡ length files → IsMember (map (λ f. f.name) files) name → ⊥
name_fresh n [] name h good new m = m
name_fresh n (f ∷ fs) name h good new (inl same) = elim (bool_cases f.library) [
  | inl fixed ↦ no_file_name f.library f.name f.content fixed h.0.fixed (ap is_file_name same ∙ good)
  | inr own ↦
      let here : pointwise nat_eq name f.name ≡ true = (bytes_decides name f.name).1 (sym same) in
      omega (arith, number_here name f fs (under_is name f own ∙ here), new)
] where
  no_file_name : (b : Bool) (name : List ℕ) (c : Option Content) → b ≡ true → IsFixed b name c → is_file_name name ≡ true → ⊥
  no_file_name true name (Some c) e fixed good = cc
  no_file_name true name None e fixed good = fixed
  no_file_name false name c e fixed good = cc
name_fresh n (f ∷ fs) name h good new (inr more) = elim (bool_cases (is_under name f)) [
  | inl here ↦ omega (arith, new, number_here name f fs here)
  | inr far ↦ name_fresh (suc n) fs name h.1 good (omega (arith, number_far name f fs far, new)) more
]

-- ---- a name more

-- a new name goes last
pub name_last : (files : List ProjectFile) (name : List ℕ) → number_under files name ≡ length files
    → with_name files name ≡ files ++ record { name = name; library = false; content = None } ∷ []
name_last [] name new = refl
name_last (f ∷ fs) name new = elim (bool_cases (is_under name f)) [
  | inl here ↦ absurd (omega (arith, new, ap (λ b. cond b 0 (suc (number_under fs name))) here))
  | inr far ↦
      let under : number_under (f ∷ fs) name ≡ suc (number_under fs name) = ap (λ b. cond b 0 (suc (number_under fs name))) far in
      ap (λ b. cond b (f ∷ fs) (f ∷ with_name fs name)) far ∙ ap (λ xs. f ∷ xs) (name_last fs name (omega (arith, under, new)))
]

-- and a name that is there changes nothing
pub name_stays : (files : List ProjectFile) (name : List ℕ) → number_under files name < length files → with_name files name ≡ files
name_stays [] name below = absurd (omega (arith, below))
name_stays (f ∷ fs) name below = elim (bool_cases (is_under name f)) [
  | inl here ↦ ap (λ b. cond b (f ∷ fs) (f ∷ with_name fs name)) here
  | inr far ↦
      let under : number_under (f ∷ fs) name ≡ suc (number_under fs name) = ap (λ b. cond b 0 (suc (number_under fs name))) far in
      ap (λ b. cond b (f ∷ fs) (f ∷ with_name fs name)) far ∙ ap (λ xs. f ∷ xs) (name_stays fs name (omega (arith, under, below)))
]

-- then the name has its number, and a file there
pub name_stands : (files : List ProjectFile) (name : List ℕ) → number_under files name < length (with_name files name)
name_stands [] name = omega arith
name_stands (f ∷ fs) name = elim (bool_cases (is_under name f)) [
  | inl here ↦ subst (λ b. cond b 0 (suc (number_under fs name)) < length (cond b (f ∷ fs) (f ∷ with_name fs name))) (sym here) (omega arith)
  | inr far ↦
      let more = name_stands fs name in
      subst (λ b. cond b 0 (suc (number_under fs name)) < length (cond b (f ∷ fs) (f ∷ with_name fs name))) (sym far) (omega (arith, more))
]

-- which has the name
pub name_has : (files : List ProjectFile) (name : List ℕ) → name_at (with_name files name) (record { 0 = number_under files name }) ≡ name
name_has [] name = refl
name_has (f ∷ fs) name = elim (bool_cases (is_under name f)) [
  | inl here ↦
      ap (λ b. name_at (cond b (f ∷ fs) (f ∷ with_name fs name)) (record { 0 = cond b 0 (suc (number_under fs name)) })) here
      ∙ sym (under_name name f here)
  | inr far ↦
      ap (λ b. name_at (cond b (f ∷ fs) (f ∷ with_name fs name)) (record { 0 = cond b 0 (suc (number_under fs name)) })) far
      ∙ name_has fs name
]

-- a content under a name is one at its number
pub content_with : (files : List ProjectFile) (name : List ℕ) (c : Option Content)
    → with_content_at (with_name files name) (number_under files name) c ≡ with_content files name c
content_with [] name c = refl
content_with (f ∷ fs) name c = elim (bool_cases (is_under name f)) [
  | inl here ↦
      ap (λ b. with_content_at (cond b (f ∷ fs) (f ∷ with_name fs name)) (cond b 0 (suc (number_under fs name))) c) here
      ∙ sym (ap (λ b. cond b (record f { content = c } ∷ fs) (f ∷ with_content fs name c)) here)
  | inr far ↦
      ap (λ b. with_content_at (cond b (f ∷ fs) (f ∷ with_name fs name)) (cond b 0 (suc (number_under fs name))) c) far
      ∙ (ap (λ xs. f ∷ xs) (content_with fs name c) ∙ sym (ap (λ b. cond b (record f { content = c } ∷ fs) (f ∷ with_content fs name c)) far))
]

-- and leaves the library
pub library_named : (files : List ProjectFile) (name : List ℕ) → library_in (with_name files name) ≡ library_in files
library_named [] name = refl
library_named (f ∷ fs) name = by (is_under name f) (library_named fs name) where
  by : (b : Bool) → library_in (with_name fs name) ≡ library_in fs → library_in (cond b (f ∷ fs) (f ∷ with_name fs name)) ≡ library_in (f ∷ fs)
  by true more = refl
  by false more = ap (λ es. of_library f.library (f.name, text_of f) ++ es) more

-- the files after it are still read
pub read_named : (n : ℕ) (files : List ProjectFile) (name : List ℕ) → AreReadFrom n files → AreReadFrom n (with_name files name)
read_named n [] name h = (record { fixed = tt; first = λ own. refl; content = tt }, tt)
read_named n (f ∷ fs) name h = by (is_under name f) (read_named (suc n) fs name h.1) where
  by : (b : Bool) → AreReadFrom (suc n) (with_name fs name) → AreReadFrom n (cond b (f ∷ fs) (f ∷ with_name fs name))
  by true more = h
  by false more = (
    record {
      fixed = h.0.fixed;
      first = λ own. library_named fs name ∙ h.0.first own;
      content = h.0.content;
    },
    more,
  )

-- and a new name has the number after the last
pub numbers_named : (n : ℕ) (files : List ProjectFile) (name : List ℕ) (k : FileNo) → number_under files name ≡ length files
    → k.0 ≡ n + length files → insert_entry (pointwise nat_eq) (numbers_from n files) name k ≡ numbers_from n (with_name files name)
numbers_named n [] name k new is = let same : k.0 ≡ n = omega (arith, is) in ap (λ j. (name, record { 0 = j }) ∷ []) same
numbers_named n (f ∷ fs) name k new is = elim (bool_cases (is_under name f)) [
  | inl here ↦ absurd (omega (arith, new, number_here name f fs here))
  | inr far ↦
      let more = numbers_named (suc n) fs name k (omega (arith, number_far name f fs far, new)) (omega (arith, is)) in
      behind f.library far more ∙ sym (ap (λ b. numbers_from n (cond b (f ∷ fs) (f ∷ with_name fs name))) far)
] where
  behind : (b : Bool) → (not b && pointwise nat_eq name f.name) ≡ false
      → insert_entry (pointwise nat_eq) (numbers_from (suc n) fs) name k ≡ numbers_from (suc n) (with_name fs name)
      → insert_entry (pointwise nat_eq) (of_book b (f.name, record { 0 = n }) ++ numbers_from (suc n) fs) name k
      ≡ of_book b (f.name, record { 0 = n }) ++ numbers_from (suc n) (with_name fs name)
  behind true apart more = more
  behind false apart more =
      let number : FileNo = record { 0 = n } in
      ap (λ b. cond b ((f.name, k) ∷ numbers_from (suc n) fs) ((f.name, number) ∷ insert_entry (pointwise nat_eq) (numbers_from (suc n) fs) name k)) apart
      ∙ ap (λ es. (f.name, number) ∷ es) more

-- ---- a content at a number

-- a content at the place of a file of the book leaves the library
library_changed : (files : List ProjectFile) (i : ℕ) (c : Option Content)
    → ((f : ProjectFile) → slice_get files i ≡ Some f → f.library ≡ false) → library_in (with_content_at files i c) ≡ library_in files
library_changed [] i c own = refl
library_changed (f ∷ fs) zero c own = library_own (record f { content = c }) fs (own f refl) ∙ sym (library_own f fs (own f refl))
library_changed (f ∷ fs) (suc i) c own = ap (λ es. of_library f.library (f.name, text_of f) ++ es) (library_changed fs i c own)

-- the files after it are still read, if it is what the text is read as
pub read_changed : (n : ℕ) (files : List ProjectFile) (i : ℕ) (c : Option Content) → AreReadFrom n files
    → ((f : ProjectFile) → slice_get files i ≡ Some f → f.library ≡ false)
    → ((f : ProjectFile) → slice_get files i ≡ Some f → IsContentOf (record { 0 = n + i }) (language_of f.name) (text_in_content c) c)
    → AreReadFrom n (with_content_at files i c)
read_changed n [] i c h own on = tt
read_changed n (f ∷ fs) zero c h own on =
    let number : n + 0 ≡ n = omega arith in (
      record {
        fixed = subst (λ b. IsFixed b f.name c) (sym (own f refl)) tt;
        first = h.0.first;
        content = subst (λ k. IsContentOf (record { 0 = k }) (language_of f.name) (text_in_content c) c) number (on f refl);
      },
      h.1,
    )
read_changed n (f ∷ fs) (suc i) c h own on =
    let number : n + suc i ≡ suc n + i = omega arith in (
      record {
        fixed = h.0.fixed;
        first = λ is. library_changed fs i c own ∙ h.0.first is;
        content = h.0.content;
      },
      read_changed (suc n) fs i c h.1 own
          (λ g at. subst (λ k. IsContentOf (record { 0 = k }) (language_of g.name) (text_in_content c) c) number (on g at)),
    )

-- and the numbers are as before
pub numbers_changed : (n : ℕ) (files : List ProjectFile) (i : ℕ) (c : Option Content) → numbers_from n (with_content_at files i c) ≡ numbers_from n files
numbers_changed n [] i c = refl
numbers_changed n (f ∷ fs) zero c = refl
numbers_changed n (f ∷ fs) (suc i) c = ap (λ es. of_book f.library (f.name, record { 0 = n }) ++ es) (numbers_changed (suc n) fs i c)

-- a name is under a file of the book
pub own_at : (files : List ProjectFile) (name : List ℕ) (f : ProjectFile) → slice_get files (number_under files name) ≡ Some f → f.library ≡ false
own_at [] name f is = absurd (cc)
own_at (g ∷ gs) name f is = elim (bool_cases (is_under name g)) [
  | inl here ↦
      let same : g ≡ f = some_same g f (sym (ap (slice_get (g ∷ gs)) (number_here name g gs here)) ∙ is) in
      subst (λ (x : ProjectFile). x.library ≡ false) same (under_own name g here)
  | inr far ↦ own_at gs name f (sym (ap (slice_get (g ∷ gs)) (number_far name g gs far)) ∙ is)
]

-- so what stands at the number under a name, if one does
pub own_under : (files : List ProjectFile) (name : List ℕ) (at : ℕ) → number_under files name ≡ at
    → (f : ProjectFile) → slice_get files at ≡ Some f → f.library ≡ false
own_under files name at under f is = own_at files name f (ap (slice_get files) under ∙ is)

-- and at the number of a name that was added if it was new
pub own_named : (files : List ProjectFile) (name : List ℕ) (f : ProjectFile) → slice_get (with_name files name) (number_under files name) ≡ Some f
    → f.library ≡ false
own_named [] name f is = sym (ap (λ (x : ProjectFile). x.library) (some_same (record { name = name; library = false; content = None }) f is))
own_named (g ∷ gs) name f is = by (is_under name g) refl (own_named gs name f) is where
  by : (b : Bool) → is_under name g ≡ b → (slice_get (with_name gs name) (number_under gs name) ≡ Some f → f.library ≡ false)
      → slice_get (cond b (g ∷ gs) (g ∷ with_name gs name)) (cond b 0 (suc (number_under gs name))) ≡ Some f → f.library ≡ false
  by true here more at = subst (λ (x : ProjectFile). x.library ≡ false) (some_same g f at) (under_own name g here)
  by false far more at = more at

-- a move under a name leaves the library
pub library_moved : (before after : List ProjectFile) (name : List ℕ) → HaveMoved before after name → library_in after ≡ library_in before
library_moved before after name (inl same) = ap library_in same
library_moved before after name (inr (c, is)) = ap library_in is ∙ library_with before name c

-- a name that was given a content keeps its number
pub number_kept : (files : List ProjectFile) (name : List ℕ) (c : Option Content)
    → (number_under (with_content files name c) name ≡ number_under files name) × (number_under files name < length (with_content files name c))
number_kept [] name c =
    let here : pointwise nat_eq name name ≡ true = (bytes_decides name name).1 refl in
    (ap (λ b. cond b 0 1) here, omega arith)
number_kept (f ∷ fs) name c = elim (bool_cases (is_under name f)) [
  | inl here ↦
      let whole : with_content (f ∷ fs) name c ≡ record f { content = c } ∷ fs =
      ap (λ b. cond b (record f { content = c } ∷ fs) (f ∷ with_content fs name c)) here in
      let old : number_under (f ∷ fs) name ≡ 0 = ap (λ b. cond b 0 (suc (number_under fs name))) here in
      let new : number_under (record f { content = c } ∷ fs) name ≡ 0 = ap (λ b. cond b 0 (suc (number_under fs name))) here in
      subst (λ all. (number_under all name ≡ number_under (f ∷ fs) name) × (number_under (f ∷ fs) name < length all)) (sym whole)
      (new ∙ sym old, omega (arith, old))
  | inr far ↦
      let whole : with_content (f ∷ fs) name c ≡ f ∷ with_content fs name c =
      ap (λ b. cond b (record f { content = c } ∷ fs) (f ∷ with_content fs name c)) far in
      let more = number_kept fs name c in
      let old : number_under (f ∷ fs) name ≡ suc (number_under fs name) = ap (λ b. cond b 0 (suc (number_under fs name))) far in
      let new : number_under (f ∷ with_content fs name c) name ≡ suc (number_under (with_content fs name c) name) =
      ap (λ b. cond b 0 (suc (number_under (with_content fs name c) name))) far in
      subst (λ all. (number_under all name ≡ number_under (f ∷ fs) name) × (number_under (f ∷ fs) name < length all)) (sym whole)
      (new ∙ (ap suc more.0 ∙ sym old), omega (arith, old, more.1))
]

-- ---- what stands at a number

-- the content under a name is that at its number
pub content_found : (files : List ProjectFile) (name : List ℕ) → content_under files name ≡ content_at files (record { 0 = number_under files name })
content_found [] name = refl
content_found (f ∷ fs) name = elim (bool_cases (is_under name f)) [
  | inl here ↦
      ap (λ b. cond b f.content (content_under fs name)) here
      ∙ sym (ap (λ b. content_at (f ∷ fs) (record { 0 = cond b 0 (suc (number_under fs name)) })) here)
  | inr far ↦
      ap (λ b. cond b f.content (content_under fs name)) far
      ∙ (content_found fs name ∙ sym (ap (λ b. content_at (f ∷ fs) (record { 0 = cond b 0 (suc (number_under fs name)) })) far))
]

-- a content at the number of a name that is there is one under the name
pub content_put : (files : List ProjectFile) (name : List ℕ) (k : ℕ) (c : Option Content) → number_under files name ≡ k → k < length files
    → with_content_at files k c ≡ with_content files name c
content_put files name k c is below =
    ap (λ j. with_content_at files j c) (sym is)
    ∙ (ap (λ fs. with_content_at fs (number_under files name) c) (sym (name_stays files name (omega (arith, is, below)))) ∙ content_with files name c)

-- the bytes of a content are those of its text
pub sizes_same : (c : Option Content) → option_map (λ (x : Content). length x.text) c ≡ option_map length (text_in_content c)
sizes_same None = refl
sizes_same (Some x) = refl

-- after a move under a name the file there is still the book's
pub own_moved : (before after : List ProjectFile) (name : List ℕ) (file : FileNo) → number_under before name ≡ file.0 → HaveMoved before after name
    → IsOwn after file
own_moved before after name file place (inl same) = subst (λ files. IsOwn files file) (sym same) (own_under before name file.0 place)
own_moved before after name file place (inr (c, is)) =
    subst (λ files. IsOwn files file) (sym is) (own_under (with_content before name c) name file.0 ((number_kept before name c).0 ∙ place))
