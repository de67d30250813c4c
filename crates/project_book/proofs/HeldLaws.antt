-- What an edit of the files does to their book.
use Rattle.std.proofs.Common.{◌≡◌, ◌∙◌, ℕ, suc, ◌+◌, ◌<◌, ◌≤◌, Bool, true, false, cond, nat_eq, List, [], ◌∷◌, length, refl, sym, ap, subst, arith, inl, inr}
use Rattle.std.specs.Prelude.{Option, Some, None, nat_lt, option_and_then}
use Rattle.std.specs.Option.{option_map, option_map_or, unwrap_or}
use Rattle.std.specs.Cmp.Lexicographic.{pointwise}
use Rattle.std.proofs.lemmas.Bool.Decides.{nat_tests}
use Rattle.linker_base.specs.declared.limits.TheConstants.{BOOK_BYTES, FILE_BYTES, NAMES}
use Rattle.linker_base.proofs.Cases.{bool_cases, some_same}
use Rattle.element_store.specs.declared.numbers.FileNo.{FileNo}
use Rattle.book_model.specs.declared.edit.Edit.{Edit}
use Rattle.book_model.specs.declared.edit.Edit.TheVariants.{Put, Drop}
use Rattle.book_model.specs.Book.{Book, Edited, edited, dropped, text_in, with_entry, put_in, bytes_in}
use Rattle.book_model.specs.Files.{Content, ProjectFile, content_under, is_under, number_under, with_content}
use Rattle.book_model.specs.Proper.{IsWithin}
use Rattle.book_model.proofs.FileLaws.{texts_found}
use Rattle.book_model.proofs.EditLaws.{edit_within}
use Rattle.project_files.specs.Kept.{content_at}
use Rattle.project_book.specs.Named.{text_in_content, book_of, library_in, AreReadFrom, AreRead, IsNumberUnder, IsKeptUnder}
use Rattle.project_book.specs.Held.{IsSized}
use Rattle.project_book.proofs.NamedLaws.{under_is, under_none, number_here, number_far, book_fixed, book_own, book_with, library_with, files_of_book, content_found}

-- ---- how many names and bytes

up : (n : ℕ) → suc (n + 1) ≡ suc n + 1
up n = omega arith

-- a text under a name that is there makes the book no longer, and under a new one by one name
names_put : (files : List ProjectFile) (name text : List ℕ)
    → (number_under files name < length files → length (put_in (book_of files) name text) ≡ length (book_of files))
    × (number_under files name ≡ length files → length (put_in (book_of files) name text) ≡ length (book_of files) + 1)
names_put [] name text = (λ below. absurd (omega (arith, below)), λ new. refl)
names_put (f ∷ fs) name text = elim (bool_cases f.library) [
  | inl fixed ↦
      let under = number_far name f fs (under_none name f fixed) in
      let more = names_put fs name text in
      let book = book_fixed f fs fixed in
      subst (λ book. (number_under (f ∷ fs) name < length (f ∷ fs) → length (put_in book name text) ≡ length book)
      × (number_under (f ∷ fs) name ≡ length (f ∷ fs) → length (put_in book name text) ≡ length book + 1)) (sym book)
      (λ below. more.0 (omega (arith, under, below)), λ new. more.1 (omega (arith, under, new)))
  | inr own ↦
      subst (λ book. (number_under (f ∷ fs) name < length (f ∷ fs) → length (put_in book name text) ≡ length book)
      × (number_under (f ∷ fs) name ≡ length (f ∷ fs) → length (put_in book name text) ≡ length book + 1)) (sym (book_own f fs own))
      (by (pointwise nat_eq name f.name) (under_is name f own) (names_put fs name text))
] where
  by : (b : Bool) → is_under name f ≡ b
      → (number_under fs name < length fs → length (put_in (book_of fs) name text) ≡ length (book_of fs))
      × (number_under fs name ≡ length fs → length (put_in (book_of fs) name text) ≡ length (book_of fs) + 1)
      → (number_under (f ∷ fs) name < length (f ∷ fs)
      → length (cond b ((f.name, Some text) ∷ book_of fs) ((f.name, text_in_content f.content) ∷ put_in (book_of fs) name text)) ≡ suc (length (book_of fs)))
      × (number_under (f ∷ fs) name ≡ length (f ∷ fs)
      → length (cond b ((f.name, Some text) ∷ book_of fs) ((f.name, text_in_content f.content) ∷ put_in (book_of fs) name text))
      ≡ suc (length (book_of fs)) + 1)
  by true is more = (λ below. refl, λ new. absurd (omega (arith, number_here name f fs is, new)))
  by false is more = (
    λ below. ap suc (more.0 (omega (arith, number_far name f fs is, below))),
    λ new. ap suc (more.1 (omega (arith, number_far name f fs is, new))) ∙ up (length (book_of fs)),
  )

pub names_old : (files : List ProjectFile) (name text : List ℕ) → number_under files name < length files
    → length (put_in (book_of files) name text) ≡ length (book_of files)
names_old files name text below = (names_put files name text).0 below

pub names_new : (files : List ProjectFile) (name text : List ℕ) → number_under files name ≡ length files
    → length (put_in (book_of files) name text) ≡ length (book_of files) + 1
names_new files name text new = (names_put files name text).1 new

-- how many bytes stand under the name
abbrev pub held_in : Book → List ℕ → ℕ
held_in book name = option_map_or length (text_in book name) 0

-- a put adds the bytes of its text, and takes away those that stood under the name
pub bytes_put : (book : Book) (name : List ℕ) (text : Option (List ℕ))
    → bytes_in (with_entry book name text) + held_in book name ≡ bytes_in book + option_map_or length text 0
bytes_put [] name text = omega arith
bytes_put (e ∷ es) name text = elim (bool_cases (pointwise nat_eq name e.0)) [
  | inl is ↦ rw is (omega arith)
  | inr other ↦ let more = bytes_put es name text in rw other (omega (arith, more))
]

-- the bytes under a name are among all
pub held_most : (book : Book) (name : List ℕ) → held_in book name ≤ bytes_in book
held_most [] name = omega arith
held_most (e ∷ es) name = elim (bool_cases (pointwise nat_eq name e.0)) [
  | inl is ↦ rw is (omega arith)
  | inr other ↦ rw other (omega (arith, held_most es name))
]

-- ---- whether a put is refused

pub put_fits : (book : Book) (name text : List ℕ) → length text ≤ 1048576 → length (put_in book name text) ≤ 1024 → bytes_in (put_in book name text) ≤ 33554432
    → edited book (Put name text) ≡ Edited.Changed (put_in book name text)
put_fits book name text a b c = grind (arith, nat_tests)

pub text_full : (book : Book) (name text : List ℕ) → 1048576 < length text → edited book (Put name text) ≡ Edited.Limit 1048576
text_full book name text a = grind (arith, nat_tests)

pub names_full : (book : Book) (name text : List ℕ) → length text ≤ 1048576 → 1024 < length (put_in book name text)
    → edited book (Put name text) ≡ Edited.Limit 1024
names_full book name text a b = grind (arith, nat_tests)

pub bytes_full : (book : Book) (name text : List ℕ) → length text ≤ 1048576 → length (put_in book name text) ≤ 1024
    → 33554432 < bytes_in (put_in book name text) → edited book (Put name text) ≡ Edited.Limit 33554432
bytes_full book name text a b c = grind (arith, nat_tests)

-- ---- texts

-- the text under a name is that at its number
pub text_there : (files : List ProjectFile) (name : List ℕ) (file : FileNo) → AreRead files → number_under files name ≡ file.0
    → text_in (book_of files) name ≡ text_in_content (content_at files file)
text_there files name file h is =
    sym (texts_found (book_of files) (library_in files) files name (files_of_book 0 files h))
    ∙ (ap text_in_content (content_found files name) ∙ ap (λ k. text_in_content (content_at files (record { 0 = k }))) is)

-- no file stands behind the last
pub none_behind : (files : List ProjectFile) → content_at files (record { 0 = length files }) ≡ None
none_behind [] = refl
none_behind (f ∷ fs) = none_behind fs

-- and under a new name there is none
pub text_nowhere : (files : List ProjectFile) (name : List ℕ) → AreRead files → number_under files name ≡ length files
    → text_in (book_of files) name ≡ None
text_nowhere files name h new =
    text_there files name (record { 0 = length files }) h new ∙ ap text_in_content (none_behind files)

-- ---- what an edit leaves

-- a put that has room does what it should
pub put_done : (before after : List ProjectFile) (name text : List ℕ) (file : FileNo) → IsKeptUnder before after name text file
    → edited (book_of before) (Put name text) ≡ Edited.Changed (put_in (book_of before) name text)
    → edited (book_of before) (Put name text) ≡ Edited.Changed (book_of after)
put_done before after name text file k is =
    let changed = book_with before name (Some k.content) ∙ ap (λ t. with_entry (book_of before) name (Some t)) k.text_is in
    is ∙ ap Edited.Changed (sym (ap book_of k.files ∙ changed))

-- changed books are the same
changed_same : (a b : Book) → Edited.Changed a ≡ Edited.Changed b → a ≡ b
changed_same a b e = cc

-- and leaves a book within its limits
pub put_sized : (before after : List ProjectFile) (bytes size : ℕ) (name text : List ℕ) → IsSized before bytes
    → library_in after ≡ library_in before → edited (book_of before) (Put name text) ≡ Edited.Changed (put_in (book_of before) name text)
    → edited (book_of before) (Put name text) ≡ Edited.Changed (book_of after)
    → size ≡ bytes_in (put_in (book_of before) name text) → IsSized after size
put_sized before after bytes size name text h fixed is done same =
    let book : put_in (book_of before) name text ≡ book_of after = changed_same _ _ (sym is ∙ done) in
    record {
      bytes_are = same ∙ ap bytes_in book;
      within = edit_within (book_of before) (Put name text) (book_of after) h.within done;
      few = omega (arith, h.few, ap length fixed);
    }

-- a drop that finds a text does what it should
pub drop_done : (before after : List ProjectFile) (name text : List ℕ) → text_in (book_of before) name ≡ Some text
    → after ≡ with_content before name None → edited (book_of before) (Drop name) ≡ Edited.Changed (book_of after)
drop_done before after name text at is =
    ap (dropped (book_of before) name) at ∙ ap Edited.Changed (sym (ap book_of is ∙ book_with before name None))

-- and leaves the bytes without its own
pub drop_sized : (before after : List ProjectFile) (bytes size : ℕ) (name text : List ℕ) → IsSized before bytes
    → text_in (book_of before) name ≡ Some text → size + length text ≡ bytes → after ≡ with_content before name None → IsSized after size
drop_sized before after bytes size name text sized at same is =
    let book : book_of after ≡ with_entry (book_of before) name None = ap book_of is ∙ book_with before name None in
    let less = bytes_put (book_of before) name None in
    let held : held_in (book_of before) name ≡ length text = ap (λ o. option_map_or length o 0) at in record {
      bytes_are = omega (arith, same, less, held, sized.bytes_are, ap bytes_in book);
      within = edit_within (book_of before) (Drop name) (book_of after) sized.within (drop_done before after name text at is);
      few = omega (arith, sized.few, ap length (ap library_in is ∙ library_with before name None));
    }

-- the bytes that a text under a name has are among all
pub drop_fits : (files : List ProjectFile) (bytes : ℕ) (name text : List ℕ) → IsSized files bytes → text_in (book_of files) name ≡ Some text
    → length text ≤ bytes
drop_fits files bytes name text sized at =
    let held : held_in (book_of files) name ≡ length text = ap (λ o. option_map_or length o 0) at in
    omega (arith, held, held_most (book_of files) name, sized.bytes_are)

-- a text of so many bytes
pub text_sized : (o : Option (List ℕ)) (size : ℕ) → Some size ≡ option_map length o → (text : List ℕ) × (o ≡ Some text) × (length text ≡ size)
text_sized None size is = absurd (cc)
text_sized (Some text) size is = (text, refl, sym (some_same size (length text) is))

-- none, where no text stands
pub held_by : (o : Option (List ℕ)) → unwrap_or (option_map length o) 0 ≡ option_map_or length o 0
held_by None = refl
held_by (Some text) = refl
