-- A file of the library more: it goes last, where the book has no files yet.
use Rattle.std.proofs.Common.{◌≡◌, ◌∙◌, ℕ, zero, suc, ◌+◌, ◌<◌, ◌≤◌, Bool, true, false, List, [], ◌∷◌, ◌++◌, length, map, take, get_or, refl, sym, ap, subst, arith, inl, inr}
use Rattle.std.specs.Prelude.{Option, Some, None, slice_get}
use Rattle.library_texts.specs.declared.file.LibraryFile.{LibraryFile}
use Rattle.linker_base.specs.Members.{IsMember, IsEachOnce}
use Rattle.linker_base.proofs.Cases.{bool_cases}
use Rattle.element_store.specs.declared.numbers.FileNo.{FileNo}
use Rattle.element_store.specs.FileNames.{is_file_name}
use Rattle.element_store.specs.Model.{Data}
use Rattle.text_model.specs.declared.fault.FileFault.{FileFault}
use Rattle.book_model.specs.Book.{bytes_in}
use Rattle.book_model.specs.Proper.{IsProperLibrary, IsWithin}
use Rattle.book_model.specs.Readings.{language_of}
use Rattle.book_model.specs.Files.{Content, ProjectFile, IsContentOf, name_at, text_of}
use Rattle.project_files.specs.Kept.{MayKeep, content_of, with_content_at}
use Rattle.project_book.specs.Held.{IsSized, texts_of}
use Rattle.project_book.specs.Named.{text_in_content, of_book, of_library, library_in, book_of, numbers_from, IsFixed, AreRead, AreReadFrom, IsReadAs}
use Rattle.project_book.proofs.NamedLaws.{book_fixed, book_own, files_long, library_fixed}
use Rattle.project_book.proofs.ReadLaws.{read_content, read_kept}

-- a book without files has none of its own
none_own : (f : ProjectFile) (fs : List ProjectFile) → book_of (f ∷ fs) ≡ [] → f.library ≡ true
none_own f fs empty = elim (bool_cases f.library) [
  | inl fixed ↦ fixed
  | inr own ↦ absurd (some_entry (sym (book_own f fs own) ∙ empty))
] where
  some_entry : (f.name, text_in_content f.content) ∷ book_of fs ≡ [] → ⊥
  some_entry e = cc

none_behind : (f : ProjectFile) (fs : List ProjectFile) → book_of (f ∷ fs) ≡ [] → book_of fs ≡ []
none_behind f fs empty = sym (book_fixed f fs (none_own f fs empty)) ∙ empty

-- then the files' names are those of the library
pub names_fixed : (files : List ProjectFile) → book_of files ≡ [] → map (λ f. f.name) files ≡ map (λ e. e.0) (library_in files)
names_fixed [] empty = refl
names_fixed (f ∷ fs) empty =
    ap (λ ns. f.name ∷ ns) (names_fixed fs (none_behind f fs empty)) ∙ sym (ap (map (λ e. e.0)) (library_fixed f fs (none_own f fs empty)))

-- a file of the library may go last
pub read_last : (n : ℕ) (files : List ProjectFile) (g : ProjectFile) → book_of files ≡ [] → g.library ≡ true → AreReadFrom n files
    → IsFixed g.library g.name g.content → IsContentOf (record { 0 = n + length files }) (language_of g.name) (text_in_content g.content) g.content
    → AreReadFrom n (files ++ g ∷ [])
read_last n [] g empty fixed h is content =
    let number : n + 0 ≡ n = omega arith in (
      record {
        fixed = is;
        first = λ own. refl;
        content = subst (λ k. IsContentOf (record { 0 = k }) (language_of g.name) (text_in_content g.content) g.content) number content;
      },
      tt,
    )
read_last n (f ∷ fs) g empty fixed h is content =
    let number : n + suc (length fs) ≡ suc n + length fs = omega arith in (
      record {
        fixed = h.0.fixed;
        first = λ own. absurd (both f.library (none_own f fs empty) own);
        content = h.0.content;
      },
      read_last (suc n) fs g (none_behind f fs empty) fixed h.1 is
          (subst (λ k. IsContentOf (record { 0 = k }) (language_of g.name) (text_in_content g.content) g.content) number content),
    )
  where
    both : (b : Bool) → b ≡ true → b ≡ false → ⊥
    both b yes_is no_is = cc

-- with its name and text last in the library
pub library_last : (files : List ProjectFile) (g : ProjectFile) → g.library ≡ true
    → library_in (files ++ g ∷ []) ≡ library_in files ++ (g.name, text_of g) ∷ []
library_last [] g fixed = library_fixed g [] fixed
library_last (f ∷ fs) g fixed = by f.library (library_last fs g fixed) where
  by : (b : Bool) → library_in (fs ++ g ∷ []) ≡ library_in fs ++ (g.name, text_of g) ∷ []
      → of_library b (f.name, text_of f) ++ library_in (fs ++ g ∷ []) ≡ (of_library b (f.name, text_of f) ++ library_in fs) ++ (g.name, text_of g) ∷ []
  by true more = ap (λ es. (f.name, text_of f) ∷ es) more
  by false more = more

-- and the book as it was
pub book_last : (files : List ProjectFile) (g : ProjectFile) → g.library ≡ true → book_of (files ++ g ∷ []) ≡ book_of files
book_last [] g fixed = book_fixed g [] fixed
book_last (f ∷ fs) g fixed = ap (λ es. of_book f.library (f.name, text_in_content f.content) ++ es) (book_last fs g fixed)

-- with its numbers
pub numbers_last : (n : ℕ) (files : List ProjectFile) (g : ProjectFile) → g.library ≡ true → numbers_from n (files ++ g ∷ []) ≡ numbers_from n files
numbers_last n [] g fixed = ap (λ b. of_book b (g.name, record { 0 = n }) ++ []) fixed
numbers_last n (f ∷ fs) g fixed = ap (λ es. of_book f.library (f.name, record { 0 = n }) ++ es) (numbers_last (suc n) fs g fixed)

-- the last file's content is put at its place
pub content_last : (files : List ProjectFile) (g : ProjectFile) (k : ℕ) (c : Option Content) → k ≡ length files
    → with_content_at (files ++ g ∷ []) k c ≡ files ++ record g { content = c } ∷ []
content_last files g k c is = ap (λ j. with_content_at (files ++ g ∷ []) j c) is ∙ at_end files where
  at_end : (files : List ProjectFile) → with_content_at (files ++ g ∷ []) (length files) c ≡ files ++ record g { content = c } ∷ []
  at_end [] = refl
  at_end (f ∷ fs) = ap (λ xs. f ∷ xs) (at_end fs)

-- where it has its name
pub name_at_last : (files : List ProjectFile) (g : ProjectFile) (k : FileNo) → k.0 ≡ length files → name_at (files ++ g ∷ []) k ≡ g.name
name_at_last files g k is = ap (λ j. name_at (files ++ g ∷ []) (record { 0 = j })) is ∙ at_end files where
  at_end : (files : List ProjectFile) → name_at (files ++ g ∷ []) (record { 0 = length files }) ≡ g.name
  at_end [] = refl
  at_end (f ∷ fs) = at_end fs

-- a list with one more
pub longer : {A : Type 0} (xs : List A) (x : A) → length (xs ++ x ∷ []) ≡ length xs + 1
longer [] x = refl
longer (y ∷ xs) x = let more = longer xs x in omega (arith, more)

-- ---- a file of the library, for the code

-- such a file more is read, and goes last in the library
pub record IsLibraryMore (files after : List ProjectFile) (name text : List ℕ) : Type 0 where
  pub read : AreRead files → AreRead after
  pub library_is : library_in after ≡ library_in files ++ (name, text) ∷ []
  pub empty : book_of after ≡ []
  pub numbers : numbers_from 0 after ≡ numbers_from 0 files

-- a file without a text
abbrev pub bare : List ℕ → ProjectFile
bare name = record { name = name; library = true; content = None }

pub library_more : (files after : List ProjectFile) (number : FileNo) (name text : List ℕ) (fault : Option FileFault) (d : Data) → book_of files ≡ []
    → number.0 ≡ length files → IsReadAs number (language_of name) text fault d → is_file_name name ≡ false
    → after ≡ with_content_at (files ++ bare name ∷ []) number.0 (content_of (Some d) (Some (record { text = text; fault = fault })))
    → IsLibraryMore files after name text
library_more files after number name text fault d empty place is apart same = record {
  read = λ h. subst AreRead (sym whole) (read_last 0 files g empty refl h apart content);
  library_is = ap library_in whole ∙ library_last files g refl;
  empty = ap book_of whole ∙ (book_last files g refl ∙ empty);
  numbers = ap (numbers_from 0) whole ∙ numbers_last 0 files g refl;
} where
  c : Option Content
  c = content_of (Some d) (Some (record { text = text; fault = fault }))

  g : ProjectFile
  g = record { name = name; library = true; content = c }

  whole : after ≡ files ++ g ∷ []
  whole = same ∙ content_last files (bare name) number.0 c place

  content : IsContentOf (record { 0 = 0 + length files }) (language_of name) (text_in_content c) c
  content =
      let at : number.0 ≡ 0 + length files = omega (arith, place) in
      subst (λ k. IsContentOf (record { 0 = k }) (language_of name) (text_in_content c) c) at (read_content number (language_of name) text fault d is)

-- it may be kept there
pub library_may : (files : List ProjectFile) (number : FileNo) (name text : List ℕ) (fault : Option FileFault) (d : Data) → number.0 ≡ length files
    → IsReadAs number (language_of name) text fault d
    → MayKeep number (name_at (files ++ bare name ∷ []) number) (record { text = text; fault = fault }) d
library_may files number name text fault d place is =
    subst (λ n. MayKeep number n (record { text = text; fault = fault }) d) (sym (name_at_last files (bare name) number place))
    (read_kept number name text fault d is)

-- ---- the files of a library, one after the other

-- so many were added
pub record AreAdded (files : List ProjectFile) (library : List LibraryFile) (i : ℕ) : Type 0 where
  pub texts : library_in files ≡ texts_of (take i library)
  pub empty : book_of files ≡ []

take_from : (xs : List LibraryFile) (i : ℕ) (d : LibraryFile) → i < length xs → take (suc i) xs ≡ take i xs ++ get_or xs i d ∷ []
take_from [] i d lt = absurd (omega (arith, lt))
take_from (x ∷ xs) zero d lt = refl
take_from (x ∷ xs) (suc i) d lt = ap (λ ys. x ∷ ys) (take_from xs i d (omega (arith, lt)))

take_next : (xs : List LibraryFile) (i : ℕ) (d : LibraryFile) → i < length xs → take (i + 1) xs ≡ take i xs ++ get_or xs i d ∷ []
take_next xs i d lt = let up : i + 1 ≡ suc i = omega arith in ap (λ k. take k xs) up ∙ take_from xs i d lt

texts_last : (xs : List LibraryFile) (x : LibraryFile) → texts_of (xs ++ x ∷ []) ≡ texts_of xs ++ (x.name.now, x.text.now) ∷ []
texts_last [] x = refl
texts_last (y ∷ xs) x = ap (λ ys. (y.name.now, y.text.now) ∷ ys) (texts_last xs x)

-- one more
pub added_next : (files after : List ProjectFile) (library : List LibraryFile) (i : ℕ) (d : LibraryFile) → i < length library → AreAdded files library i
    → library_in after ≡ library_in files ++ ((get_or library i d).name.now, (get_or library i d).text.now) ∷ [] → book_of after ≡ []
    → AreAdded after library (i + 1)
added_next files after library i d lt h is empty = record {
  texts = is ∙ (ap (λ es. es ++ ((get_or library i d).name.now, (get_or library i d).text.now) ∷ []) h.texts
      ∙ (sym (texts_last (take i library) (get_or library i d)) ∙ ap texts_of (sym (take_next library i d lt))));
  empty = empty;
}

-- a file of the library is among its texts
pub library_member : (library : List LibraryFile) (i : ℕ) (d : LibraryFile) → i < length library
    → IsMember (texts_of library) ((get_or library i d).name.now, (get_or library i d).text.now)
library_member [] i d lt = absurd (omega (arith, lt))
library_member (x ∷ xs) zero d lt = inl refl
library_member (x ∷ xs) (suc i) d lt = inr (library_member xs i d (omega (arith, lt)))

-- and its name is none of those before it
name_apart : (library : List LibraryFile) (i : ℕ) (d : LibraryFile) → i < length library → IsEachOnce (map (λ e. e.0) (texts_of library))
    → IsMember (map (λ e. e.0) (texts_of (take i library))) (get_or library i d).name.now → ⊥
name_apart [] i d lt once m = absurd (omega (arith, lt))
name_apart (x ∷ xs) zero d lt once m = m
name_apart (x ∷ xs) (suc i) d lt once (inl is) =
    once.0 (subst (λ n. IsMember (map (λ e. e.0) (texts_of xs)) n) (sym is) (name_member xs i d (omega (arith, lt)))) where
      name_member : (xs : List LibraryFile) (i : ℕ) (d : LibraryFile) → i < length xs → IsMember (map (λ e. e.0) (texts_of xs)) (get_or xs i d).name.now
      name_member [] i d lt = absurd (omega (arith, lt))
      name_member (y ∷ ys) zero d lt = inl refl
      name_member (y ∷ ys) (suc i) d lt = inr (name_member ys i d (omega (arith, lt)))
name_apart (x ∷ xs) (suc i) d lt once (inr m) = name_apart xs i d (omega (arith, lt)) once.1 m

pub library_fresh : (files : List ProjectFile) (library : List LibraryFile) (i : ℕ) (d : LibraryFile) → i < length library
    → IsProperLibrary (texts_of library) → AreAdded files library i
    → IsMember (map (λ e. e.0) (library_in files)) (get_or library i d).name.now → ⊥
library_fresh files library i d lt proper h m =
    name_apart library i d lt proper.once (subst (λ es. IsMember (map (λ e. e.0) es) (get_or library i d).name.now) h.texts m)

-- there is room for it
pub library_room : (files : List ProjectFile) (library : List LibraryFile) (i : ℕ) → i < length library → IsProperLibrary (texts_of library)
    → AreAdded files library i → length files < 4294967295
library_room files library i lt proper h =
    let long = files_long files in
    let texts = ap length h.texts ∙ texts_long (take i library) in
    let empty = ap length h.empty in
    let few = subst (λ n. n ≤ 64) (texts_long library) proper.few in
    omega (arith, lt, long, texts, empty, few, take_few library i)
  where
    texts_long : (xs : List LibraryFile) → length (texts_of xs) ≡ length xs
    texts_long [] = refl
    texts_long (x ∷ xs) = ap suc (texts_long xs)

    take_few : (xs : List LibraryFile) (i : ℕ) → length (take i xs) ≤ length xs
    take_few xs zero = omega arith
    take_few [] (suc i) = omega arith
    take_few (x ∷ xs) (suc i) = let more = take_few xs i in omega (arith, more)

-- ALL ARE ADDED, and the book is empty
pub library_opened : (files : List ProjectFile) (library : List LibraryFile) (i : ℕ) → length library ≤ i → AreAdded files library i
    → library_in files ≡ texts_of library
library_opened files library i le h = h.texts ∙ ap texts_of (take_all library i le) where
  take_all : (xs : List LibraryFile) (i : ℕ) → length xs ≤ i → take i xs ≡ xs
  take_all [] zero le = refl
  take_all [] (suc i) le = refl
  take_all (x ∷ xs) zero le = absurd (omega (arith, le))
  take_all (x ∷ xs) (suc i) le = ap (λ ys. x ∷ ys) (take_all xs i (omega (arith, le)))

pub opened_sized : (files : List ProjectFile) (library : List LibraryFile) → IsProperLibrary (texts_of library) → library_in files ≡ texts_of library
    → book_of files ≡ [] → IsSized files 0
opened_sized files library proper is empty = record {
  bytes_are = ap bytes_in (sym empty);
  within = subst IsWithin (sym empty) (record { names = omega arith; bytes = omega arith });
  few = subst (λ es. length es ≤ 64) (sym is) proper.few;
}

-- no library at all is a proper one
pub none_proper : (library : List LibraryFile) → library ≡ [] → IsProperLibrary (texts_of library)
none_proper library none = subst (λ fs. IsProperLibrary (texts_of fs)) (sym none) proper where
  proper : IsProperLibrary []
  proper = record { few = omega arith; once = tt; apart = λ e m. absurd m; short = λ e m. absurd m }
