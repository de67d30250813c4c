-- Present files are ranked in byte order of their names.
use Rattle.std.proofs.Common.{◌≡◌, ◌∙◌, ◌⊎◌, ℕ, suc, Bool, true, false, List, [], ◌∷◌, ◌++◌, refl, sym, ap, subst, inl, inr}
use Rattle.std.specs.Prelude.{Option, Some, None, map}
use Rattle.std.specs.Map.{keys_of}
use Rattle.std.specs.Cmp.{IsStrictWeakOrder}
use Rattle.std.specs.Cmp.Lexicographic.{slice_cmp}
use Rattle.std.specs.Ordering.{ordering_reverse, nat_cmp, is_lt}
use Rattle.std.specs.declared.cmp.Ordering.{Ordering}
use Rattle.std.specs.declared.cmp.Ordering.TheVariants.{Less, Equal, Greater}
use Rattle.std.proofs.lemmas.Cmp.{nat_list_cmp_total}
use Rattle.std.proofs.lemmas.List.MinMax.{ranks_by}
use Rattle.std.proofs.lemmas.Map.Lookups.{exact_bytes}
use Rattle.linker_base.specs.Members.{IsMember, IsEachOnce}
use Rattle.linker_base.specs.Orders.{AreInOrder}
use Rattle.book_model.specs.Book.{Book}
use Rattle.book_model.specs.Files.{LibraryTexts, Content, ProjectFile, Present, present_by, present, name_before, ranked, AreFilesFrom, AreFilesOf}
use Rattle.book_model.specs.Laws.{IsNotAbove, IsBelow, AreRanked}
use Rattle.book_model.proofs.FileLaws.{library_entry, book_entry}
use Rattle.book_model.proofs.SortingLaws.{sorted_same, sorted_once, sorted_order, sharper}

-- the test of names is one of an order
names_order : IsStrictWeakOrder name_before
names_order = ranks_by nat_list_cmp_total (λ (f : Present). f.name)

-- the ranked files are the present ones, in byte order
pub files_ranked : (files : List ProjectFile) → AreRanked files (ranked files)
files_ranked files = record {
  same = sorted_same name_before (present files);
  order = sorted_order name_before names_order (present files);
}

-- a name that isn't above another, and is another name, is below it
below_of : (xs ys : List ℕ) (o : Ordering) → slice_cmp nat_cmp xs ys ≡ o → is_lt (slice_cmp nat_cmp ys xs) ≡ false → (xs ≡ ys → ⊥) → o ≡ Less
below_of xs ys Less e up other = refl
below_of xs ys Equal e up other = absurd (other (exact_bytes xs ys e))
below_of xs ys Greater e up other =
    let turned : is_lt (slice_cmp nat_cmp ys xs) ≡ true = ap is_lt (nat_list_cmp_total.antisymm ys xs ∙ ap ordering_reverse e) in
    let bad : true ≡ false = sym turned ∙ up in cc

-- the names of the present files of a book are its own, each once
abbrev names_in : List ProjectFile → List (List ℕ)
names_in files = map (λ (f : Present). f.name) (present files)

-- a file of the book adds its name, or none
present_here : (name : List ℕ) (library : Bool) (c : Option Content) (fs : List ProjectFile) → library ≡ false
    → (map (λ (f : Present). f.name) (present_by name library c ++ present fs) ≡ names_in fs)
    ⊎ (map (λ (f : Present). f.name) (present_by name library c ++ present fs) ≡ name ∷ names_in fs)
present_here name true c fs e = let bad : true ≡ false = e in absurd (cc)
present_here name false None fs e = inl refl
present_here name false (Some c) fs e = inr refl

-- a file of the library adds none
present_elsewhere : (name : List ℕ) (library : Bool) (c : Option Content) (fs : List ProjectFile) → library ≡ true
    → map (λ (f : Present). f.name) (present_by name library c ++ present fs) ≡ names_in fs
present_elsewhere name true c fs e = refl
present_elsewhere name false c fs e = absurd (cc)

-- the names of present files are names of the book
book_names : (n : ℕ) (book : Book) (files : List ProjectFile) → AreFilesFrom n (map book_entry book) files → (x : List ℕ) → IsMember (names_in files) x
    → IsMember (keys_of book) x
book_names n [] [] are x m = absurd m
book_names n [] (f ∷ fs) are x m = absurd are
book_names n (e ∷ es) [] are x m = absurd are
book_names n (e ∷ es) (f ∷ fs) are x m = elim (present_here f.name f.library f.content fs are.0.library) [
  | inl gone ↦ inr (book_names (suc n) es fs are.1 x (subst (λ xs. IsMember xs x) gone m))
  | inr here ↦ elim (subst (λ xs. IsMember xs x) here m) [
    | inl q ↦ inl (sym are.0.name ∙ q)
    | inr h ↦ inr (book_names (suc n) es fs are.1 x h)
  ]
]

-- and stand once where those do
book_once : (n : ℕ) (book : Book) (files : List ProjectFile) → IsEachOnce (keys_of book) → AreFilesFrom n (map book_entry book) files
    → IsEachOnce (names_in files)
book_once n [] [] once are = tt
book_once n [] (f ∷ fs) once are = absurd are
book_once n (e ∷ es) [] once are = absurd are
book_once n (e ∷ es) (f ∷ fs) once are = elim (present_here f.name f.library f.content fs are.0.library) [
  | inl gone ↦ subst IsEachOnce (sym gone) (book_once (suc n) es fs once.1 are.1)
  | inr here ↦ subst IsEachOnce (sym here) (
    λ m. once.0 (subst (IsMember (keys_of es)) are.0.name (book_names (suc n) es fs are.1 f.name m)),
    book_once (suc n) es fs once.1 are.1,
  )
]

-- also behind a library
all_once : (n : ℕ) (library : LibraryTexts) (book : Book) (files : List ProjectFile) → IsEachOnce (keys_of book)
    → AreFilesFrom n (map library_entry library ++ map book_entry book) files → IsEachOnce (names_in files)
all_once n [] book files once are = book_once n book files once are
all_once n (e ∷ es) book [] once are = absurd are
all_once n (e ∷ es) book (f ∷ fs) once are =
    subst IsEachOnce (sym (present_elsewhere f.name f.library f.content fs are.0.library)) (all_once (suc n) es book fs once are.1)

-- so in a book in which each name stands once, the names of ranked files rise
pub ranked_rise : (book : Book) (library : LibraryTexts) (files : List ProjectFile) → IsEachOnce (keys_of book) → AreFilesOf book library files
    → AreInOrder IsBelow (ranked files)
ranked_rise book library files once are =
    sharper (λ (f : Present). f.name) IsNotAbove IsBelow (ranked files)
    (λ f g up other. below_of f.name g.name (slice_cmp nat_cmp f.name g.name) refl up other)
    (sorted_once (λ (f : Present). f.name) name_before (present files) (all_once 0 library book files once are)) (files_ranked files).order
