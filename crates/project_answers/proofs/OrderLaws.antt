-- The present files of a book, by the ranks of all files, are the ranked ones.
use Rattle.std.proofs.Common.{◌≡◌, ◌∙◌, ◌⊎◌, ◌+◌, ◌<◌, ◌≤◌, ℕ, zero, suc, Bool, true, false, List, [], ◌∷◌, ◌++◌, length, map, refl, sym, ap, subst, inl, inr, arith}
use Rattle.std.specs.Prelude.{All, not, slice_get, Option, Some, None}
use Rattle.std.specs.List.{flat_map}
use Rattle.std.specs.Map.{keys_of}
use Rattle.std.specs.Cmp.Lexicographic.{slice_cmp}
use Rattle.std.specs.Ordering.{ordering_reverse, nat_cmp, is_lt}
use Rattle.std.specs.declared.cmp.Ordering.{Ordering}
use Rattle.std.specs.declared.cmp.Ordering.TheVariants.{Less, Equal, Greater}
use Rattle.std.proofs.lemmas.Cmp.{nat_list_cmp_total}
use Rattle.linker_base.specs.Members.{IsMember, SameMembers, IsEachOnce}
use Rattle.linker_base.specs.Orders.{AreInOrder}
use Rattle.linker_base.proofs.Cases.{some_same}
use Rattle.linker_base.proofs.MemberLaws.{member_left, member_right, member_cases, same_through}
use Rattle.linker_base.proofs.OrderLaws.{order_pins}
use Rattle.element_store.specs.declared.numbers.FileNo.{FileNo}
use Rattle.element_store.specs.declared.models.StoredFile.{StoredFile}
use Rattle.element_store.specs.Numbers.{those_where}
use Rattle.element_store.specs.Stored.{in_order, stands_before, rank_of, HasRank, AreFiles}
use Rattle.element_store.proofs.RankLaws.{where_few, before_other, library_above, project_below, rank_lt, rank_once, name_once}
use Rattle.book_model.specs.Files.{Content, ProjectFile, Present, present_by, present, ranked, stored_file, stored_from, stored}
use Rattle.book_model.specs.Laws.{IsBelow}
use Rattle.book_model.proofs.RankedLaws.{files_ranked, ranked_rise}
use Rattle.project_book.specs.Named.{text_in_content, of_book, library_in, book_of, AreOfBook, IsOwn}
use Rattle.project_answers.specs.Wrong.{present_at, presents}

-- ---- lists

-- a member has a place
place_of_member : {A : Type 0} (xs : List A) (y : A) → IsMember xs y → (i : ℕ) × (slice_get xs i ≡ Some y)
place_of_member [] y m = absurd m
place_of_member (x ∷ xs) y (inl e) = (zero, ap (λ z. Some z) e)
place_of_member (x ∷ xs) y (inr m) = let at = place_of_member xs y m in (suc at.0, at.1)

-- a place where something stands is below the length
below : {A : Type 0} (xs : List A) (i : ℕ) (x : A) → slice_get xs i ≡ Some x → i < length xs
below [] i x e = cc
below (y ∷ xs) zero x e = omega arith
below (y ∷ xs) (suc i) x e = let lt = below xs i x e in omega (arith, lt)

-- at a place below the length stands a member
stands_at : {A : Type 0} (xs : List A) (i : ℕ) → i < length xs → (x : A) × (slice_get xs i ≡ Some x)
stands_at [] i lt = absurd (omega (arith, lt))
stands_at (x ∷ xs) zero lt = (x, refl)
stands_at (x ∷ xs) (suc i) lt = stands_at xs i (omega (arith, lt))

member_at : {A : Type 0} (xs : List A) (i : ℕ) (x : A) → slice_get xs i ≡ Some x → IsMember xs x
member_at [] i x e = cc
member_at (y ∷ xs) zero x e = inl (some_same y x e)
member_at (y ∷ xs) (suc i) x e = inr (member_at xs i x e)

-- a list is in order where each of two items is related so
in_order_by : {A : Type 0} (R : A → A → Type 0) (xs : List A)
    → ((i j : ℕ) (x y : A) → i < j → slice_get xs i ≡ Some x → slice_get xs j ≡ Some y → R x y) → AreInOrder R xs
in_order_by R [] h = tt
in_order_by R (x ∷ xs) h = (
  λ y m. let at = place_of_member xs y m in h zero (suc at.0) x y (omega arith) refl at.1,
  in_order_by R xs (λ i j y z lt a b. h (suc i) (suc j) y z (omega (arith, lt)) a b),
)

-- what items tell is told by one of them
told_by : {A B : Type 0} (f : A → List B) (xs : List A) (y : B) → IsMember (flat_map f xs) y → (x : A) × IsMember xs x × IsMember (f x) y
told_by f [] y m = absurd m
told_by f (x ∷ xs) y m = elim (member_cases (f x) (flat_map f xs) y m) [
  | inl here ↦ (x, inl refl, here)
  | inr there ↦ let t = told_by f xs y there in (t.0, inr t.1, t.2)
]

tells : {A B : Type 0} (f : A → List B) (xs : List A) (x : A) (y : B) → IsMember xs x → IsMember (f x) y → IsMember (flat_map f xs) y
tells f [] x y m t = absurd m
tells f (z ∷ xs) x y (inl e) t = member_left (f z) (flat_map f xs) y (subst (λ w. IsMember (f w) y) (sym e) t)
tells f (z ∷ xs) x y (inr m) t = member_right (f z) (flat_map f xs) y (tells f xs x y m t)

-- an item tells one thing or nothing
abbrev IsShort : {B : Type 0} → List B → Type 0
IsShort {B} ys = (ys ≡ []) ⊎ ((y : B) × (ys ≡ y ∷ []))

-- what items in order tell is in order
told_in_order : {A B : Type 0} (f : A → List B) (R : A → A → Type 0) (S : B → B → Type 0) (xs : List A) → ((x : A) → IsShort (f x))
    → ((x y : A) (b c : B) → R x y → IsMember (f x) b → IsMember (f y) c → S b c) → AreInOrder R xs → AreInOrder S (flat_map f xs)
told_in_order f R S [] short has order = tt
told_in_order f R S (x ∷ xs) short has order = elim (short x) [
  | inl none ↦ subst (λ ys. AreInOrder S (ys ++ flat_map f xs)) (sym none) (told_in_order f R S xs short has order.1)
  | inr one ↦ subst (λ ys. AreInOrder S (ys ++ flat_map f xs)) (sym one.1) (
    λ c m. let t = told_by f xs c m in
        has x t.0 one.0 c (order.0 t.0 t.1) (subst (λ ys. IsMember ys one.0) (sym one.1) (inl refl)) t.2,
    told_in_order f R S xs short has order.1,
  )
]

-- ---- files and what is stored of them

stored_at_from : (n : ℕ) (files : List ProjectFile) (i : ℕ) (f : ProjectFile) → slice_get files i ≡ Some f
    → (x : StoredFile) × (slice_get (stored_from n files) i ≡ Some x) × (x.name ≡ f.name) × (x.library ≡ f.library)
stored_at_from n [] i f e = cc
stored_at_from n (g ∷ files) zero f e =
    let is = some_same g f e in (stored_file (record { 0 = n }) g, refl, ap (λ h. h.name) is, ap (λ h. h.library) is)
stored_at_from n (g ∷ files) (suc i) f e = stored_at_from (suc n) files i f e

file_at_from : (n : ℕ) (files : List ProjectFile) (i : ℕ) (x : StoredFile) → slice_get (stored_from n files) i ≡ Some x
    → (f : ProjectFile) × (slice_get files i ≡ Some f) × (x.name ≡ f.name) × (x.library ≡ f.library)
file_at_from n [] i x e = cc
file_at_from n (g ∷ files) zero x e =
    let is = some_same (stored_file (record { 0 = n }) g) x e in
    (g, refl, sym (ap (λ (h : StoredFile). h.name) is), sym (ap (λ (h : StoredFile). h.library) is))
file_at_from n (g ∷ files) (suc i) x e = file_at_from (suc n) files i x e

-- a name of the book is one of what is stored
book_named : (n : ℕ) (files : List ProjectFile) (name : List ℕ) → IsMember (keys_of (book_of files)) name
    → IsMember (map (λ (x : StoredFile). x.name) (stored_from n files)) name
book_named n [] name m = absurd m
book_named n (f ∷ files) name m = by f.library m (book_named (suc n) files name) where
  by : (b : Bool) → IsMember (keys_of (of_book b (f.name, text_in_content f.content) ++ book_of files)) name
      → (IsMember (keys_of (book_of files)) name → IsMember (map (λ (x : StoredFile). x.name) (stored_from (suc n) files)) name)
      → IsMember (f.name ∷ map (λ (x : StoredFile). x.name) (stored_from (suc n) files)) name
  by true m more = inr (more m)
  by false (inl is) more = inl is
  by false (inr m) more = inr (more m)

-- so the names of the book stand once where those of what is stored do
book_once : (n : ℕ) (files : List ProjectFile) → IsEachOnce (map (λ (x : StoredFile). x.name) (stored_from n files))
    → IsEachOnce (keys_of (book_of files))
book_once n [] once = tt
book_once n (f ∷ files) once = by f.library (λ m. once.0 (book_named (suc n) files f.name m)) (book_once (suc n) files once.1) where
  by : (b : Bool) → (IsMember (keys_of (book_of files)) f.name → ⊥) → IsEachOnce (keys_of (book_of files))
      → IsEachOnce (keys_of (of_book b (f.name, text_in_content f.content) ++ book_of files))
  by true apart more = more
  by false apart more = (apart, more)

pub stored_long : (n : ℕ) (files : List ProjectFile) → length (stored_from n files) ≡ length files
stored_long n [] = refl
stored_long n (f ∷ files) = ap suc (stored_long (suc n) files)

-- how many files are the book's
abbrev pub own_count : List ProjectFile → ℕ
own_count files = length (those_where (λ (x : StoredFile). not x.library) (stored files))

-- they are no more than all
pub own_few : (files : List ProjectFile) → own_count files ≤ length (stored files)
own_few files = where_few (λ (x : StoredFile). not x.library) (stored files)

-- a file of a lesser rank is the book's
ranked_own : (all : List StoredFile) (x : StoredFile) → rank_of all x < length (those_where (λ (y : StoredFile). not y.library) all)
    → x.library ≡ false
ranked_own all x lt = by x.library refl where
  by : (b : Bool) → x.library ≡ b → x.library ≡ false
  by true fixed = absurd (omega (arith, lt, library_above all x fixed))
  by false own = own

-- so the file of that number is
pub own_ranked : (files : List ProjectFile) (r : ℕ) (n : FileNo) → HasRank (stored files) r n.0 → r < own_count files → IsOwn files n
own_ranked files r n has lt f at =
    let x = stored_at_from 0 files n.0 f at in
    let same : has.0 ≡ x.0 = some_same has.0 x.0 (sym has.1 ∙ x.1) in
    let rank : rank_of (stored files) x.0 ≡ r = ap (rank_of (stored files)) (sym same) ∙ has.2 in
    sym x.3 ∙ ranked_own (stored files) x.0 (subst (λ k. k < own_count files) (sym rank) lt)

-- what is present is of a file of the book
own_present : (name : List ℕ) (b : Bool) (c : Option Content) (p : Present) → IsMember (present_by name b c) p → b ≡ false
own_present name true c p m = absurd m
own_present name false c p m = refl

-- ---- present files

short_by : (name : List ℕ) (library : Bool) (c : Option Content) → IsShort (present_by name library c)
short_by name true c = inl refl
short_by name false None = inl refl
short_by name false (Some c) = inr (record { name = name; content = c }, refl)

-- a present file has its file's name
named_by : (name : List ℕ) (library : Bool) (c : Option Content) (p : Present) → IsMember (present_by name library c) p → p.name ≡ name
named_by name true c p m = absurd m
named_by name false None p m = absurd m
named_by name false (Some c) p (inl e) = ap (λ q. q.name) (sym e)
named_by name false (Some c) p (inr m) = absurd m

-- there is one at most at a number
short_at : (files : List ProjectFile) (n : FileNo) → IsShort (present_at files n)
short_at files n = by (slice_get files n.0) refl where
  by : (o : Option ProjectFile) → slice_get files n.0 ≡ o → IsShort (present_at files n)
  by None e = inl (rw e refl)
  by (Some f) e = rw e (short_by f.name f.library f.content)

-- and it is that of the file there
present_of : (files : List ProjectFile) (n : FileNo) (p : Present) → IsMember (present_at files n) p
    → (f : ProjectFile) × (slice_get files n.0 ≡ Some f) × IsMember (present_by f.name f.library f.content) p
present_of files n p m = by (slice_get files n.0) refl m where
  by : (o : Option ProjectFile) → slice_get files n.0 ≡ o → IsMember (present_at files n) p
      → (f : ProjectFile) × (slice_get files n.0 ≡ Some f) × IsMember (present_by f.name f.library f.content) p
  by None e m = absurd (rw e at m)
  by (Some f) e m = (f, e, rw e at m)

-- the present files are those at places
present_placed : (files : List ProjectFile) (p : Present) → IsMember (present files) p
    → (i : ℕ) × (f : ProjectFile) × (slice_get files i ≡ Some f) × IsMember (present_by f.name f.library f.content) p
present_placed [] p m = absurd m
present_placed (f ∷ files) p m = elim (member_cases (present_by f.name f.library f.content) (present files) p m) [
  | inl here ↦ (zero, f, refl, here)
  | inr there ↦ let t = present_placed files p there in (suc t.0, t.1, t.2, t.3)
]

placed_present : (files : List ProjectFile) (i : ℕ) (f : ProjectFile) (p : Present) → slice_get files i ≡ Some f
    → IsMember (present_by f.name f.library f.content) p → IsMember (present files) p
placed_present [] i f p e m = cc
placed_present (g ∷ files) zero f p e m =
    member_left (present_by g.name g.library g.content) (present files) p
    (subst (λ (h : ProjectFile). IsMember (present_by h.name h.library h.content) p) (sym (some_same g f e)) m)
placed_present (g ∷ files) (suc i) f p e m =
    member_right (present_by g.name g.library g.content) (present files) p (placed_present files i f p e m)

-- ---- the order

-- these are the files of the first ranks
pub record HaveRanks (files : List ProjectFile) (r : ℕ) (order : List FileNo) : Type 0 where
  pub long : length order ≡ r
  pub each : (k : ℕ) (n : FileNo) → slice_get order k ≡ Some n → HasRank (stored files) k n.0

pub ranks_none : (files : List ProjectFile) → HaveRanks files 0 []
ranks_none files = record { long = refl; each = λ k n e. cc }

-- one more at the end of a list
get_last : {A : Type 0} (xs : List A) (x : A) (i : ℕ) (y : A) → slice_get (xs ++ x ∷ []) i ≡ Some y
    → (slice_get xs i ≡ Some y) ⊎ ((i ≡ length xs) × (x ≡ y))
get_last [] x zero y e = inr (refl, some_same x y e)
get_last [] x (suc i) y e = cc
get_last (z ∷ xs) x zero y e = inl e
get_last (z ∷ xs) x (suc i) y e = elim (get_last xs x i y e) [ inl old ↦ inl old | inr new ↦ inr (ap suc new.0, new.1) ]

-- a list with one more
pub longer : {A : Type 0} (xs : List A) (x : A) → length (xs ++ x ∷ []) ≡ length xs + 1
longer [] x = refl
longer (y ∷ xs) x = let more = longer xs x in omega (arith, more)

-- what holds of all holds with one more of which it does
pub all_more : {A : Type 0} (P : A → Type 0) (xs : List A) (x : A) → All P xs → P x → All P (xs ++ x ∷ [])
all_more P [] x all p zero d lt = p
all_more P [] x all p (suc k) d lt = absurd (omega (arith, lt))
all_more P (y ∷ xs) x all p zero d lt = all zero d (omega arith)
all_more P (y ∷ xs) x all p (suc k) d lt = all_more P xs x (λ j e below. all (suc j) e (omega (arith, below))) p k d (omega (arith, lt))

pub ranks_more : (files : List ProjectFile) (r : ℕ) (order : List FileNo) (n : FileNo) → HaveRanks files r order → HasRank (stored files) r n.0
    → HaveRanks files (r + 1) (order ++ n ∷ [])
ranks_more files r order n h has = record {
  long = longer order n ∙ ap (λ k. k + 1) h.long;
  each = λ k m e. elim (get_last order n k m e) [
    | inl old ↦ h.each k m old
    | inr new ↦ subst (λ j. HasRank (stored files) j m.0) (sym (new.0 ∙ h.long)) (subst (λ (j : FileNo). HasRank (stored files) r j.0) new.1 has)
  ];
}

-- the name of the first file is below that of the second
abbrev StandsFirst : List ProjectFile → FileNo → FileNo → Type 0
StandsFirst files m n = (f g : ProjectFile) → slice_get files m.0 ≡ Some f → slice_get files n.0 ≡ Some g
    → slice_cmp nat_cmp f.name g.name ≡ Less

less_by : (a b : Bool) (x y : List ℕ) → a ≡ false → b ≡ false → in_order a x b y ≡ true → slice_cmp nat_cmp x y ≡ Less
less_by true b x y e f h = absurd (cc)
less_by false true x y e f h = absurd (cc)
less_by false false x y e f h = by (slice_cmp nat_cmp x y) h where
  by : (o : Ordering) → is_lt o ≡ true → o ≡ Less
  by Less h = refl
  by Equal h = absurd (cc)
  by Greater h = absurd (cc)

one_way : (p q : Present) → IsBelow p q → IsBelow q p → ⊥
one_way p q a b = let turned : Less ≡ Greater = sym a ∙ nat_list_cmp_total.antisymm p.name q.name ∙ ap ordering_reverse b in cc

module _ (files : List ProjectFile) (are : AreOfBook files) (kept : AreFiles (stored files)) where
  -- of two files of the book the one of the lesser rank stands before the other
  lesser_first : (r s : ℕ) (m n : FileNo) → r < s → s < own_count files → HasRank (stored files) r m.0 → HasRank (stored files) s n.0
      → StandsFirst files m n
  lesser_first r s m n lt few a b f g at there =
      let x = stored_at_from 0 files m.0 f at in
      let y = stored_at_from 0 files n.0 g there in
      let same = some_same a.0 x.0 (sym a.1 ∙ x.1) in
      let other = some_same b.0 y.0 (sym b.1 ∙ y.1) in
      let below : rank_of (stored files) x.0 < rank_of (stored files) y.0 =
      subst (λ k. k < rank_of (stored files) y.0) (sym a.2 ∙ ap (rank_of (stored files)) same)
      (subst (λ k. r < k) (sym b.2 ∙ ap (rank_of (stored files)) other) lt) in
      let before : stands_before x.0 y.0 ≡ true = less_before x.0 y.0 m.0 n.0 x.1 y.1 below in
      subst (λ (k : List ℕ). slice_cmp nat_cmp k g.name ≡ Less) x.2 (subst (λ (k : List ℕ). slice_cmp nat_cmp x.0.name k ≡ Less) y.2
      (less_by x.0.library y.0.library x.0.name y.0.name (x.3 ∙ own_ranked files r m a (omega (arith, lt, few)) f at)
      (y.3 ∙ own_ranked files s n b few g there) before))
    where
      tests : (b : Bool) → (b ≡ true) ⊎ (b ≡ false)
      tests true = inl refl
      tests false = inr refl

      number_cases : (i j : ℕ) → (i ≡ j) ⊎ (i ≡ j → ⊥)
      number_cases zero zero = inl refl
      number_cases zero (suc j) = inr (λ e. absurd (omega (arith, e)))
      number_cases (suc i) zero = inr (λ e. absurd (omega (arith, e)))
      number_cases (suc i) (suc j) = elim (number_cases i j) [ inl e ↦ inl (ap suc e) | inr n ↦ inr (λ e. n (omega (arith, e))) ]

      less_before : (x y : StoredFile) (i j : ℕ) → slice_get (stored files) i ≡ Some x → slice_get (stored files) j ≡ Some y
          → rank_of (stored files) x < rank_of (stored files) y → stands_before x y ≡ true
      less_before x y i j at there lt = elim (tests (stands_before x y)) [
        | inl t ↦ t
        | inr n ↦ elim (number_cases i j) [
          | inl same ↦
              let is : x ≡ y = some_same x y (sym at ∙ (ap (slice_get (stored files)) same ∙ there)) in
              let equal : rank_of (stored files) x ≡ rank_of (stored files) y = ap (rank_of (stored files)) is in absurd (omega (arith, lt, equal))
          | inr apart ↦
              let names : x.name ≡ y.name → ⊥ = λ e. apart (name_once (stored files) i j x y kept.names at there e) in
              let turn = rank_lt (stored files) y x j there (before_other x.library y.library x.name y.name names n) in
              absurd (omega (arith, lt, turn))
        ]
      ]

  -- all files of the book in the order of ranks have those present among them
  all_present : (order : List FileNo) → HaveRanks files (own_count files) order → SameMembers (presents files order) (present files)
  all_present order h = record {
    left = λ p m. let t = told_by (present_at files) order p m in let f = present_of files t.0 p t.2 in placed_present files t.0.0 f.0 p f.1 f.2;
    right = λ p m.
        let at = present_placed files p m in
        let x = stored_at_from 0 files at.0 at.1 at.2 in
        let own = x.3 ∙ own_present at.1.name at.1.library at.1.content p at.3 in
        let few = project_below (stored files) at.0 x.0 x.1 own in
        let long = h.long in
        let n = stands_at order (rank_of (stored_from 0 files) x.0) (omega (arith, few, long)) in
        let has = h.each (rank_of (stored_from 0 files) x.0) n.0 n.1 in
        let here : n.0.0 ≡ at.0 = rank_once (stored_from 0 files) (rank_of (stored_from 0 files) x.0) n.0.0 at.0 kept.names has (x.0, x.1, refl) in
        let file : slice_get files n.0.0 ≡ Some at.1 = ap (slice_get files) here ∙ at.2 in
        tells (present_at files) order n.0 p (member_at order _ n.0 n.1) (rw file at.3);
  }

  -- THE ORDER of ranks is that of names
  pub order_ranked : (order : List FileNo) → HaveRanks files (own_count files) order → presents files order ≡ ranked files
  order_ranked order h =
      let once : IsEachOnce (keys_of (book_of files)) = book_once 0 files kept.names in
      let first : AreInOrder (StandsFirst files) order =
      in_order_by (StandsFirst files) order
      (λ i j m n lt a b. lesser_first i j m n lt (omega (arith, below order j n b, h.long)) (h.each i m a) (h.each j n b)) in
      let rise : AreInOrder IsBelow (presents files order) =
      told_in_order (present_at files) (StandsFirst files) IsBelow order (short_at files) (λ m n p q before here there.
      let f = present_of files m p here in
      let g = present_of files n q there in
      subst (λ (k : List ℕ). slice_cmp nat_cmp k q.name ≡ Less) (sym (named_by f.0.name f.0.library f.0.content p f.2))
      (subst (λ (k : List ℕ). slice_cmp nat_cmp f.0.name k ≡ Less) (sym (named_by g.0.name g.0.library g.0.content q g.2)) (before f.0 g.0 f.1 g.1))) first in
      let same = all_present order h in
      order_pins IsBelow one_way (presents files order) (ranked files) rise (ranked_rise (book_of files) (library_in files) files once are)
      (same_through same (record { left = (files_ranked files).same.right; right = (files_ranked files).same.left }))
