-- The project files taken by rank stand in byte order of their names.
use Rattle.std.proofs.Common.{◌≡◌, ◌∙◌, ◌⊎◌, ℕ, zero, suc, ◌+◌, ◌<◌, Bool, true, false, List, [], ◌∷◌, length, map, refl, sym, ap, subst, inl, inr, arith}
use Rattle.std.specs.Prelude.{not, slice_get, Some}
use Rattle.linker_base.specs.Members.{IsMember, IsEachOnce}
use Rattle.linker_base.specs.Orders.{AreInOrder}
use Rattle.linker_base.proofs.Cases.{bool_cases, some_same}
use Rattle.linker_base.proofs.MemberLaws.{member_map}
use Rattle.linker_base.proofs.OrderLaws.{order_pins}
use Rattle.element_store.specs.declared.numbers.FileNo.{FileNo}
use Rattle.element_store.specs.declared.models.StoredFile.{StoredFile}
use Rattle.element_store.specs.Numbers.{those_where}
use Rattle.element_store.specs.Stored.{stands_before, rank_of, HasRank, AreFiles}
use Rattle.element_store.proofs.RankLaws.{before_other, before_through, library_above, name_once, project_below, rank_lt, rank_once}
use Rattle.link_model.specs.Linking.{FileBefore}
use Rattle.link_model.specs.Outside.{Numbered, numbered_from, placed, in_rank}
use Rattle.link_model.proofs.ArrivalLaws.{name_among}
use Rattle.link_model.proofs.EditLaws.{among_numbered, among_placed, among_rank, among_where}
use Rattle.link_model.proofs.OrderLemmas.{one_way}
use Rattle.implied_model.specs.Implied.{AreInRank, project_order}

-- ---- lists

-- a member has a place
place_of_member : {A : Type 0} (xs : List A) (y : A) → IsMember xs y → (i : ℕ) × (slice_get xs i ≡ Some y)
place_of_member [] y m = absurd m
place_of_member (x ∷ xs) y (inl e) = (zero, ap (λ z. Some z) e)
place_of_member (x ∷ xs) y (inr m) = let at = place_of_member xs y m in (suc at.0, at.1)

-- at a place below the length stands a member
stands_at : {A : Type 0} (xs : List A) (i : ℕ) → i < length xs → (x : A) × (slice_get xs i ≡ Some x)
stands_at [] i lt = absurd (omega (arith, lt))
stands_at (x ∷ xs) zero lt = (x, refl)
stands_at (x ∷ xs) (suc i) lt = stands_at xs i (omega (arith, lt))

-- what stands at a place is a member, and the place is below the length
member_at : {A : Type 0} (xs : List A) (i : ℕ) (x : A) → slice_get xs i ≡ Some x → IsMember xs x
member_at [] i x e = cc
member_at (y ∷ xs) zero x e = inl (some_same y x e)
member_at (y ∷ xs) (suc i) x e = inr (member_at xs i x e)

below_length : {A : Type 0} (xs : List A) (i : ℕ) (x : A) → slice_get xs i ≡ Some x → i < length xs
below_length [] i x e = cc
below_length (y ∷ xs) zero x e = omega arith
below_length (y ∷ xs) (suc i) x e = let lt = below_length xs i x e in omega (arith, lt)

-- a list is in order where each of two items is related so
in_order_by : {A : Type 0} (R : A → A → Type 0) (xs : List A)
    → ((i j : ℕ) (x y : A) → i < j → slice_get xs i ≡ Some x → slice_get xs j ≡ Some y → R x y) → AreInOrder R xs
in_order_by R [] h = tt
in_order_by R (x ∷ xs) h = (
  λ y m. let at = place_of_member xs y m in h zero (suc at.0) x y (omega arith) refl at.1,
  in_order_by R xs (λ i j y z lt a b. h (suc i) (suc j) y z (omega (arith, lt)) a b),
)

-- the items that pass a test stay in order
where_order : {A : Type 0} (R : A → A → Type 0) (test : A → Bool) (xs : List A) → AreInOrder R xs → AreInOrder R (those_where test xs)
where_order R test [] h = tt
where_order R test (x ∷ xs) h = elim (bool_cases (test x)) [
  | inl a ↦ rw a ((λ y among. h.0 y (among_where test xs y among).0), where_order R test xs h.1)
  | inr b ↦ rw b (where_order R test xs h.1)
]

-- and are members of what passes it
member_where : {A : Type 0} (test : A → Bool) (xs : List A) (x : A) → IsMember xs x → test x ≡ true → IsMember (those_where test xs) x
member_where test [] x h is = h
member_where test (y ∷ xs) x h is = elim (bool_cases (test y)) [
  | inl a ↦ rw a (elim h [ inl e ↦ inl e | inr n ↦ inr (member_where test xs x n is) ])
  | inr b ↦ rw b (elim h [
    | inl e ↦ absurd (let no : true ≡ false = sym is ∙ ap test (sym e) ∙ b in cc)
    | inr n ↦ member_where test xs x n is
  ])
]

-- a member of a list of answers is one of them
member_of_map : {A B : Type 0} (g : A → B) (xs : List A) (y : B) → IsMember (map g xs) y → (x : A) × IsMember xs x × (g x ≡ y)
member_of_map g [] y m = absurd m
member_of_map g (x ∷ xs) y (inl e) = (x, inl refl, e)
member_of_map g (x ∷ xs) y (inr m) = let t = member_of_map g xs y m in (t.0, inr t.1, t.2)

-- ---- numbered files in order

abbrev StandsBefore : Numbered → Numbered → Type 0
StandsBefore s t = stands_before s.file t.file ≡ true

abbrev Differ : Numbered → Numbered → Type 0
Differ s t = s.file.name ≡ t.file.name → ⊥

-- files whose names stand once differ
differ_numbered : (files : List StoredFile) (n : ℕ) → IsEachOnce (map (λ y. y.name) files) → AreInOrder Differ (numbered_from n files)
differ_numbered [] n once = tt
differ_numbered (s ∷ files) n once = (
  (λ t among e. once.0 (subst (IsMember (map (λ y. y.name) files)) (sym e) (name_among files (suc n) t among))),
  differ_numbered files (suc n) once.1,
)

-- a file that is put in its place keeps the order
placed_order : (s : Numbered) (ts : List Numbered) → ((t : Numbered) → IsMember ts t → Differ s t) → AreInOrder StandsBefore ts
    → AreInOrder StandsBefore (placed s ts)
placed_order s [] other h = (λ t among. absurd among, tt)
placed_order s (t ∷ ts) other h = elim (bool_cases (stands_before s.file t.file)) [
  | inl a ↦ rw a (
    (λ u among. elim among [
      | inl e ↦ subst (λ (v : Numbered). stands_before s.file v.file ≡ true) e a
      | inr n ↦ before_through s.file.library t.file.library u.file.library s.file.name t.file.name u.file.name a (h.0 u n)
    ]),
    h,
  )
  | inr b ↦
      let behind : stands_before t.file s.file ≡ true = before_other s.file.library t.file.library s.file.name t.file.name (other t (inl refl)) b in
      rw b (
        (λ u among. elim (among_placed s u ts among) [
          | inl e ↦ subst (λ (v : Numbered). stands_before t.file v.file ≡ true) e behind
          | inr n ↦ h.0 u n
        ]),
        placed_order s ts (λ u n. other u (inr n)) h.1,
      )
]

-- so the files stand in order
rank_order : (ss : List Numbered) → AreInOrder Differ ss → AreInOrder StandsBefore (in_rank ss)
rank_order [] once = tt
rank_order (s ∷ ss) once = placed_order s (in_rank ss) (λ t among. once.0 t (among_rank ss t among)) (rank_order ss once.1)

-- and none is lost
member_placed : (s u : Numbered) (ts : List Numbered) → IsMember (s ∷ ts) u → IsMember (placed s ts) u
member_placed s u [] h = h
member_placed s u (t ∷ ts) h = elim (bool_cases (stands_before s.file t.file)) [
  | inl a ↦ rw a h
  | inr b ↦ rw b (elim h [
    | inl e ↦ inr (member_placed s u ts (inl e))
    | inr n ↦ elim n [ inl e ↦ inl e | inr l ↦ inr (member_placed s u ts (inr l)) ]
  ])
]

member_rank : (ss : List Numbered) (u : Numbered) → IsMember ss u → IsMember (in_rank ss) u
member_rank [] u h = h
member_rank (s ∷ ss) u h = member_placed s u (in_rank ss) (elim h [ inl e ↦ inl e | inr n ↦ inr (member_rank ss u n) ])

member_numbered : (files : List StoredFile) (n k : ℕ) (f : FileNo) (s : StoredFile) → f.0 ≡ n + k → slice_get files k ≡ Some s
    → IsMember (numbered_from n files) (record { number = f; file = s })
member_numbered [] n k f s e is = cc
member_numbered (t ∷ files) n zero f s e is =
    let same : t ≡ s = cc in
    let number : n ≡ f.0 = omega arith in
    inl (λ i. record { number = record { 0 = number i }; file = same i })
member_numbered (t ∷ files) n (suc k) f s e is = inr (member_numbered files (suc n) k f s (omega arith) is)

-- the numbers of files in order are in order
numbers_order : (files : List StoredFile) (ts : List Numbered) → ((t : Numbered) → IsMember ts t → slice_get files t.number.0 ≡ Some t.file)
    → AreInOrder StandsBefore ts → AreInOrder (FileBefore files) (map (λ (t : Numbered). t.number) ts)
numbers_order files [] stand h = tt
numbers_order files (t ∷ ts) stand h = (
  λ f m. let u = member_of_map (λ (v : Numbered). v.number) ts f m in
      subst (FileBefore files t.number) u.2 (t.file, u.0.file, stand t (inl refl), stand u.0 (inr u.1), h.0 u.0 u.1),
  numbers_order files ts (λ u among. stand u (inr among)) h.1,
)

-- ---- the order of ranks

number_cases : (i j : ℕ) → (i ≡ j) ⊎ (i ≡ j → ⊥)
number_cases zero zero = inl refl
number_cases zero (suc j) = inr (λ e. absurd (omega (arith, e)))
number_cases (suc i) zero = inr (λ e. absurd (omega (arith, e)))
number_cases (suc i) (suc j) = elim (number_cases i j) [ inl e ↦ inl (ap suc e) | inr n ↦ inr (λ e. n (omega (arith, e))) ]

-- of two files at most one stands before the other
one_first : (files : List StoredFile) (f g : FileNo) → FileBefore files f g → FileBefore files g f → ⊥
one_first files f g a b = one_way files (record { 0 = record { file = f; index = 0 } }) (record { 0 = record { file = g; index = 0 } }) (inl a) (inl b)

module _ (files : List StoredFile) (are : AreFiles files) where
  -- of two files the one of the lesser rank stands before the other
  lesser_before : (x y : StoredFile) (i j : ℕ) → slice_get files i ≡ Some x → slice_get files j ≡ Some y
      → rank_of files x < rank_of files y → stands_before x y ≡ true
  lesser_before x y i j at there lt = elim (bool_cases (stands_before x y)) [
    | inl t ↦ t
    | inr n ↦ elim (number_cases i j) [
      | inl same ↦
          let is : x ≡ y = some_same x y (sym at ∙ (ap (slice_get files) same ∙ there)) in
          let equal : rank_of files x ≡ rank_of files y = ap (rank_of files) is in absurd (omega (arith, lt, equal))
      | inr apart ↦
          let names : x.name ≡ y.name → ⊥ = λ e. apart (name_once files i j x y are.names at there e) in
          let turn = rank_lt files y x j there (before_other x.library y.library x.name y.name names n) in absurd (omega (arith, lt, turn))
    ]
  ]

  lesser_first : (r s : ℕ) (f g : FileNo) → r < s → HasRank files r f.0 → HasRank files s g.0 → FileBefore files f g
  lesser_first r s f g lt (x, at, is) (y, there, has) =
      (x, y, at, there, lesser_before x y f.0 g.0 at there (let rank = is in let other = has in omega (arith, lt, rank, other)))

  -- a numbered file stands at its number
  stand_numbered : (t : Numbered) → IsMember (in_rank (numbered_from 0 files)) t → slice_get files t.number.0 ≡ Some t.file
  stand_numbered t among =
      let r = among_numbered files 0 t (among_rank (numbered_from 0 files) t among) in
      let place : r.0 ≡ t.number.0 = let e = r.1 in omega arith in
      subst (λ k. slice_get files k ≡ Some t.file) place r.2

  abbrev own : Numbered → Bool
  own s = not s.file.library

  -- the files in byte order are in order
  project_first : AreInOrder (FileBefore files) (project_order files)
  project_first =
      let ss = numbered_from 0 files in
      numbers_order files (those_where own (in_rank ss)) (λ t among. stand_numbered t (among_where own (in_rank ss) t among).0)
      (where_order StandsBefore own (in_rank ss) (rank_order ss (differ_numbered files 0 are.names)))

  module _ (order : List FileNo) (h : AreInRank files order) where
    -- a file of a rank below the number of the project's files is the project's
    listed_own : (f : FileNo) → IsMember order f → IsMember (project_order files) f
    listed_own f m =
        let at = place_of_member order f m in
        let has = h.ranked at.0 f at.1 in
        let below = below_length order at.0 f at.1 in
        let all = h.all in
        let rank = has.2 in
        let ss = numbered_from 0 files in
        let n : Numbered = record { number = f; file = has.0 } in
        let free : has.0.library ≡ false = elim (bool_cases has.0.library) [
          | inl is ↦ let above = library_above files has.0 is in absurd (omega (arith, below, all, rank, above))
          | inr not ↦ not
        ] in
        member_map (λ (t : Numbered). t.number) (those_where own (in_rank ss)) n
        (member_where own (in_rank ss) n (member_rank ss n (member_numbered files 0 f.0 f has.0 (omega arith) has.1)) (ap not free))

    -- and each of them has such a rank
    own_listed : (f : FileNo) → IsMember (project_order files) f → IsMember order f
    own_listed f m =
        let ss = numbered_from 0 files in
        let t = member_of_map (λ (t : Numbered). t.number) (those_where own (in_rank ss)) f m in
        let among = among_where own (in_rank ss) t.0 t.1 in
        let at = stand_numbered t.0 among.0 in
        let free : t.0.file.library ≡ false = not_true t.0.file.library among.1 in
        let below = project_below files t.0.number.0 t.0.file at free in
        let all = h.all in
        let g = stands_at order (rank_of files t.0.file) (omega (arith, below, all)) in
        let has = h.ranked (rank_of files t.0.file) g.0 g.1 in
        let same : g.0.0 ≡ t.0.number.0 = rank_once files (rank_of files t.0.file) g.0.0 t.0.number.0 are.names has (t.0.file, at, refl) in
        let is : g.0 ≡ f = (λ i. record { 0 = same i }) ∙ t.2 in
        subst (IsMember order) is (member_at order (rank_of files t.0.file) g.0 g.1)
      where
        not_true : (b : Bool) → not b ≡ true → b ≡ false
        not_true true e = absurd (cc)
        not_true false e = refl

    -- THE ORDER of ranks is that of names
    order_is : order ≡ project_order files
    order_is =
        let first : AreInOrder (FileBefore files) order =
        in_order_by (FileBefore files) order (λ i j f g lt a b. lesser_first i j f g lt (h.ranked i f a) (h.ranked j g b)) in
        order_pins (FileBefore files) (one_first files) order (project_order files) first project_first
        (record { left = listed_own; right = own_listed })

-- the project files taken by rank are those files in byte order of their names
pub order_of_ranks : (files : List StoredFile) (order : List FileNo) → AreFiles files → AreInRank files order → order ≡ project_order files
order_of_ranks files order are h = order_is files are order h
