-- The members of files in order, with those of one file and without them.
use Rattle.std.proofs.Common.{◌≡◌, ◌+◌, ◌<◌, length, ℕ, zero, suc, arith, Bool, true, false, cond, nat_eq}
use Rattle.std.proofs.Common.{not, List, [], ◌∷◌, ◌++◌, map, refl, sym, ◌∙◌, ap, subst, inl, inr}
use Rattle.std.specs.Prelude.{Some, None, Option, slice_get}
use Rattle.std.specs.List.{flat_map}
use Rattle.std.proofs.lemmas.Bool.Decides.{nat_tests}
use Rattle.linker_base.specs.Members.{IsMember, IsEachOnce}
use Rattle.linker_base.proofs.Cases.{bool_cases}
use Rattle.element_store.specs.declared.numbers.FileNo.{FileNo}
use Rattle.element_store.specs.declared.numbers.MemberNo.{MemberNo}
use Rattle.element_store.specs.declared.models.StoredFile.{StoredFile}
use Rattle.element_store.specs.Numbers.{those_where}
use Rattle.element_store.specs.Stored.{in_order, stands_before, with_model}
use Rattle.element_store.proofs.RankLaws.{before_itself, before_through, before_other}
use Rattle.link_model.specs.Outside.{Numbered, numbered_from, placed, in_rank, root_members}
use Rattle.link_model.proofs.EditLaws.{remodelled, eq_exact, number_kept, rank_kept, where_kept, among_where, among_placed, among_rank, among_numbered}
use Rattle.link_model.proofs.ArrivalLaws.{name_among}
use Rattle.root_names.specs.Roots.{HaveNoModel}
use Rattle.root_names.specs.Steps.{is_other, others, put_each, is_behind, stand_so}
use Rattle.root_names.proofs.PutLaws.{put_behind, put_front, where_both, where_all, where_none, among_flat}

-- ---- files in order stand each before the next ones

abbrev AreSorted : List Numbered → Type 0
AreSorted [] = Unit {0}
AreSorted (s ∷ ss) = ((t : Numbered) → IsMember ss t → stands_before s.file t.file ≡ true) × AreSorted ss

abbrev AreDistinct : List Numbered → Type 0
AreDistinct [] = Unit {0}
AreDistinct (s ∷ ss) = ((t : Numbered) → IsMember ss t → s.file.name ≡ t.file.name → ⊥) × AreDistinct ss

distinct_numbered : (files : List StoredFile) (n : ℕ) → IsEachOnce (map (λ y. y.name) files) → AreDistinct (numbered_from n files)
distinct_numbered [] n once = tt
distinct_numbered (s ∷ files) n once = (
  (λ t among e. once.0 (subst (IsMember (map (λ y. y.name) files)) (sym e) (name_among files (suc n) t among))),
  distinct_numbered files (suc n) once.1,
)

sorted_placed : (s : Numbered) (ts : List Numbered) → ((t : Numbered) → IsMember ts t → s.file.name ≡ t.file.name → ⊥) → AreSorted ts → AreSorted (placed s ts)
sorted_placed s [] other h = (λ t among. absurd among, tt)
sorted_placed s (t ∷ ts) other h = elim (bool_cases (stands_before s.file t.file)) [
  | inl a ↦ rw a (
    (λ u among. elim among [
      | inl e ↦ subst (λ (v : Numbered). stands_before s.file v.file ≡ true) e a
      | inr n ↦ before_through s.file.library t.file.library u.file.library s.file.name t.file.name u.file.name a (h.0 u n)
    ]),
    h,
  )
  | inr b ↦
      let behind : stands_before t.file s.file ≡ true = before_other s.file.library t.file.library s.file.name t.file.name (other t (inl refl)) b in
      rw b (
        (λ u among. elim (among_placed s u ts among) [
          | inl e ↦ subst (λ (v : Numbered). stands_before t.file v.file ≡ true) e behind
          | inr n ↦ h.0 u n
        ]),
        sorted_placed s ts (λ u n. other u (inr n)) h.1,
      )
]

sorted_rank : (ss : List Numbered) → AreDistinct ss → AreSorted (in_rank ss)
sorted_rank [] once = tt
sorted_rank (s ∷ ss) once = sorted_placed s (in_rank ss) (λ t among. once.0 t (among_rank ss t among)) (sorted_rank ss once.1)

sorted_where : (test : Numbered → Bool) (ss : List Numbered) → AreSorted ss → AreSorted (those_where test ss)
sorted_where test [] h = tt
sorted_where test (s ∷ ss) h = elim (bool_cases (test s)) [
  | inl a ↦ rw a ((λ t among. h.0 t (among_where test ss t among).0), sorted_where test ss h.1)
  | inr b ↦ rw b (sorted_where test ss h.1)
]

-- ---- a file among those in order

member_placed : (s u : Numbered) (ts : List Numbered) → IsMember (s ∷ ts) u → IsMember (placed s ts) u
member_placed s u [] h = h
member_placed s u (t ∷ ts) h = elim (bool_cases (stands_before s.file t.file)) [
  | inl a ↦ rw a h
  | inr b ↦ rw b (elim h [
    | inl e ↦ inr (member_placed s u ts (inl e))
    | inr n ↦ elim n [ inl e ↦ inl e | inr l ↦ inr (member_placed s u ts (inr l)) ]
  ])
]

member_rank : (ss : List Numbered) (u : Numbered) → IsMember ss u → IsMember (in_rank ss) u
member_rank [] u h = h
member_rank (s ∷ ss) u h = member_placed s u (in_rank ss) (elim h [ inl e ↦ inl e | inr n ↦ inr (member_rank ss u n) ])

member_where : {A : Type 0} (test : A → Bool) (xs : List A) (x : A) → IsMember xs x → test x ≡ true → IsMember (those_where test xs) x
member_where test [] x h is = h
member_where test (y ∷ xs) x h is = elim (bool_cases (test y)) [
  | inl a ↦ rw a (elim h [ inl e ↦ inl e | inr n ↦ inr (member_where test xs x n is) ])
  | inr b ↦ rw b (elim h [
    | inl e ↦ absurd (let no : true ≡ false = sym is ∙ ap test (sym e) ∙ b in cc)
    | inr n ↦ member_where test xs x n is
  ])
]

member_numbered : (files : List StoredFile) (n k : ℕ) (f : FileNo) (s : StoredFile) → f.0 ≡ n + k → slice_get files k ≡ Some s
    → IsMember (numbered_from n files) (record { number = f; file = s })
member_numbered [] n k f s e is = cc
member_numbered (t ∷ files) n zero f s e is =
    let same : t ≡ s = cc in
    let number : n ≡ f.0 = omega arith in
    inl (λ i. record { number = record { 0 = number i }; file = same i })
member_numbered (t ∷ files) n (suc k) f s e is = inr (member_numbered files (suc n) k f s (omega arith) is)

-- ---- whose members they are

file_of : (n : FileNo) (ks : List ℕ) (m : MemberNo) → IsMember (map (λ k. let number : MemberNo = record { file = n; index = k } in number) ks) m → m.file ≡ n
file_of n [] m h = absurd h
file_of n (k ∷ ks) m (inl e) = ap (λ (l : MemberNo). l.file) (sym e)
file_of n (k ∷ ks) m (inr h) = file_of n ks m h

pub root_file : (x : List ℕ) (s : Numbered) (m : MemberNo) → IsMember (root_members x s) m → m.file ≡ s.number
root_file x s m h = file_of s.number _ m h

no_root : (x : List ℕ) (t : Numbered) → root_members x (record { number = t.number; file = record t.file { model = None } }) ≡ []
no_root x t = refl

module _ (files : List StoredFile) (f : FileNo) (s : StoredFile) (at : slice_get files f.0 ≡ Some s) (x : List ℕ) where
  abbrev Stands : Numbered → Type 0
  Stands t = slice_get files t.number.0 ≡ Some t.file

  abbrev own : Numbered
  own = record { number = f; file = s }

  abbrev all : List Numbered → List MemberNo
  all ss = flat_map (root_members x) ss

  abbrev without : List Numbered → List MemberNo
  without ss = flat_map (root_members x) (map (remodelled f.0 None) ss)

  ranked_stands : (t : Numbered) → IsMember (in_rank (numbered_from 0 files)) t → Stands t
  ranked_stands t among =
      let r = among_numbered files 0 t (among_rank (numbered_from 0 files) t among) in
      let place : r.0 ≡ t.number.0 = let e = r.1 in omega arith in
      subst (λ k. slice_get files k ≡ Some t.file) place r.2

  is_own : (t : Numbered) → Stands t → nat_eq t.number.0 f.0 ≡ true → t ≡ own
  is_own t stands same =
      let number : t.number.0 ≡ f.0 = eq_exact t.number.0 f.0 same in
      let file : Some s ≡ Some t.file = sym at ∙ subst (λ k. slice_get files k ≡ Some t.file) number stands in
      let stored : t.file ≡ s = cc in
      λ i. record { number = record { 0 = number i }; file = stored i }

  behind : (t : Numbered) (m : MemberNo) → Stands t → IsMember (root_members x t) m → is_behind files f m ≡ stands_before s t.file
  behind t m stands among =
      ap (λ (o : Option StoredFile). stand_so o (slice_get files m.file.0)) at
      ∙ ap (λ (o : Option StoredFile). stand_so (Some s) o) (ap (λ (n : FileNo). slice_get files n.0) (root_file x t m among) ∙ stands)

  -- files of other numbers stay
  unmoved : (ss : List Numbered) → ((t : Numbered) → IsMember ss t → nat_eq t.number.0 f.0 ≡ false) → map (remodelled f.0 None) ss ≡ ss
  unmoved [] h = refl
  unmoved (t ∷ ss) h =
      λ i. cond (h t (inl refl) i) (record { number = t.number; file = record t.file { model = None } }) t ∷ unmoved ss (λ u among. h u (inr among)) i

  not_behind : (t : Numbered) → stands_before t.file s ≡ true → stands_before s t.file ≡ false
  not_behind t before = elim (bool_cases (stands_before s t.file)) [
    | inl a ↦ absurd (
        let through : stands_before s s ≡ true = before_through s.library t.file.library s.library s.name t.file.name s.name a before in
        let no : true ≡ false = sym through ∙ before_itself s.library s.name in cc)
    | inr b ↦ b
  ]

  other_number : (t : Numbered) → Stands t → stands_before s t.file ≡ true → nat_eq t.number.0 f.0 ≡ false
  other_number t stands before = elim (bool_cases (nat_eq t.number.0 f.0)) [
    | inl a ↦ absurd (
        let itself : stands_before s s ≡ true = subst (λ (u : Numbered). stands_before s u.file ≡ true) (is_own t stands a) before in
        let no : true ≡ false = sym itself ∙ before_itself s.library s.name in cc)
    | inr b ↦ b
  ]

  put_sorted : (ss : List Numbered) → AreSorted ss → ((t : Numbered) → IsMember ss t → Stands t) → IsMember ss own
      → all ss ≡ put_each (is_behind files f) (root_members x own) (without ss)
  put_sorted [] sorted stands there = absurd there
  put_sorted (t ∷ ss) sorted stands there = elim (bool_cases (nat_eq t.number.0 f.0)) [
    | inl a ↦
        let e = is_own t (stands t (inl refl)) a in
        let after : (u : Numbered) → IsMember ss u → stands_before s u.file ≡ true =
        λ u among. subst (λ (v : Numbered). stands_before v.file u.file ≡ true) e (sorted.0 u among) in
        let same = unmoved ss (λ u among. other_number u (stands u (inr among)) (after u among)) in
        let own_ones : (m : MemberNo) → IsMember (root_members x own) m → is_behind files f m ≡ false =
        λ m among. behind own m at among ∙ before_itself s.library s.name in
        let later : (m : MemberNo) → IsMember (all ss) m → is_behind files f m ≡ true =
        λ m among. let r = among_flat (root_members x) ss m among in behind r.0 m (stands r.0 (inr r.1)) r.2 ∙ after r.0 r.1 in
        rw (a, same) (ap (λ (u : Numbered). root_members x u ++ all ss) e ∙ sym (put_front (is_behind files f) (root_members x own) (all ss) own_ones later))
    | inr b ↦ elim there [
      | inl e ↦ absurd (let no : nat_eq f.0 f.0 ≡ false = subst (λ (u : Numbered). nat_eq u.number.0 f.0 ≡ false) e b in grind (arith, nat_tests))
      | inr n ↦
          let before : stands_before s t.file ≡ false = not_behind t (sorted.0 own n) in
          rw b (ap (λ ms. root_members x t ++ ms) (put_sorted ss sorted.1 (λ u among. stands u (inr among)) n)
          ∙ sym (put_behind (is_behind files f) (root_members x own) (root_members x t) (without ss) (λ m among. behind t m (stands t (inl refl)) among
          ∙ before)))
    ]
  ]

  -- without the members of the file, those of the files without its model are left
  others_one : (t : Numbered) → others f (root_members x t) ≡ root_members x (remodelled f.0 None t)
  others_one t = elim (bool_cases (nat_eq t.number.0 f.0)) [
    | inl a ↦ rw a (where_none (is_other f) (root_members x t) (λ m among. ap (λ (n : FileNo). not (nat_eq n.0 f.0)) (root_file x t m among) ∙ ap not a))
    | inr b ↦ rw b (where_all (is_other f) (root_members x t) (λ m among. ap (λ (n : FileNo). not (nat_eq n.0 f.0)) (root_file x t m among) ∙ ap not b))
  ]

  others_all : (ss : List Numbered) → others f (all ss) ≡ without ss
  others_all [] = refl
  others_all (t ∷ ss) = where_both (is_other f) (root_members x t) (all ss) ∙ (λ i. others_one t i ++ others_all ss i)

  -- ---- for a choice of files that reads no model
  module _ (test : StoredFile → Bool) (blind : (t : Numbered) → test (remodelled f.0 None t).file ≡ test t.file) where
    abbrev chosen_files : List StoredFile → List Numbered
    chosen_files fs = those_where (λ u. test u.file) (in_rank (numbered_from 0 fs))

    less : all (chosen_files (with_model files f.0 None)) ≡ without (chosen_files files)
    less =
        ap (λ ss. all (those_where (λ u. test u.file) (in_rank ss))) (number_kept f.0 None files 0 f.0 (omega arith))
        ∙ ap (λ ss. all (those_where (λ u. test u.file) ss)) (rank_kept f.0 None (numbered_from 0 files))
        ∙ ap all (where_kept f.0 None test blind (in_rank (numbered_from 0 files)))

    chosen_stands : (t : Numbered) → IsMember (chosen_files files) t → Stands t
    chosen_stands t among = ranked_stands t (among_where (λ u. test u.file) (in_rank (numbered_from 0 files)) t among).0

    pub put_among : IsEachOnce (map (λ y. y.name) files) → test s ≡ true
        → all (chosen_files files) ≡ put_each (is_behind files f) (root_members x own) (all (chosen_files (with_model files f.0 None)))
    put_among once is =
        put_sorted (chosen_files files) (sorted_where (λ u. test u.file) (in_rank (numbered_from 0 files)) (sorted_rank (numbered_from 0 files)
        (distinct_numbered files 0 once)))
        chosen_stands
        (member_where (λ u. test u.file) (in_rank (numbered_from 0 files)) own (member_rank (numbered_from 0 files) own (member_numbered files 0 f.0 f s
        (omega arith) at)) is)
        ∙ ap (put_each (is_behind files f) (root_members x own)) (sym less)

    pub others_left : others f (all (chosen_files files)) ≡ all (chosen_files (with_model files f.0 None))
    others_left = others_all (chosen_files files) ∙ sym less

    pub not_among : test s ≡ false → all (chosen_files files) ≡ all (chosen_files (with_model files f.0 None))
    not_among isnt = sym (less ∙ ap all (unmoved (chosen_files files) (λ t among. elim (bool_cases (nat_eq t.number.0 f.0)) [
      | inl a ↦ absurd (
          let e = is_own t (chosen_stands t among) a in
          let does = (among_where (λ u. test u.file) (in_rank (numbered_from 0 files)) t among).1 in
          let no : true ≡ false = sym does ∙ ap (λ (u : Numbered). test u.file) e ∙ isnt in cc)
      | inr b ↦ b
    ])))

-- ---- a file there, and files without models

pub get_below : {A : Type 0} (xs : List A) (i : ℕ) → i < length xs → (x : A) × (slice_get xs i ≡ Some x)
get_below [] i lt = absurd (omega arith)
get_below (x ∷ xs) zero lt = (x, refl)
get_below (x ∷ xs) (suc i) lt = get_below xs i (omega arith)

-- of files that aren't of one kind, the project's stands first
pub unlike_before : (a b : Bool) (x y : List ℕ) → (a ≡ b → ⊥) → in_order a x b y ≡ not a
unlike_before true true x y h = absurd (h refl)
unlike_before true false x y h = refl
unlike_before false true x y h = refl
unlike_before false false x y h = absurd (h refl)

nothing_from : (x : List ℕ) (ss : List Numbered) → ((s : Numbered) → IsMember ss s → s.file.model ≡ None) → flat_map (root_members x) ss ≡ []
nothing_from x [] h = refl
nothing_from x (s ∷ ss) h =
    (λ i. root_members x (record { number = s.number; file = record s.file { model = h s (inl refl) i } }) ++ flat_map (root_members x) ss)
    ∙ nothing_from x ss (λ t among. h t (inr among))

pub nothing_in : (files : List StoredFile) → HaveNoModel files → (x : List ℕ) (test : Numbered → Bool)
    → flat_map (root_members x) (those_where test (in_rank (numbered_from 0 files))) ≡ []
nothing_in files none x test = nothing_from x (those_where test (in_rank (numbered_from 0 files))) (λ t among.
    let r = among_numbered files 0 t (among_rank (numbered_from 0 files) t (among_where test (in_rank (numbered_from 0 files)) t among).0) in
    none r.0 t.file r.2)
