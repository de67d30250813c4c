-- What a lookup waits on, put in the order of references: a copy of what the order of the rules' waits rests on.
use Rattle.std.proofs.Common.{◌≡◌, ◌∙◌, ◌⊎◌, ℕ, ◌≤◌, Bool, true, false, cond, List, [], ◌∷◌, map, refl, sym, ap, subst, inl, inr, arith}
use Rattle.std.proofs.lemmas.Bool.Decides.{nat_tests}
use Rattle.std.specs.Prelude.{Option, None, Some, nat_eq, nat_lt, length, slice_get}
use Rattle.std.specs.List.{list_any}
use Rattle.std.specs.Cmp.Lexicographic.{pointwise}
use Rattle.linker_base.specs.Members.{IsMember, SameMembers, IsEachOnce}
use Rattle.linker_base.specs.Orders.{AreInOrder}
use Rattle.linker_base.proofs.Cases.{bool_cases, some_same}
use Rattle.linker_base.proofs.MemberLaws.{member_test}
use Rattle.demand_core.specs.Rules.{WaitsOn, ListsInOrder}
use Rattle.demand_core.specs.Tables.{Decided}
use Rattle.demand_core.specs.Computed.{each_once, ordered_step, world}
use Rattle.demand_core.proofs.ComputedLaws.{each_once_is_order}
use Rattle.demand_core.specs.declared.step.Step.{Step}
use Rattle.demand_core.specs.declared.step.Step.TheVariants.{Done, Waits}
use Rattle.element_store.specs.declared.numbers.FileNo.{FileNo}
use Rattle.element_store.specs.declared.outcome.Outcome.{Outcome}
use Rattle.element_store.specs.declared.models.StoredFile.{StoredFile}
use Rattle.element_store.specs.Stored.{in_order, stands_before, AreFiles}
use Rattle.element_store.proofs.RankLaws.{name_once, before_itself, before_through, before_other}
use Rattle.link_model.specs.declared.keys.LinkKey.{LinkKey}
use Rattle.link_model.specs.declared.keys.LinkFact.TheVariants.{File}
use Rattle.link_model.specs.Readers.{LinkWorld}
use Rattle.link_model.specs.Keys.{same_key, key_is_exact, name_exact}
use Rattle.link_model.specs.Outside.{model_in, seen_in, library_of}
use Rattle.link_model.specs.Lexical.{Ranked, ranked_by, is_before}
use Rattle.link_model.specs.Asking.{ask}
use Rattle.link_model.specs.Linking.{ranked_key, put_in, in_least_order, items_of, sorted, sorted_step, FileBefore, ComesBefore, link_meaning}
use Rattle.link_model.proofs.TameLaws.{Stands, ask_tame}
use Rattle.link_model.proofs.RuleLaws.{below}
use Rattle.link_model.proofs.OrderLemmas.{before_those_behind}

-- the first comes before the second, or is it
abbrev pub IsUpTo : List StoredFile → LinkKey → LinkKey → Type 0
IsUpTo files a b = (a ≡ b) ⊎ ComesBefore files a b

up_to_through : (files : List StoredFile) (a b c : LinkKey) → IsUpTo files a b → IsUpTo files b c → IsUpTo files a c
up_to_through files a b c (inl e) q = subst (λ k. IsUpTo files k c) (sym e) q
up_to_through files a b c (inr p) (inl e) = inr (subst (ComesBefore files a) e p)
up_to_through files a b c (inr p) (inr q) = inr (before_those_behind files a b c p q)

-- WHAT DECIDES which is least is of the reference's own file

record IsRankOf (files : List StoredFile) (a : Ranked LinkKey) : Type 0 where
  file : StoredFile
  stands : slice_get files a.item.0.file.0 ≡ Some file
  library : a.library ≡ file.library
  name : a.name ≡ file.name
  number : a.number ≡ a.item.0.index

module _ (files : List StoredFile) (once : IsEachOnce (map (λ s. s.name) files)) where
  -- ranks with one name are those of one file
  one_file : (a b : Ranked LinkKey) → IsRankOf files a → IsRankOf files b → a.name ≡ b.name → a.item.0.file ≡ b.item.0.file
  one_file a b r s e =
      let names : r.file.name ≡ s.file.name = sym r.name ∙ (e ∙ s.name) in
      let same : a.item.0.file.0 ≡ b.item.0.file.0 =
      name_once files a.item.0.file.0 b.item.0.file.0 r.file s.file once r.stands s.stands names in
      λ j. record { 0 = same j }

  -- the file of the first stands before that of the second
  file_before : (a b : Ranked LinkKey) (r : IsRankOf files a) (s : IsRankOf files b) → in_order a.library a.name b.library b.name ≡ true
      → FileBefore files a.item.0.file b.item.0.file
  file_before a b r s h =
      let here : in_order r.file.library r.file.name b.library b.name ≡ true =
      subst (λ n. in_order r.file.library n b.library b.name ≡ true) r.name (subst (λ l. in_order l a.name b.library b.name ≡ true) r.library h) in
      let both : stands_before r.file s.file ≡ true =
      subst (λ n. in_order r.file.library r.file.name s.file.library n ≡ true) s.name
      (subst (λ l. in_order r.file.library r.file.name l b.name ≡ true) s.library here) in
      (r.file, s.file, r.stands, s.stands, both)

  -- the test tells the order
  tells : (a b : Ranked LinkKey) → IsRankOf files a → IsRankOf files b → is_before a b ≡ true → ComesBefore files a.item b.item
  tells a b r s h = elim (bool_cases (pointwise nat_eq a.name b.name)) [
    | inl e ↦
        let less : nat_lt a.number b.number ≡ true = rw e at h in
        let lt = below a.number b.number less in
        inr (one_file a b r s (name_exact a.name b.name e), omega (arith, lt, r.number, s.number))
    | inr e ↦ let first : in_order a.library a.name b.library b.name ≡ true = rw e at h in inl (file_before a b r s first)
  ]

  -- numbers of one file: the second is no greater
  not_less : (a b : Ranked LinkKey) → IsRankOf files a → IsRankOf files b → a.item.0.file ≡ b.item.0.file → b.number ≤ a.number
      → IsUpTo files b.item a.item
  not_less a b r s same le = by (nat_eq b.item.0.index a.item.0.index) refl
    where
      by : (t : Bool) → nat_eq b.item.0.index a.item.0.index ≡ t → IsUpTo files b.item a.item
      by true e =
          let index : b.item.0.index ≡ a.item.0.index = grind (arith, nat_tests) in
          inl (λ j. record { 0 = record { file = sym same j; index = index j } })
      by false e =
          let apart : b.item.0.index ≡ a.item.0.index → ⊥ = λ q. absurd (grind (arith, nat_tests, q)) in
          inr (inr (sym same, omega (arith, le, r.number, s.number, apart)))

  -- and where it fails the second is up to the first
  tells_not : (a b : Ranked LinkKey) → IsRankOf files a → IsRankOf files b → is_before a b ≡ false → IsUpTo files b.item a.item
  tells_not a b r s h = elim (bool_cases (pointwise nat_eq a.name b.name)) [
    | inl e ↦
        let less : nat_lt a.number b.number ≡ false = rw e at h in
        let le : b.number ≤ a.number = grind (arith, nat_tests) in
        not_less a b r s (one_file a b r s (name_exact a.name b.name e)) le
    | inr e ↦
        let first : in_order a.library a.name b.library b.name ≡ false = rw e at h in
        let apart : a.name ≡ b.name → ⊥ = λ q. absurd (names_apart a.name b.name q e) in
        inr (inl (file_before b a s r (before_other a.library b.library a.name b.name apart first)))
  ]
    where
      same_names : (x : List ℕ) → pointwise nat_eq x x ≡ true
      same_names [] = refl
      same_names (n ∷ x) = let here : nat_eq n n ≡ true = grind (arith, nat_tests) in rw (here, same_names x) refl

      names_apart : (x y : List ℕ) → x ≡ y → pointwise nat_eq x y ≡ false → ⊥
      names_apart x y q e = let bad : true ≡ false = sym (same_names x) ∙ (ap (pointwise nat_eq x) q ∙ e) in cc

  -- THE LIST that is put in order is in order

  -- what stands there after one is put in is that one, or stood there
  put_left : (k : Ranked LinkKey) (ls : List (Ranked LinkKey)) (q : Ranked LinkKey) → IsMember (put_in k ls) q → (k ≡ q) ⊎ IsMember ls q
  put_left k [] q m = m
  put_left k (l ∷ ls) q m = by (is_before l k) (put_left k ls q) m
    where
      by : (t : Bool) → (IsMember (put_in k ls) q → (k ≡ q) ⊎ IsMember ls q) → IsMember (cond t (l ∷ put_in k ls) (k ∷ l ∷ ls)) q
          → (k ≡ q) ⊎ IsMember (l ∷ ls) q
      by true rest (inl e) = inr (inl e)
      by true rest (inr n) = elim (rest n) [ inl e ↦ inl e | inr i ↦ inr (inr i) ]
      by false rest n = n

  abbrev InOrder : List (Ranked LinkKey) → Type 0
  InOrder = AreInOrder (λ a b. IsUpTo files a.item b.item)

  put_rises : (k : Ranked LinkKey) (ls : List (Ranked LinkKey)) → IsRankOf files k → ((q : Ranked LinkKey) → IsMember ls q → IsRankOf files q)
      → InOrder ls → InOrder (put_in k ls)
  put_rises k [] r rs o = ((λ y none. absurd none), tt)
  put_rises k (l ∷ ls) r rs o = elim (bool_cases (is_before l k)) [
    | inl t ↦
        let first : IsUpTo files l.item k.item = inr (tells l k (rs l (inl refl)) r t) in
        let rest = put_rises k ls r (λ q m. rs q (inr m)) o.1 in
        subst (λ b. InOrder (cond b (l ∷ put_in k ls) (k ∷ l ∷ ls))) (sym t)
        ((λ y m. elim (put_left k ls y m) [ inl e ↦ subst (λ z. IsUpTo files l.item z.item) e first | inr n ↦ o.0 y n ]), rest)
    | inr t ↦
        let first = tells_not l k (rs l (inl refl)) r t in
        subst (λ b. InOrder (cond b (l ∷ put_in k ls) (k ∷ l ∷ ls))) (sym t) (
          (λ y m. elim m [
            | inl e ↦ subst (λ z. IsUpTo files k.item z.item) e first
            | inr n ↦ up_to_through files k.item l.item y.item first (o.0 y n)
          ]),
          o,
        )
  ]

  order_left : (ks : List (Ranked LinkKey)) (q : Ranked LinkKey) → IsMember (in_least_order ks) q → IsMember ks q
  order_left [] q m = m
  order_left (k ∷ ks) q m = elim (put_left k (in_least_order ks) q m) [ inl e ↦ inl e | inr n ↦ inr (order_left ks q n) ]

  order_rises : (ks : List (Ranked LinkKey)) → ((q : Ranked LinkKey) → IsMember ks q → IsRankOf files q) → InOrder (in_least_order ks)
  order_rises [] rs = tt
  order_rises (k ∷ ks) rs =
      put_rises k (in_least_order ks) (rs k (inl refl)) (λ q m. rs q (inr (order_left ks q m))) (order_rises ks (λ q m. rs q (inr m)))

-- the items of a list in order are in order
item_member : (ks : List (Ranked LinkKey)) (q : LinkKey) → IsMember (items_of ks) q → (a : Ranked LinkKey) × IsMember ks a × (a.item ≡ q)
item_member [] q m = absurd m
item_member (k ∷ ks) q (inl e) = (k, inl refl, e)
item_member (k ∷ ks) q (inr m) = let i = item_member ks q m in (i.0, inr i.1, i.2)

items_rise : (files : List StoredFile) (ks : List (Ranked LinkKey)) → AreInOrder (λ a b. IsUpTo files a.item b.item) ks
    → AreInOrder (IsUpTo files) (items_of ks)
items_rise files [] o = tt
items_rise files (k ∷ ks) o =
    ((λ y m. let i = item_member ks y m in subst (IsUpTo files k.item) i.2 (o.0 i.0 i.1)), items_rise files ks o.1)

-- each once, a list in order rises
pub once_rises : (files : List StoredFile) (ks : List LinkKey) → AreInOrder (IsUpTo files) ks → AreInOrder (ComesBefore files) (each_once same_key ks)
once_rises files [] o = tt
once_rises files (k ∷ ks) o = elim (bool_cases (list_any (same_key k) ks)) [
  | inl t ↦ subst (λ b. AreInOrder (ComesBefore files) (cond b (each_once same_key ks) (k ∷ each_once same_key ks))) (sym t) (once_rises files ks o.1)
  | inr t ↦
      subst (λ b. AreInOrder (ComesBefore files) (cond b (each_once same_key ks) (k ∷ each_once same_key ks))) (sym t) (
        (λ y m.
            let among : IsMember ks y = ((each_once_is_order same_key key_is_exact).same ks).left y m in
            elim (o.0 y among) [
              | inl e ↦
                  let found : list_any (same_key k) ks ≡ true = member_test same_key key_is_exact ks k (subst (IsMember ks) (sym e) among) in
                  let bad : true ≡ false = sym found ∙ t in cc
              | inr before ↦ before
            ]),
        once_rises files ks o.1,
      )
]

-- what a reference that stands is ranked by
rank_of_key : (files : List StoredFile) (table : Decided LinkKey Outcome) (q : LinkKey) → Stands (world (seen_in files) table) q
    → IsRankOf files (ranked_key (world (seen_in files) table) q)
rank_of_key files table q h = by (slice_get files q.0.file.0) refl h
  where
    by : (o : Option StoredFile) → slice_get files q.0.file.0 ≡ o → nat_lt q.0.index (length (model_in o).references) ≡ true
        → IsRankOf files (ranked_by (slice_get files q.0.file.0) q.0.index q)
    by None e bad = let lt = below q.0.index 0 bad in absurd (omega (arith, lt))
    by (Some s) e lt =
        subst (λ o. IsRankOf files (ranked_by o q.0.index q)) (sym e)
        (record { file = s; stands = e; library = refl; name = refl; number = refl })

ranks_of_keys : (files : List StoredFile) (table : Decided LinkKey Outcome) (qs : List LinkKey)
    → ((q : LinkKey) → IsMember qs q → Stands (world (seen_in files) table) q)
    → (a : Ranked LinkKey) → IsMember (map (ranked_key (world (seen_in files) table)) qs) a → IsRankOf files a
ranks_of_keys files table [] h a m = absurd m
ranks_of_keys files table (q ∷ qs) h a (inl e) = subst (IsRankOf files) e (rank_of_key files table q (h q (inl refl)))
ranks_of_keys files table (q ∷ qs) h a (inr m) = ranks_of_keys files table qs (λ p n. h p (inr n)) a m

-- SORTING keeps the members
put_members : (k : Ranked LinkKey) (ls : List (Ranked LinkKey)) → SameMembers (items_of (put_in k ls)) (k.item ∷ items_of ls)
put_members k [] = record { left = λ x m. m; right = λ x m. m }
put_members k (l ∷ ls) = elim (bool_cases (is_before l k)) [
  | inl a ↦ let rest = put_members k ls in rw a (record {
    left = λ x. elim [ inl e ↦ inr (inl e) | inr m ↦ elim (rest.left x m) [ inl e ↦ inl e | inr n ↦ inr (inr n) ] ];
    right = λ x. elim [ inl e ↦ inr (rest.right x (inl e)) | inr m ↦ elim m [ inl e ↦ inl e | inr n ↦ inr (rest.right x (inr n)) ] ];
  })
  | inr b ↦ rw b (record { left = λ x m. m; right = λ x m. m })
]

order_members : (ks : List (Ranked LinkKey)) → SameMembers (items_of (in_least_order ks)) (items_of ks)
order_members [] = record { left = λ x m. m; right = λ x m. m }
order_members (k ∷ ks) =
    let rest = order_members ks in
    let here = put_members k (in_least_order ks) in
    record {
      left = λ x m. elim (here.left x m) [ inl e ↦ inl e | inr n ↦ inr (rest.left x n) ];
      right = λ x. elim [ inl e ↦ here.right x (inl e) | inr n ↦ here.right x (inr (rest.right x n)) ];
    }

item_ranked : (s : Option StoredFile) (n : ℕ) (k : LinkKey) → (ranked_by s n k).item ≡ k
item_ranked None n k = refl
item_ranked (Some s) n k = refl

items_ranked : (w : LinkWorld) (ks : List LinkKey) → items_of (map (ranked_key w) ks) ≡ ks
items_ranked w [] = refl
items_ranked w (k ∷ ks) = λ i. item_ranked (w.outer (File k.0.file)) k.0.index k i ∷ items_ranked w ks i

pub sorted_members : (w : LinkWorld) (ks : List LinkKey) → SameMembers (sorted w ks) ks
sorted_members w ks = subst (λ ls. SameMembers (sorted w ks) ls) (items_ranked w ks) (order_members (map (ranked_key w) ks))

-- what is sorted is in order
pub sorted_rises : (files : List StoredFile) → IsEachOnce (map (λ s. s.name) files) → (table : Decided LinkKey Outcome) (qs : List LinkKey)
    → ((q : LinkKey) → IsMember qs q → Stands (world (seen_in files) table) q) → AreInOrder (IsUpTo files) (sorted (world (seen_in files) table) qs)
sorted_rises files once table qs stand =
    items_rise files (in_least_order (map (ranked_key (world (seen_in files) table)) qs)) (order_rises files once
    (map (ranked_key (world (seen_in files) table)) qs) (ranks_of_keys files table qs stand))
