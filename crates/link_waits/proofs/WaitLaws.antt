-- Places in order, and the references at them.
use Rattle.std.proofs.Common.{◌≡◌, ◌∙◌, ◌+◌, ◌<◌, ◌≤◌, ℕ, zero, suc, Bool, true, false, cond, List, [], ◌∷◌, ◌++◌, length, map, drop, get_or, refl, sym, ap, subst, inl, inr, arith}
use Rattle.std.specs.Prelude.{◌⊎◌, slice_get, Option, None, Some}
use Rattle.std.specs.List.{Contains}
use Rattle.std.specs.List.Sorted.{IsPermutation, IsNonDecreasingBy}
use Rattle.std.proofs.lemmas.List.Sorted.{Contains-permutation, IsPermutation-sym}
use Rattle.linker_base.specs.Members.{IsMember, SameMembers}
use Rattle.linker_base.specs.Orders.{AreInOrder}
use Rattle.linker_base.proofs.Cases.{bool_cases, some_same}
use Rattle.linker_base.proofs.MemberLaws.{member_map, same_members, same_through}
use Rattle.element_store.specs.declared.models.StoredFile.{StoredFile}
use Rattle.element_store.specs.Stored.{AreFiles, rank_of}
use Rattle.element_store.proofs.RankLaws.{rank_once}
use Rattle.link_model.specs.declared.keys.LinkKey.{LinkKey}
use Rattle.link_model.specs.Keys.{same_key, key_exact, key_is_exact}
use Rattle.link_model.specs.Linking.{ComesBefore, FileBefore}
use Rattle.link_model.proofs.OrderLemmas.{before_those_behind}
use Rattle.link_model.proofs.RuleLaws.{file_cases}
use Rattle.link_waits.specs.Ranks.{AreRanksOf}
use Rattle.link_waits.specs.Waits.{HaveFiles, place_of, is_last, keys_from, NoLater, Rises}
use Rattle.link_waits.specs.declared.waits.Place.{Place}
use Rattle.link_waits.proofs.RankLaws.{less_before}

-- NEIGHBOURS IN ORDER make a list in order

no_later : (p q r : Place) → NoLater p q → NoLater q r → NoLater p r
no_later p q r (inl a) (inl b) = inl (omega (arith, a, b))
no_later p q r (inl a) (inr (e, le)) = inl (omega (arith, a, e))
no_later p q r (inr (e, le)) (inl b) = inl (omega (arith, e, b))
no_later p q r (inr (e, le)) (inr (f, more)) = inr (omega (arith, e, f), omega (arith, le, more))

abbrev AreNeighbours : List Place → Type 0
AreNeighbours ps = (k : ℕ) (d : Place) → suc k < length ps → NoLater (get_or ps k d) (get_or ps (suc k) d)

rises_by : (ps : List Place) → AreNeighbours ps → Rises ps
rises_by [] near = tt
rises_by (p ∷ []) near = ((λ y none. absurd none), tt)
rises_by (p ∷ q ∷ ps) near =
    let first : NoLater p q = near 0 p (omega arith) in
    let rest : Rises (q ∷ ps) = rises_by (q ∷ ps) (λ k d lt. near (suc k) d (omega (arith, lt))) in
    ((λ y. elim [ inl e ↦ subst (NoLater p) e first | inr m ↦ no_later p q y first (rest.0 y m) ]), rest)

-- what two sorts give
pub rises_after : (ps : List Place) → IsNonDecreasingBy (λ p. p.rank) ps
    → ((k : ℕ) (d : Place) → k + 1 < length ps → (get_or ps k d).rank ≡ (get_or ps (k + 1) d).rank
    → (get_or ps k d).key.0.index ≤ (get_or ps (k + 1) d).key.0.index)
    → Rises ps
rises_after ps ranks ties = rises_by ps (λ k d lt.
    let up : k + 1 ≡ suc k = omega arith in
    let le : (get_or ps k d).rank ≤ (get_or ps (suc k) d).rank = ranks k (suc k) d (omega arith) lt in
    by k d (subst (λ j. (get_or ps k d).rank ≡ (get_or ps j d).rank → (get_or ps k d).key.0.index ≤ (get_or ps j d).key.0.index) up
    (ties k d (subst (λ j. j < length ps) (sym up) lt))) le (number_cases (get_or ps k d).rank (get_or ps (suc k) d).rank))
  where
    number_cases : (f g : ℕ) → (f ≡ g) ⊎ (f ≡ g → ⊥)
    number_cases zero zero = inl refl
    number_cases zero (suc g) = inr (λ e. absurd (omega (arith, e)))
    number_cases (suc f) zero = inr (λ e. absurd (omega (arith, e)))
    number_cases (suc f) (suc g) = elim (number_cases f g) [ inl e ↦ inl (ap suc e) | inr n ↦ inr (λ e. n (omega (arith, e))) ]

    by : (k : ℕ) (d : Place) → ((get_or ps k d).rank ≡ (get_or ps (suc k) d).rank → (get_or ps k d).key.0.index ≤ (get_or ps (suc k) d).key.0.index)
        → (get_or ps k d).rank ≤ (get_or ps (suc k) d).rank
        → ((get_or ps k d).rank ≡ (get_or ps (suc k) d).rank) ⊎ ((get_or ps k d).rank ≡ (get_or ps (suc k) d).rank → ⊥)
        → NoLater (get_or ps k d) (get_or ps (suc k) d)
    by k d ties le (inl e) = inr (e, ties e)
    by k d ties le (inr n) = inl (omega (arith, le, n))

-- MEMBERS are kept

contains : {A : Type 0} (xs : List A) (x : A) → IsMember xs x → Contains xs x
contains [] x m = absurd m
contains (y ∷ xs) x (inl e) = (0, omega arith, e)
contains (y ∷ xs) x (inr m) = let c = contains xs x m in let lt = c.1 in (suc c.0, omega (arith, lt), c.2)

is_member : {A : Type 0} (xs : List A) (x : A) → Contains xs x → IsMember xs x
is_member [] x (k, lt, e) = absurd (omega (arith, lt))
is_member (y ∷ xs) x (zero, lt, e) = inl e
is_member (y ∷ xs) x (suc k, lt, e) = inr (is_member xs x (k, omega (arith, lt), e))

pub permuted : {A : Type 0} (xs ys : List A) → IsPermutation xs ys → SameMembers xs ys
permuted xs ys p = record {
  left = λ x m. is_member ys x (Contains-permutation xs ys x p (contains xs x m));
  right = λ x m. is_member xs x (Contains-permutation ys xs x (IsPermutation-sym xs ys p) (contains ys x m));
}

mapped : {A B : Type 0} (f : A → B) (xs : List A) (y : B) → IsMember (map f xs) y → (x : A) × IsMember xs x × (f x ≡ y)
mapped f [] y m = absurd m
mapped f (x ∷ xs) y (inl e) = (x, inl refl, e)
mapped f (x ∷ xs) y (inr m) = let i = mapped f xs y m in (i.0, inr i.1, i.2)

-- the references at places are theirs
among_keys : (last : Option LinkKey) (ps : List Place) (k : LinkKey) → IsMember (keys_from last ps) k → (p : Place) × IsMember ps p × (p.key ≡ k)
among_keys last [] k m = absurd m
among_keys last (p ∷ ps) k m = by (is_last last p.key) (among_keys last ps k) (among_keys (Some p.key) ps k) m
  where
    by : (b : Bool) → (IsMember (keys_from last ps) k → (q : Place) × IsMember ps q × (q.key ≡ k))
        → (IsMember (keys_from (Some p.key) ps) k → (q : Place) × IsMember ps q × (q.key ≡ k))
        → IsMember (cond b (keys_from last ps) (p.key ∷ keys_from (Some p.key) ps)) k → (q : Place) × IsMember (p ∷ ps) q × (q.key ≡ k)
    by true here on m = let i = here m in (i.0, inr i.1, i.2)
    by false here on (inl e) = (p, inl refl, e)
    by false here on (inr m) = let i = on m in (i.0, inr i.1, i.2)

abbrev IsLast : Option LinkKey → LinkKey → Type 0
IsLast None k = ⊥
IsLast (Some l) k = l ≡ k

-- each is among them, or is the last one
in_keys : (last : Option LinkKey) (ps : List Place) (p : Place) → IsMember ps p → IsLast last p.key ⊎ IsMember (keys_from last ps) p.key
in_keys last [] p m = absurd m
in_keys last (q ∷ ps) p m = by (is_last last q.key) refl (in_keys last ps p) (in_keys (Some q.key) ps p) m
  where
    ended : (o : Option LinkKey) (k : LinkKey) → is_last o k ≡ true → IsLast o k
    ended None k e = cc
    ended (Some l) k e = sym (key_exact k l e)

    by : (b : Bool) → is_last last q.key ≡ b → (IsMember ps p → IsLast last p.key ⊎ IsMember (keys_from last ps) p.key)
        → (IsMember ps p → IsLast (Some q.key) p.key ⊎ IsMember (keys_from (Some q.key) ps) p.key) → IsMember (q ∷ ps) p
        → IsLast last p.key ⊎ IsMember (cond b (keys_from last ps) (q.key ∷ keys_from (Some q.key) ps)) p.key
    by true e here on (inl is) = inl (subst (λ (z : Place). IsLast last z.key) is (ended last q.key e))
    by true e here on (inr m) = here m
    by false e here on (inl is) = inr (inl (ap (λ (z : Place). z.key) is))
    by false e here on (inr m) = inr (elim (on m) [ inl same ↦ inl same | inr n ↦ inr n ])

pub same_keys : (ps : List Place) → SameMembers (keys_from None ps) (map (λ p. p.key) ps)
same_keys ps = record {
  left = λ k m. let i = among_keys None ps k m in subst (IsMember (map (λ (p : Place). p.key) ps)) i.2 (member_map (λ (p : Place). p.key) ps i.0 i.1);
  right = λ k m.
      let i = mapped (λ (p : Place). p.key) ps k m in
      subst (IsMember (keys_from None ps)) i.2 (elim (in_keys None ps i.0 i.1) [ inl bad ↦ absurd bad | inr there ↦ there ]);
}

-- THE ORDER of references is that of their places
module _ (files : List StoredFile) (are : AreFiles files) (ranks : List ℕ) (of : AreRanksOf files ranks) where
  -- the place of a reference whose file stands
  pub record IsPlace (p : Place) : Type 0 where
    file : StoredFile
    stands : slice_get files p.key.0.file.0 ≡ Some file
    rank : p.rank ≡ rank_of files file

  pub is_place : (k : LinkKey) → k.0.file.0 < length files → IsPlace (place_of ranks k)
  is_place k lt = elim (file_cases files k.0.file.0) [
    | inl none ↦ absurd (short files k.0.file.0 none lt)
    | inr there ↦ record { file = there.0; stands = there.1; rank = of.rank k.0.file.0 there.0 there.1 }
  ]
    where
      short : (xs : List StoredFile) (i : ℕ) → slice_get xs i ≡ None → i < length xs → ⊥
      short [] i e lt = absurd (omega (arith, lt))
      short (x ∷ xs) zero e lt = cc
      short (x ∷ xs) (suc i) e lt = short xs i e (omega (arith, lt))

  abbrev pub UpTo : LinkKey → LinkKey → Type 0
  UpTo a b = (a ≡ b) ⊎ ComesBefore files a b

  index_cases : (a b : LinkKey) → a.0.file ≡ b.0.file → a.0.index ≤ b.0.index → UpTo a b
  index_cases a b same le = by (number_cases a.0.index b.0.index)
    where
      number_cases : (f g : ℕ) → (f ≡ g) ⊎ (f ≡ g → ⊥)
      number_cases zero zero = inl refl
      number_cases zero (suc g) = inr (λ e. absurd (omega (arith, e)))
      number_cases (suc f) zero = inr (λ e. absurd (omega (arith, e)))
      number_cases (suc f) (suc g) = elim (number_cases f g) [ inl e ↦ inl (ap suc e) | inr n ↦ inr (λ e. n (omega (arith, e))) ]

      by : (a.0.index ≡ b.0.index) ⊎ (a.0.index ≡ b.0.index → ⊥) → UpTo a b
      by (inl e) = inl (λ j. record { 0 = record { file = same j; index = e j } })
      by (inr n) = inr (inr (same, omega (arith, le, n)))

  up_to : (p q : Place) → IsPlace p → IsPlace q → NoLater p q → UpTo p.key q.key
  up_to p q a b (inl lt) = inr (inl (
    a.file,
    b.file,
    a.stands,
    b.stands,
    less_before files p.key.0.file.0 q.key.0.file.0 a.file b.file are.names a.stands b.stands
        (let x = a.rank in let y = b.rank in omega (arith, lt, x, y)),
  ))
  up_to p q a b (inr (e, le)) =
      let same : p.key.0.file.0 ≡ q.key.0.file.0 =
      rank_once files p.rank p.key.0.file.0 q.key.0.file.0 are.names (a.file, a.stands, sym a.rank) (b.file, b.stands, sym b.rank ∙ sym e) in
      index_cases p.key q.key (λ j. record { 0 = same j }) le

  abbrev pub ArePlaces : List Place → Type 0
  ArePlaces ps = (p : Place) → IsMember ps p → IsPlace p

  strict : (l k : LinkKey) → is_last (Some l) k ≡ false → UpTo l k → ComesBefore files l k
  strict l k e (inl same) = (let self : same_key k k ≡ false = subst (λ z. same_key k z ≡ false) same e in
      let bad : true ≡ false = sym (key_is_exact.itself k) ∙ self in cc)
  strict l k e (inr before) = before

  -- those behind the last one come after it
  above_last : (l : LinkKey) (ps : List Place) → ArePlaces ps → Rises ps → ((p : Place) → IsMember ps p → UpTo l p.key) → (k : LinkKey)
      → IsMember (keys_from (Some l) ps) k → ComesBefore files l k
  above_last l [] are_places o h k m = absurd m
  above_last l (p ∷ ps) all o h k m =
      by (is_last (Some l) p.key) refl (above_last l ps (λ q n. all q (inr n)) o.1 (λ q n. h q (inr n)) k)
      (above_last p.key ps (λ q n. all q (inr n)) o.1 (λ q n. up_to p q (all p (inl refl)) (all q (inr n)) (o.0 q n)) k) m
    where
      by : (b : Bool) → is_last (Some l) p.key ≡ b → (IsMember (keys_from (Some l) ps) k → ComesBefore files l k)
          → (IsMember (keys_from (Some p.key) ps) k → ComesBefore files p.key k)
          → IsMember (cond b (keys_from (Some l) ps) (p.key ∷ keys_from (Some p.key) ps)) k → ComesBefore files l k
      by true e here on m = here m
      by false e here on (inl is) = subst (ComesBefore files l) is (strict l p.key e (h p (inl refl)))
      by false e here on (inr m) = before_those_behind files l p.key k (strict l p.key e (h p (inl refl))) (on m)

  pub keys_rise : (last : Option LinkKey) (ps : List Place) → ArePlaces ps → Rises ps → AreInOrder (ComesBefore files) (keys_from last ps)
  keys_rise last [] all o = tt
  keys_rise last (p ∷ ps) all o =
      by (is_last last p.key) (keys_rise last ps (λ q n. all q (inr n)) o.1) (keys_rise (Some p.key) ps (λ q n. all q (inr n)) o.1)
    where
      by : (b : Bool) → AreInOrder (ComesBefore files) (keys_from last ps) → AreInOrder (ComesBefore files) (keys_from (Some p.key) ps)
          → AreInOrder (ComesBefore files) (cond b (keys_from last ps) (p.key ∷ keys_from (Some p.key) ps))
      by true here on = here
      by false here on = (
        (λ k m. above_last p.key ps (λ q n. all q (inr n)) o.1 (λ q n. up_to p q (all p (inl refl)) (all q (inr n)) (o.0 q n)) k m),
        on,
      )

  -- all of this, of references that are put in order
  pub keys_in_order : (ks : List LinkKey) (ps : List Place) → HaveFiles (length files) ks → SameMembers (map (place_of ranks) ks) ps → Rises ps
      → AreInOrder (ComesBefore files) (keys_from None ps)
  keys_in_order ks ps have s o = keys_rise None ps
      (λ p m. let i = mapped (place_of ranks) ks p (s.right p m) in subst IsPlace i.2 (is_place i.0 (have i.0 i.1))) o

pub keys_same : (ranks : List ℕ) (ks : List LinkKey) (ps : List Place) → SameMembers (map (place_of ranks) ks) ps → SameMembers (keys_from None ps) ks
keys_same ranks ks ps s = same_through (same_keys ps) (record {
  left = λ k m.
      let i = mapped (λ (p : Place). p.key) ps k m in
      let j = mapped (place_of ranks) ks i.0 (s.right i.0 i.1) in
      subst (IsMember ks) (ap (λ (p : Place). p.key) j.2 ∙ i.2) j.1;
  right = λ k m. member_map (λ (p : Place). p.key) ps (place_of ranks k) (s.left (place_of ranks k) (member_map (place_of ranks) ks k m));
})

-- an item of a list is among it
pub among : {A : Type 0} (xs : List A) (i : ℕ) (d : A) → i < length xs → IsMember xs (get_or xs i d)
among [] i d lt = absurd (omega (arith, lt))
among (x ∷ xs) zero d lt = inl refl
among (x ∷ xs) (suc i) d lt = inr (among xs i d (omega (arith, lt)))
