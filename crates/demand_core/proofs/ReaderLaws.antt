-- How readers change with one record, and what a key's list says of them.
use Rattle.std.proofs.Common.{◌≡◌, ℕ, ◌+◌, ◌<◌, Bool, true, false, cond, List, [], ◌∷◌, length, take, get_or, refl, sym, ◌∙◌, ap, subst, inl, inr}
use Rattle.std.specs.Prelude.{Option, None, Some, is_some, not, ◌||◌, ◌&&◌, ◌↔◌, IsTrue}
use Rattle.std.specs.List.{list_any}
use Rattle.std.specs.Map.{update}
use Rattle.linker_base.specs.Members.{IsMember, IsExact}
use Rattle.linker_base.proofs.Cases.{bool_cases, some_same}
use Rattle.linker_base.proofs.MemberLaws.{member_cases, member_test, test_member}
use Rattle.demand_core.proofs.RoundsLaws.{one_more}
use Rattle.demand_core.specs.Readers.{or_empty, is_reader, IsListed}
use Rattle.demand_core.specs.Tables.{entry_of, Sets}

module _ {K T : Type 0} (eq : K → K → Bool) (exact : IsExact eq) (same : T → T → Bool) (same_exact : IsExact same) where
  -- the readers of one thing are set
  reader_here : (old new : List (T × List (K × Unit {0}))) (thing : T) (inner : List (K × Unit {0})) → Sets same old new thing inner → (t : T) (k : K)
      → same thing t ≡ true → is_reader eq same new t k ≡ is_some (entry_of eq inner k)
  reader_here old new thing inner sets t k at =
      let here : entry_of same new t ≡ Some inner = sets t ∙ ap (λ b. cond b (Some inner) (entry_of same old t)) at in
      ap (λ o. is_some (entry_of eq (or_empty o) k)) here

  reader_there : (old new : List (T × List (K × Unit {0}))) (thing : T) (inner : List (K × Unit {0})) → Sets same old new thing inner → (t : T) (k : K)
      → same thing t ≡ false → is_reader eq same new t k ≡ is_reader eq same old t k
  reader_there old new thing inner sets t k off =
      let there : entry_of same new t ≡ entry_of same old t = sets t ∙ ap (λ b. cond b (Some inner) (entry_of same old t)) off in
      ap (λ o. is_some (entry_of eq (or_empty o) k)) there

  before_here : (old : List (T × List (K × Unit {0}))) (thing : T) (before : List (K × Unit {0})) → or_empty (entry_of same old thing) ≡ before
      → (t : T) (k : K)
      → same thing t ≡ true → is_some (entry_of eq before k) ≡ is_reader eq same old t k
  before_here old thing before had t k at =
      ap (λ b. is_some (entry_of eq b k)) (sym had) ∙ ap (λ x. is_some (entry_of eq (or_empty (entry_of same old x)) k)) (same_exact.exact thing t at)

  -- one reader more
  pub reader_more : (old new : List (T × List (K × Unit {0}))) (thing : T) (before inner : List (K × Unit {0})) (key : K) → Sets same old new thing inner
      → or_empty (entry_of same old thing) ≡ before → Sets eq before inner key tt
      → (t : T) (k : K) → is_reader eq same new t k ≡ (same thing t && eq key k || is_reader eq same old t k)
  reader_more old new thing before inner key sets had puts t k = elim (bool_cases (same thing t)) [
    | inl at ↦ reader_here old new thing inner sets t k at ∙ ap is_some (puts k) ∙ elim (bool_cases (eq key k)) [
      | inl is ↦ rw (at, is) refl
      | inr other ↦ rw (at, other) (before_here old thing before had t k at)
    ]
    | inr off ↦ reader_there old new thing inner sets t k off ∙ rw off refl
  ]

  -- the readers are set to what they were
  pub reader_same : (old new : List (T × List (K × Unit {0}))) (thing : T) (before inner : List (K × Unit {0})) → Sets same old new thing inner
      → or_empty (entry_of same old thing) ≡ before → inner ≡ before
      → (t : T) (k : K) → is_reader eq same new t k ≡ is_reader eq same old t k
  reader_same old new thing before inner sets had is t k = elim (bool_cases (same thing t)) [
    | inl at ↦ reader_here old new thing inner sets t k at ∙ ap (λ b. is_some (entry_of eq b k)) is ∙ before_here old thing before had t k at
    | inr off ↦ reader_there old new thing inner sets t k off
  ]

  -- one reader less
  pub reader_less : (old new : List (T × List (K × Unit {0}))) (thing : T) (before inner : List (K × Unit {0})) (key : K) → Sets same old new thing inner
      → or_empty (entry_of same old thing) ≡ before → ((q : K) → entry_of eq inner q ≡ update eq (entry_of eq before) key None q)
      → (t : T) (k : K) → is_reader eq same new t k ≡ (not (same thing t && eq key k) && is_reader eq same old t k)
  reader_less old new thing before inner key sets had takes t k = elim (bool_cases (same thing t)) [
    | inl at ↦ reader_here old new thing inner sets t k at ∙ ap is_some (takes k) ∙ elim (bool_cases (eq key k)) [
      | inl is ↦ rw (at, is) refl
      | inr other ↦ rw (at, other) (before_here old thing before had t k at)
    ]
    | inr off ↦ reader_there old new thing inner sets t k off ∙ rw off refl
  ]

  -- where a thing has no readers none is taken
  pub reader_none : (old : List (T × List (K × Unit {0}))) (thing : T) (key : K) → entry_of same old thing ≡ None
      → (t : T) (k : K) → is_reader eq same old t k ≡ (not (same thing t && eq key k) && is_reader eq same old t k)
  reader_none old thing key none t k = elim (bool_cases (same thing t)) [
    | inl at ↦
        let nobody : is_reader eq same old t k ≡ false = ap (λ o. is_some (entry_of eq (or_empty o) k))
        (sym (ap (entry_of same old) (same_exact.exact thing t at)) ∙ none) in
        nobody ∙ sym (ap (λ b. not (same thing t && eq key k) && b) nobody ∙ and_false (not (same thing t && eq key k)))
    | inr off ↦ rw off refl
  ]
    where
      and_false : (a : Bool) → (a && false) ≡ false
      and_false true = refl
      and_false false = refl

  -- a thing without readers is let go
  pub reader_gone : (old new : List (T × List (K × Unit {0}))) (thing : T) → ((q : T) → entry_of same new q ≡ update same (entry_of same old) thing None q)
      → ((k : K) → is_reader eq same old thing k ≡ false) → (t : T) (k : K) → is_reader eq same new t k ≡ is_reader eq same old t k
  reader_gone old new thing takes nobody t k = elim (bool_cases (same thing t)) [
    | inl at ↦
        let here : entry_of same new t ≡ None = takes t ∙ ap (λ b. cond b None (entry_of same old t)) at in
        ap (λ o. is_some (entry_of eq (or_empty o) k)) here ∙ sym (subst (λ x. is_reader eq same old x k ≡ false) (same_exact.exact thing t at) (nobody k))
    | inr off ↦
        let there : entry_of same new t ≡ entry_of same old t = takes t ∙ ap (λ b. cond b None (entry_of same old t)) off in
        ap (λ o. is_some (entry_of eq (or_empty o) k)) there
  ]

  -- a thing whose readers are set to none has none
  pub reader_empty : (old new : List (T × List (K × Unit {0}))) (thing : T) (inner : List (K × Unit {0})) → Sets same old new thing inner → inner ≡ []
      → (k : K) → is_reader eq same new thing k ≡ false
  reader_empty old new thing inner sets none k =
      reader_here old new thing inner sets thing k (same_exact.itself thing) ∙ ap (λ b. is_some (entry_of eq b k)) none

  module _ (old new : List (T × List (K × Unit {0}))) (thing : T) (key : K) where
    -- one note more: what was noted stays, and the thing is noted
    pub noted_kept : ((t : T) (k : K) → is_reader eq same new t k ≡ (same thing t && eq key k || is_reader eq same old t k))
        → (t : T) (k : K) → is_reader eq same old t k ≡ true → is_reader eq same new t k ≡ true
    noted_kept notes t k h = notes t k ∙ ap (λ b. same thing t && eq key k || b) h ∙ or_true (same thing t && eq key k)
      where
        or_true : (b : Bool) → (b || true) ≡ true
        or_true true = refl
        or_true false = refl

    noted_here : ((t : T) (k : K) → is_reader eq same new t k ≡ (same thing t && eq key k || is_reader eq same old t k))
        → is_reader eq same new thing key ≡ true
    noted_here notes = notes thing key ∙ rw (same_exact.itself thing, exact.itself key) refl

    pub noted_more : (i : ℕ) (things : List T) → i < length things → thing ≡ get_or things i thing
        → ((t : T) (k : K) → is_reader eq same new t k ≡ (same thing t && eq key k || is_reader eq same old t k))
        → ((t : T) → IsMember (take i things) t → is_reader eq same old t key ≡ true) → (t : T) → IsMember (take (i + 1) things) t
        → is_reader eq same new t key ≡ true
    noted_more i things lt is notes noted t m = elim
        (member_cases (take i things) (thing ∷ []) t (subst (λ xs. IsMember xs t) (one_more i things thing lt is) m)) [
          | inl before ↦ noted_kept notes t key (noted t before)
          | inr last ↦ elim last [ inl e ↦ subst (λ x. is_reader eq same new x key ≡ true) e (noted_here notes) | inr bad ↦ absurd bad ]
        ]

    -- one reader less: others stay
    pub taken_other : ((t : T) (k : K) → is_reader eq same new t k ≡ (not (same thing t && eq key k) && is_reader eq same old t k))
        → (t : T) (k : K) → eq key k ≡ false → is_reader eq same new t k ≡ is_reader eq same old t k
    taken_other takes t k other = takes t k ∙ by_place (same thing t) (eq key k) (is_reader eq same old t k) other
      where
        by_place : (a b c : Bool) → b ≡ false → (not (a && b) && c) ≡ c
        by_place true b c e = rw e refl
        by_place false b c e = refl

    taken_here : ((t : T) (k : K) → is_reader eq same new t k ≡ (not (same thing t && eq key k) && is_reader eq same old t k))
        → is_reader eq same new thing key ≡ false
    taken_here takes = takes thing key ∙ rw (same_exact.itself thing, exact.itself key) refl

    taken_stays : ((t : T) (k : K) → is_reader eq same new t k ≡ (not (same thing t && eq key k) && is_reader eq same old t k))
        → (t : T) (k : K) → is_reader eq same old t k ≡ false → is_reader eq same new t k ≡ false
    taken_stays takes t k h = takes t k ∙ ap (λ b. not (same thing t && eq key k) && b) h ∙ and_false (not (same thing t && eq key k))
      where
        and_false : (a : Bool) → (a && false) ≡ false
        and_false true = refl
        and_false false = refl

    pub gone_more : (i : ℕ) (things : List T) → i < length things → thing ≡ get_or things i thing
        → ((t : T) (k : K) → is_reader eq same new t k ≡ (not (same thing t && eq key k) && is_reader eq same old t k))
        → ((t : T) → IsMember (take i things) t → is_reader eq same old t key ≡ false) → (t : T) → IsMember (take (i + 1) things) t
        → is_reader eq same new t key ≡ false
    gone_more i things lt is takes gone t m = elim
        (member_cases (take i things) (thing ∷ []) t (subst (λ xs. IsMember xs t) (one_more i things thing lt is) m)) [
          | inl before ↦ taken_stays takes t key (gone t before)
          | inr last ↦ elim last [ inl e ↦ subst (λ x. is_reader eq same new x key ≡ false) e (taken_here takes) | inr bad ↦ absurd bad ]
        ]

  -- a reader has an entry among the readers of the thing
  pub reader_at : (readers : List (T × List (K × Unit {0}))) (thing : T) (inner : List (K × Unit {0})) (k : K) → Some inner ≡ entry_of same readers thing
      → is_reader eq same readers thing k ≡ true → entry_of eq inner k ≡ Some tt
  reader_at readers thing inner k there is = by_entry (entry_of eq inner k) (ap (λ o. is_some (entry_of eq (or_empty o) k)) there ∙ is)
    where
      by_entry : (o : Option (Unit {0})) → is_some o ≡ true → o ≡ Some tt
      by_entry None e = cc
      by_entry (Some u) e = refl

  -- a thing without a table of readers has none
  pub reader_nowhere : (readers : List (T × List (K × Unit {0}))) (thing : T) (k : K) → None ≡ entry_of same readers thing
      → is_reader eq same readers thing k ≡ true → ⊥
  reader_nowhere readers thing k there is =
      let bad : false ≡ true = ap (λ o. is_some (entry_of eq (or_empty o) k)) there ∙ is in
      cc

  -- a test of the key's list
  pub listed_by : (lists : List (K × List T)) (key : K) (thing : T) (list : List T) (b : Bool) → Some list ≡ entry_of eq lists key
      → b ≡ list_any (same thing) list
      → IsTrue b ↔ IsListed eq lists key thing
  listed_by lists key thing list b there is = (
    λ yes. (list, sym there, test_member same same_exact list thing (sym is ∙ yes)),
    λ (l, at, i). is ∙ member_test same same_exact list thing (subst (λ x. IsMember x thing) (some_same l list (sym at ∙ sym there)) i),
  )
