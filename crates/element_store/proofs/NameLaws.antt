-- A table of names, a note at a time.
use Rattle.std.proofs.Common.{◌≡◌, ℕ, ◌+◌, ◌<◌, Bool, true, false, ◌&&◌, cond, nat_eq, List, [], ◌∷◌, ◌++◌, length, take, get_or, rules, arith, refl, sym, ◌∙◌, ap, subst, inl, inr, append-nil}
use Rattle.std.specs.Prelude.{suc, Option, None, Some, Vec, unwrap_or}
use Rattle.std.specs.declared.alloc.Global.{Global}
use Rattle.std.specs.Map.{lookup, set_value}
use Rattle.std.specs.Cmp.Lexicographic.{pointwise}
use Rattle.std.proofs.lemmas.List.{take_more}
use Rattle.std.proofs.lemmas.Option.{get_or_from_slice_get, slice_get-get_or}
use Rattle.std.proofs.lemmas.Slice.Eq.{bytes_eq-Decides}
use Rattle.std.proofs.lemmas.Bool.Decides.{Decides-eqb}
use Rattle.linker_base.specs.Members.{IsExact}
use Rattle.linker_base.proofs.Cases.{bool_cases}
use Rattle.element_store.specs.declared.records.Member.{Member}
use Rattle.element_store.specs.Numbers.{chosen, numbers_from}
use Rattle.element_store.specs.Model.{bears, bearers}
use Rattle.element_store.specs.NameTables.{Names, Table, numbers_under, names_of, found_in, if_noted}

-- names, and numbers, are equal where they are found equal
pub exact_names : IsExact (pointwise nat_eq)
exact_names = record { exact = λ x y. (bytes_eq-Decides x y).0; itself = λ x. (bytes_eq-Decides x x).1 refl }

pub exact_numbers : IsExact nat_eq
exact_numbers = record { exact = λ x y. (Decides-eqb x y).0; itself = λ x. (Decides-eqb x x).1 refl }

-- an exact test has no order
pub exact_turned : {A : Type 0} (same : A → A → Bool) → IsExact same → (x y : A) → same x y ≡ same y x
exact_turned same law x y = elim (bool_cases (same x y)) [
  | inl is ↦ let e : x ≡ y = law.exact x y is in subst (λ z. same x z ≡ same z x) e refl
  | inr other ↦ elim (bool_cases (same y x)) [
    | inl is ↦ let e : y ≡ x = law.exact y x is in subst (λ z. same z y ≡ same y z) e refl
    | inr turned ↦ cc
  ]
]

twice : {A : Type 0} (b : Bool) (x y z : A) → cond b x z ≡ cond b x (cond b y z)
twice true x y z = refl
twice false x y z = refl

-- lists that keep a value under each key, where keys are sought by what they are called
module _ {Q K V : Type 0} (same : Q → Q → Bool) (law : IsExact same) (called : K → Q) where
  -- a key that another query finds is passed over
  passed : (q r : Q) (k : K) (x y w : Option V) → same q (called k) ≡ false → cond (same r (called k)) x (cond (same r q) w y) ≡ cond (same r q) w (cond (same r (called k)) x y)
  passed q r k x y w other = elim (bool_cases (same r q)) [
    | inl is ↦
        let e : q ≡ r = sym (law.exact r q is) in
        let apart : same r (called k) ≡ false = subst (λ z. same z (called k) ≡ false) e other in
        rw (is, apart) refl
    | inr otherwise ↦ rw otherwise refl
  ]

  -- what is found after the value under a key is changed
  pub found_set : (q r : Q) (v w : V) (es : List (K × V)) → lookup (λ k. same q (called k)) es ≡ Some v
      → lookup (λ k. same r (called k)) (set_value (λ k. same q (called k)) es w) ≡ cond (same r q) (Some w) (lookup (λ k. same r (called k)) es)
  found_set q r v w [] h = cc
  found_set q r v w (e ∷ es) h = elim (bool_cases (same q (called e.0))) [
    | inl is ↦
        let at : called e.0 ≡ q = sym (law.exact q (called e.0) is) in
        rw is (rw at (twice (same r q) (Some w) (Some e.1) (lookup (λ k. same r (called k)) es)))
    | inr other ↦
        let more = found_set q r v w es (rw other at h) in
        rw (other, more) (passed q r e.0 (Some e.1) (lookup (λ k. same r (called k)) es) (Some w) other)
  ]

  -- what is found after a new key is put last
  pub found_new : (q r : Q) (k : K) (w : V) (es : List (K × V)) → called k ≡ q → lookup (λ k. same q (called k)) es ≡ None
      → lookup (λ k. same r (called k)) (es ++ (k, w) ∷ []) ≡ cond (same r q) (Some w) (lookup (λ k. same r (called k)) es)
  found_new q r k w [] is h = rw is refl
  found_new q r k w (e ∷ es) is h = elim (bool_cases (same q (called e.0))) [
    | inl there ↦ let none = rw there at h in cc
    | inr other ↦
        let more = found_new q r k w es is (rw other at h) in
        rw more (passed q r e.0 (Some e.1) (lookup (λ k. same r (called k)) es) (Some w) other)
  ]

-- the list under a name, when one number more stands at the end of what is kept there
pub name_noted : (old new : Names) (name : List ℕ) (number : ℕ)
    → ((x : List ℕ) → lookup (λ k. pointwise nat_eq x k.items) new ≡ cond (pointwise nat_eq x name) (Some (numbers_under old name ++ number ∷ [])) (lookup (λ k. pointwise nat_eq x k.items) old))
    → (x : List ℕ) → numbers_under new x ≡ numbers_under old x ++ if_noted (pointwise nat_eq x name) number
name_noted old new name number h x = elim (bool_cases (pointwise nat_eq x name)) [
  | inl is ↦
      let e : name ≡ x = sym (exact_names.exact x name is) in
      let there = h x in
      rw there (rw is (ap (λ y. numbers_under old y ++ number ∷ []) e))
  | inr other ↦ let there = h x in rw there (rw other (sym (append-nil (numbers_under old x))))
]

-- the list under a name, when a number is put at the end of the list that is kept there
pub name_changed : (old new : Names) (name : List ℕ) (number : ℕ) (v w : List ℕ) → lookup (λ k. pointwise nat_eq name k.items) old ≡ Some v → w ≡ v ++ number ∷ []
    → new ≡ set_value (λ k. pointwise nat_eq name k.items) old w → (x : List ℕ) → numbers_under new x ≡ numbers_under old x ++ if_noted (pointwise nat_eq x name) number
name_changed old new name number v w there more set =
    let kept : w ≡ numbers_under old name ++ number ∷ [] = more ∙ ap (λ o. unwrap_or o [] ++ number ∷ []) (sym there) in
    name_noted old new name number (λ x.
    ap (lookup (λ k. pointwise nat_eq x k.items)) set
    ∙ found_set (pointwise nat_eq) exact_names (λ k. k.items) name x v w old there
    ∙ ap (λ l. cond (pointwise nat_eq x name) (Some l) (lookup (λ k. pointwise nat_eq x k.items) old)) kept)

-- the list under a name, when the name is put last, with a list of the number alone
pub name_added : (old new : Names) (name : List ℕ) (number : ℕ) (k : Vec ℕ Global) (w : List ℕ) → lookup (λ k. pointwise nat_eq name k.items) old ≡ None → k.items ≡ name → w ≡ number ∷ []
    → new ≡ old ++ (k, w) ∷ [] → (x : List ℕ) → numbers_under new x ≡ numbers_under old x ++ if_noted (pointwise nat_eq x name) number
name_added old new name number k w none is alone last =
    let kept : w ≡ numbers_under old name ++ number ∷ [] = alone ∙ ap (λ o. unwrap_or o [] ++ number ∷ []) (sym none) in
    name_noted old new name number (λ x.
    ap (lookup (λ k. pointwise nat_eq x k.items)) last
    ∙ found_new (pointwise nat_eq) exact_names (λ k. k.items) name x k w old is none
    ∙ ap (λ l. cond (pointwise nat_eq x name) (Some l) (lookup (λ k. pointwise nat_eq x k.items) old)) kept)

-- the same in a table of names, when a name of one owner is noted
pub table_noted : (old new : Table) (names : Names) (owner : ℕ) (name : List ℕ) (number : ℕ)
    → ((o : ℕ) → lookup (nat_eq o) new ≡ cond (nat_eq o owner) (Some names) (lookup (nat_eq o) old))
    → ((x : List ℕ) → numbers_under names x ≡ numbers_under (names_of old owner) x ++ if_noted (pointwise nat_eq x name) number)
    → (o : ℕ) (x : List ℕ) → found_in new o x ≡ found_in old o x ++ if_noted (nat_eq owner o && pointwise nat_eq x name) number
table_noted old new names owner name number h noted o x = elim (bool_cases (nat_eq o owner)) [
  | inl is ↦
      let e : owner ≡ o = sym (exact_numbers.exact o owner is) in
      let turned : nat_eq owner o ≡ true = exact_turned nat_eq exact_numbers owner o ∙ is in
      let there = h o in
      rw (there, is, turned) (noted x ∙ ap (λ p. found_in old p x ++ if_noted (pointwise nat_eq x name) number) e)
  | inr other ↦
      let turned : nat_eq owner o ≡ false = exact_turned nat_eq exact_numbers owner o ∙ other in
      let there = h o in
      rw (there, other, turned) (sym (append-nil (found_in old o x)))
]

-- a table, when a name is noted among the names that it keeps for an owner
pub table_changed : (old new : Table) (names w : Names) (owner : ℕ) (name : List ℕ) (number : ℕ) → lookup (nat_eq owner) old ≡ Some names
    → ((x : List ℕ) → numbers_under w x ≡ numbers_under names x ++ if_noted (pointwise nat_eq x name) number)
    → new ≡ set_value (nat_eq owner) old w → (o : ℕ) (x : List ℕ) → found_in new o x ≡ found_in old o x ++ if_noted (nat_eq owner o && pointwise nat_eq x name) number
table_changed old new names w owner name number there more set =
    table_noted old new w owner name number (λ o. ap (lookup (nat_eq o)) set ∙ found_set nat_eq exact_numbers (λ k. k) owner o names w old there)
    (λ x. more x ∙ ap (λ p. numbers_under (unwrap_or p []) x ++ if_noted (pointwise nat_eq x name) number) (sym there))

-- a table, when an owner is put last, with the names noted for it
pub table_added : (old new : Table) (names w : Names) (owner : ℕ) (name : List ℕ) (number : ℕ) → lookup (nat_eq owner) old ≡ None → names ≡ []
    → ((x : List ℕ) → numbers_under w x ≡ numbers_under names x ++ if_noted (pointwise nat_eq x name) number)
    → new ≡ old ++ (owner, w) ∷ [] → (o : ℕ) (x : List ℕ) → found_in new o x ≡ found_in old o x ++ if_noted (nat_eq owner o && pointwise nat_eq x name) number
table_added old new names w owner name number none empty more last =
    table_noted old new w owner name number (λ o. ap (lookup (nat_eq o)) last ∙ found_new nat_eq exact_numbers (λ k. k) owner o owner w old refl none)
    (λ x. more x ∙ ap (λ p. numbers_under p x ++ if_noted (pointwise nat_eq x name) number) (empty ∙ sym (ap (λ p. unwrap_or p []) none)))

-- the numbers of items, with one item more
chosen_more : (b : Bool) (n : ℕ) (xs ys : List ℕ) → chosen b n (xs ++ ys) ≡ chosen b n xs ++ ys
chosen_more true n xs ys = refl
chosen_more false n xs ys = refl

pub numbers_more : {A : Type 0} (n : ℕ) (test : A → Bool) (xs : List A) (x : A)
    → numbers_from n test (xs ++ x ∷ []) ≡ numbers_from n test xs ++ if_noted (test x) (n + length xs)
numbers_more n test [] x = ap (λ k. if_noted (test x) k) (omega arith)
numbers_more n test (y ∷ ys) x =
    ap (chosen (test y) n) (numbers_more (suc n) test ys x ∙ ap (λ k. numbers_from (suc n) test ys ++ if_noted (test x) k) (omega arith))
    ∙ chosen_more (test y) n (numbers_from (suc n) test ys) (if_noted (test x) (n + length (y ∷ ys)))

-- the numbers of those that pass a test among the items up to the next one
pub numbers_at : {A : Type 0} (test : A → Bool) (xs : List A) (i : ℕ) (x : A) → i < length xs → x ≡ get_or xs i x
    → numbers_from 0 test (take (i + 1) xs) ≡ numbers_from 0 test (take i xs) ++ if_noted (test x) i
numbers_at test xs i x h is =
    ap (numbers_from 0 test) (take_more xs i x h ∙ ap (λ y. take i xs ++ y ∷ []) (sym is))
    ∙ numbers_more 0 test (take i xs) x
    ∙ ap (λ k. numbers_from 0 test (take i xs) ++ if_noted (test x) k) (omega (arith, fits))
  where
    fits : length (take i xs) ≡ i
    fits = search rules

-- the same where the item is what stands at the place
pub numbers_there : {A : Type 0} (test : A → Bool) (xs : List A) (i : ℕ) (d : A) → i < length xs
    → numbers_from 0 test (take (i + 1) xs) ≡ numbers_from 0 test (take i xs) ++ if_noted (test (get_or xs i d)) i
numbers_there test xs i d h =
    let x = get_or xs i d in
    numbers_at test xs i x h (sym (get_or_from_slice_get xs i x x (slice_get-get_or xs i d h)))

-- who bears a name among the members up to the next one
pub bearers_at : (members : List Member) (i : ℕ) (m : Member) → i < length members → m ≡ get_or members i m → (owner : ℕ) (x : List ℕ)
    → bearers (take (i + 1) members) owner x ≡ bearers (take i members) owner x ++ if_noted (nat_eq m.owner owner && bears x m) i
bearers_at members i m h is owner x = numbers_at (λ y. nat_eq y.owner owner && bears x y) members i m h is
