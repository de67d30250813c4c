-- What an edit leaves: the texts under all names, and the names.
use Rattle.std.proofs.Common.{◌≡◌, ◌∙◌, ◌⊎◌, ℕ, suc, ◌≤◌, Bool, true, false, cond, List, [], ◌∷◌, ◌++◌, length, refl, sym, ap, subst, arith, inl, inr}
use Rattle.std.specs.Prelude.{◌≢◌, Option, Some, None, nat_eq, nat_lt}
use Rattle.std.specs.Option.{option_map_or}
use Rattle.std.specs.Map.{keys_of, lookup}
use Rattle.std.specs.Cmp.Lexicographic.{pointwise, bytes_decides}
use Rattle.std.proofs.lemmas.Bool.Decides.{nat_tests}
use Rattle.linker_base.specs.Members.{IsMember, IsEachOnce}
use Rattle.linker_base.specs.declared.limits.TheConstants.{BOOK_BYTES, FILE_BYTES, NAMES}
use Rattle.linker_base.proofs.Cases.{bool_cases}
use Rattle.book_model.specs.declared.edit.Edit.{Edit}
use Rattle.book_model.specs.declared.edit.Edit.TheVariants.{Put, Drop}
use Rattle.book_model.specs.Book.{Book, text_in, with_entry, put_in, bytes_in, Edited, dropped, edited, left_by}
use Rattle.book_model.specs.Laws.{name_in, text_after, IsDone}
use Rattle.book_model.specs.Proper.{IsWithin}

-- the test of names is that of equality
same_name : (x y : List ℕ) → pointwise nat_eq x y ≡ true → x ≡ y
same_name x y h = (bytes_decides x y).0 h

-- each name passes its own test
own_name : (x : List ℕ) → pointwise nat_eq x x ≡ true
own_name x = (bytes_decides x x).1 refl

-- and no other
other_name : (x y : List ℕ) → x ≢ y → pointwise nat_eq x y ≡ false
other_name x y h = elim (bool_cases (pointwise nat_eq x y)) [ inl e ↦ absurd (h (same_name x y e)) | inr e ↦ e ]

-- the entry under the name is the new one
found_own : (book : Book) (name : List ℕ) (text : Option (List ℕ)) → lookup (pointwise nat_eq name) (with_entry book name text) ≡ Some text
found_own [] name text = rw (own_name name) refl
found_own (e ∷ es) name text = elim (bool_cases (pointwise nat_eq name e.0)) [
  | inl is ↦ rw (is, is) refl
  | inr far ↦ rw (far, far) (found_own es name text)
]

-- and under any other name the old one
found_others : (book : Book) (name x : List ℕ) (text : Option (List ℕ)) → x ≢ name
    → lookup (pointwise nat_eq x) (with_entry book name text) ≡ lookup (pointwise nat_eq x) book
found_others [] name x text other = rw (other_name x name other) refl
found_others (e ∷ es) name x text other = elim (bool_cases (pointwise nat_eq name e.0)) [
  | inl is ↦
      let far : pointwise nat_eq x e.0 ≡ false = other_name x e.0 (λ same. other (same ∙ sym (same_name name e.0 is))) in
      rw (is, far) refl
  | inr far ↦ rw far (ap (λ o. cond (pointwise nat_eq x e.0) (Some e.1) o) (found_others es name x text other))
]

-- names stay, or a new one goes last
names_are : (book : Book) (name : List ℕ) (text : Option (List ℕ))
    → (keys_of (with_entry book name text) ≡ keys_of book) ⊎ (keys_of (with_entry book name text) ≡ keys_of book ++ name ∷ [])
names_are [] name text = inr refl
names_are (e ∷ es) name text = elim (bool_cases (pointwise nat_eq name e.0)) [
  | inl is ↦ inl (rw is refl)
  | inr far ↦ elim (names_are es name text) [
    | inl same ↦ inl (rw far (ap (λ ks. e.0 ∷ ks) same))
    | inr more ↦ inr (rw far (ap (λ ks. e.0 ∷ ks) more))
  ]
]

-- an edit adds its name alone
names_among : (book : Book) (name x : List ℕ) (text : Option (List ℕ)) → IsMember (keys_of (with_entry book name text)) x → (name ≡ x)
    ⊎ IsMember (keys_of book) x
names_among [] name x text (inl e) = inl e
names_among [] name x text (inr m) = absurd m
names_among (e ∷ es) name x text m = elim (bool_cases (pointwise nat_eq name e.0)) [
  | inl is ↦ inr (rw is at m)
  | inr far ↦ elim (rw far at m) [ inl q ↦ inr (inl q) | inr h ↦ elim (names_among es name x text h) [ inl q ↦ inl q | inr g ↦ inr (inr g) ] ]
]

-- and leaves each name once
pub names_once : (book : Book) (name : List ℕ) (text : Option (List ℕ)) → IsEachOnce (keys_of book) → IsEachOnce (keys_of (with_entry book name text))
names_once [] name text once = (λ m. m, tt)
names_once (e ∷ es) name text once = elim (bool_cases (pointwise nat_eq name e.0)) [
  | inl is ↦ rw is once
  | inr far ↦ rw far (
    λ m. elim (names_among es name e.0 text m) [
      | inl q ↦ let bad : true ≡ false = sym ((bytes_decides name e.0).1 q) ∙ far in cc
      | inr h ↦ once.0 h
    ],
    names_once es name text once.1,
  )
]

-- a new entry does what an edit should
entry_done : (book : Book) (e : Edit) → IsDone book e (with_entry book (name_in e) (text_after e))
entry_done book e = record {
  own = ap (λ (o : Option (Option (List ℕ))). option_map_or (λ text. text) o None) (found_own book (name_in e) (text_after e));
  others = λ x other. ap (λ (o : Option (Option (List ℕ))). option_map_or (λ text. text) o None) (found_others book (name_in e) x (text_after e) other);
  names = names_are book (name_in e) (text_after e);
  once = names_once book (name_in e) (text_after e);
}

-- a change is the only one that the edit can make
changed_same : (a b : Book) → Edited.Changed a ≡ Edited.Changed b → a ≡ b
changed_same a b e = cc

-- what was not refused passed the three tests
pub record HasPassed (book : Book) (name text : List ℕ) (changed : Book) : Type 0 where
  pub size : nat_lt FILE_BYTES (length text) ≡ false
  pub same : put_in book name text ≡ changed
  pub names : nat_lt NAMES (length (put_in book name text)) ≡ false
  pub bytes : nat_lt BOOK_BYTES (bytes_in (put_in book name text)) ≡ false

-- a put that changes the book passed them
pub put_passed : (book : Book) (name text : List ℕ) (changed : Book) → edited book (Put name text) ≡ Edited.Changed changed → HasPassed book name text changed
put_passed book name text changed e =
    passed (nat_lt FILE_BYTES (length text)) (nat_lt NAMES (length (put_in book name text)))
    (nat_lt BOOK_BYTES (bytes_in (put_in book name text))) refl refl refl e
  where
    passed : (a b c : Bool) → a ≡ nat_lt FILE_BYTES (length text) → b ≡ nat_lt NAMES (length (put_in book name text))
        → c ≡ nat_lt BOOK_BYTES (bytes_in (put_in book name text))
        → cond a (Edited.Limit FILE_BYTES) (cond b (Edited.Limit NAMES) (cond c (Edited.Limit BOOK_BYTES) (Edited.Changed (put_in book name text))))
        ≡ Edited.Changed changed
        → HasPassed book name text changed
    passed true b c o p q e = absurd (cc)
    passed false true c o p q e = absurd (cc)
    passed false false true o p q e = absurd (cc)
    passed false false false o p q e = record { size = sym o; same = changed_same (put_in book name text) changed e; names = sym p; bytes = sym q }

-- a drop that changes the book found a text
pub drop_passed : (book : Book) (name : List ℕ) (text : Option (List ℕ)) (changed : Book) → dropped book name text ≡ Edited.Changed changed
    → with_entry book name None ≡ changed
drop_passed book name None changed e = absurd (cc)
drop_passed book name (Some text) changed e = changed_same (with_entry book name None) changed e

-- what an edit leaves
pub edit_done : (book : Book) (e : Edit) (changed : Book) → edited book e ≡ Edited.Changed changed → IsDone book e changed
edit_done book (Put name text) changed is = subst (IsDone book (Put name text)) (put_passed book name text changed is).same (entry_done book (Put name text))
edit_done book (Drop name) changed is = subst (IsDone book (Drop name)) (drop_passed book name (text_in book name) changed is) (entry_done book (Drop name))

-- a drop makes no book longer
drop_names : (book : Book) (name text : List ℕ) → text_in book name ≡ Some text → length (with_entry book name None) ≡ length book
drop_names [] name text at = absurd (cc)
drop_names (e ∷ es) name text at = elim (bool_cases (pointwise nat_eq name e.0)) [
  | inl is ↦ rw is refl
  | inr far ↦ rw far (ap suc (drop_names es name text (rw far at at)))
]

-- and no book heavier
drop_bytes : (book : Book) (name : List ℕ) → bytes_in (with_entry book name None) ≤ bytes_in book
drop_bytes [] name = omega arith
drop_bytes (e ∷ es) name = elim (bool_cases (pointwise nat_eq name e.0)) [
  | inl is ↦ rw is (omega arith)
  | inr far ↦ rw far (omega (arith, drop_bytes es name))
]

-- so it leaves a book within its limits
drop_within : (book : Book) (name : List ℕ) (text : Option (List ℕ)) → text_in book name ≡ text → IsWithin book → (changed : Book)
    → dropped book name text ≡ Edited.Changed changed → IsWithin changed
drop_within book name None at w changed is = absurd (cc)
drop_within book name (Some text) at w changed is = subst IsWithin (changed_same (with_entry book name None) changed is) (record {
  names = omega (arith, w.names, drop_names book name text at);
  bytes = omega (arith, w.bytes, drop_bytes book name);
})

-- a book within its limits is left within them
pub edit_within : (book : Book) (e : Edit) (changed : Book) → IsWithin book → edited book e ≡ Edited.Changed changed → IsWithin changed
edit_within book (Put name text) changed w is =
    let p = put_passed book name text changed is in
    subst IsWithin p.same (record { names = grind (arith, nat_tests, p.names); bytes = grind (arith, nat_tests, p.bytes) })
edit_within book (Drop name) changed w is = drop_within book name (text_in book name) refl w changed is

-- a refused edit changes nothing
pub refused_same : (book : Book) (e : Edit) (number : ℕ) → edited book e ≡ Edited.Limit number → left_by book (edited book e) ≡ book
refused_same book e number is = ap (left_by book) is

-- and so does a drop that finds nothing
pub missing_same : (book : Book) (e : Edit) → edited book e ≡ Edited.NotThere → left_by book (edited book e) ≡ book
missing_same book e is = ap (left_by book) is
