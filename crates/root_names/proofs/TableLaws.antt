-- A table of members under names, a change at a time.
use Rattle.std.proofs.Common.{◌≡◌, ◌≤◌, ℕ, zero, suc, arith, Bool, true, false, cond, nat_eq, List, [], ◌∷◌, ◌++◌, refl, sym, ◌∙◌, ap, inl, inr}
use Rattle.std.specs.Prelude.{None, Some, Option, Vec, insert, Result, OnErr, Ok, Err}
use Rattle.std.specs.declared.alloc.Global.{Global}
use Rattle.std.specs.Map.{lookup, set_value}
use Rattle.std.specs.Option.{option_map_or}
use Rattle.std.specs.Cmp.Lexicographic.{pointwise}
use Rattle.linker_base.proofs.Cases.{bool_cases}
use Rattle.element_store.specs.declared.numbers.MemberNo.{MemberNo}
use Rattle.element_store.proofs.NameLaws.{exact_names, found_set, found_new}
use Rattle.root_names.specs.Roots.{Entries, bearing}
use Rattle.root_names.specs.Steps.{IsChanged}

-- what stands under each name, when one name's list is another one
noted : (old new : Entries) (name : List ℕ) (w : Vec MemberNo Global) (change : List MemberNo → List MemberNo)
    → ((x : List ℕ) → lookup (λ k. pointwise nat_eq x k.items) new ≡ cond (pointwise nat_eq x name) (Some w) (lookup (λ k. pointwise nat_eq x k.items) old))
    → w.items ≡ change (bearing old name) → IsChanged old new (λ x. pointwise nat_eq x name) change
noted old new name w change h is_changed x = elim (bool_cases (pointwise nat_eq x name)) [
  | inl is ↦
      let e : name ≡ x = sym (exact_names.exact x name is) in
      let there = h x in
      rw there (rw is (is_changed ∙ ap (λ y. change (bearing old y)) e))
  | inr other ↦ let there = h x in rw there (rw other refl)
]

-- when the list that is kept there is changed
pub changed : (old new : Entries) (name : List ℕ) (v w : Vec MemberNo Global) (change : List MemberNo → List MemberNo)
    → lookup (λ k. pointwise nat_eq name k.items) old ≡ Some v
    → w.items ≡ change v.items → new ≡ set_value (λ k. pointwise nat_eq name k.items) old w
    → IsChanged old new (λ x. pointwise nat_eq x name) change
changed old new name v w change there more set =
    let kept : v.items ≡ bearing old name = ap (λ o. option_map_or (λ (u : Vec MemberNo Global). u.items) o []) (sym there) in
    noted old new name w change
    (λ x. ap (lookup (λ k. pointwise nat_eq x k.items)) set ∙ found_set (pointwise nat_eq) exact_names (λ k. k.items) name x v w old there)
    (more ∙ ap change kept)

-- when the name is put last
pub added : (old new : Entries) (name : List ℕ) (k : Vec ℕ Global) (w : Vec MemberNo Global) (change : List MemberNo → List MemberNo)
    → lookup (λ k. pointwise nat_eq name k.items) old ≡ None
    → k.items ≡ name → w.items ≡ change [] → new ≡ old ++ (k, w) ∷ [] → IsChanged old new (λ x. pointwise nat_eq x name) change
added old new name k w change none is more last =
    let kept : [] ≡ bearing old name = ap (λ o. option_map_or (λ (u : Vec MemberNo Global). u.items) o []) (sym none) in
    noted old new name w change
    (λ x. ap (lookup (λ k. pointwise nat_eq x k.items)) last ∙ found_new (pointwise nat_eq) exact_names (λ k. k.items) name x k w old is none)
    (more ∙ ap change kept)

-- a name under which nothing is kept stays so
pub unchanged : (old : Entries) (name : List ℕ) (change : List MemberNo → List MemberNo) → lookup (λ k. pointwise nat_eq name k.items) old ≡ None
    → [] ≡ change []
    → IsChanged old old (λ x. pointwise nat_eq x name) change
unchanged old name change none same x = elim (bool_cases (pointwise nat_eq x name)) [
  | inl is ↦
      let e : name ≡ x = sym (exact_names.exact x name is) in
      let nothing : bearing old x ≡ [] = ap (bearing old) (sym e) ∙ ap (λ o. option_map_or (λ (u : Vec MemberNo Global). u.items) o []) none in
      rw (is, nothing) same
  | inr other ↦ rw other refl
]

-- the items of what is found
abbrev pub items_of : Option (Vec MemberNo Global) → List MemberNo
items_of o = option_map_or (λ v. v.items) o []

pub same_either : {A : Type 0} (b : Bool) (x : A) → cond b x x ≡ x
same_either true x = refl
same_either false x = refl

-- a place in an empty list is the first
pub insert_first : {A : Type 0} (place : ℕ) (x : A) → place ≤ 0 → x ∷ [] ≡ insert [] place x
insert_first zero x le = refl
insert_first (suc n) x le = absurd (omega arith)

pub on_err : {T E P : Type 0} (r : Result T E) → P → OnErr r P
on_err (Ok t) p = tt
on_err (Err e) p = p
