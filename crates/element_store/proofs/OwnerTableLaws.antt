-- A table of what owners have, a note at a time.
use Rattle.std.proofs.Common.{◌≡◌, ℕ, true, false, ◌&&◌, cond, nat_eq, List, [], ◌∷◌, ◌++◌, refl, sym, ◌∙◌, ap, inl, inr, append-nil}
use Rattle.std.specs.Prelude.{None, Some, unwrap_or}
use Rattle.std.specs.Map.{lookup, set_value}
use Rattle.linker_base.proofs.Cases.{bool_cases}
use Rattle.element_store.specs.declared.records.Reference.{Reference}
use Rattle.element_store.specs.declared.records.Target.{Target}
use Rattle.element_store.specs.declared.records.Target.TheVariants.{Owned, Alias}
use Rattle.element_store.specs.Readings.{is_any, is_redefining}
use Rattle.element_store.specs.declared.records.Member.{Member}
use Rattle.element_store.specs.Numbers.{numbers_from}
use Rattle.element_store.specs.OwnerTables.{Owners, numbers_of, has_target, IsNotedOf, KeepsRedefinitions, KeepsMembers, KeepsRedefining}
use Rattle.element_store.proofs.NameLaws.{exact_numbers, exact_turned, found_set, found_new}

-- what is kept for an owner, when one number more stands at the end of it
pub owner_noted : (old new : Owners) (owner number : ℕ)
    → ((o : ℕ) → lookup (nat_eq o) new ≡ cond (nat_eq o owner) (Some (numbers_of old owner ++ number ∷ [])) (lookup (nat_eq o) old))
    → IsNotedOf old new owner number
owner_noted old new owner number h o = elim (bool_cases (nat_eq o owner)) [
  | inl is ↦
      let e : owner ≡ o = sym (exact_numbers.exact o owner is) in
      let turned : nat_eq owner o ≡ true = exact_turned nat_eq exact_numbers owner o ∙ is in
      let there = h o in
      rw (there, is, turned) (ap (λ p. numbers_of old p ++ number ∷ []) e)
  | inr other ↦
      let turned : nat_eq owner o ≡ false = exact_turned nat_eq exact_numbers owner o ∙ other in
      let there = h o in
      rw (there, other, turned) (sym (append-nil (numbers_of old o)))
]

-- when a number is put at the end of the list that is kept there
pub owner_changed : (old new : Owners) (owner number : ℕ) (v w : List ℕ) → lookup (nat_eq owner) old ≡ Some v → w ≡ v ++ number ∷ []
    → new ≡ set_value (nat_eq owner) old w → IsNotedOf old new owner number
owner_changed old new owner number v w there more set =
    let kept : w ≡ numbers_of old owner ++ number ∷ [] = more ∙ ap (λ o. unwrap_or o [] ++ number ∷ []) (sym there) in
    owner_noted old new owner number (λ o.
    ap (lookup (nat_eq o)) set ∙ found_set nat_eq exact_numbers (λ k. k) owner o v w old there
    ∙ ap (λ l. cond (nat_eq o owner) (Some l) (lookup (nat_eq o) old)) kept)

-- when the owner is put last, with a list of the number alone
pub owner_added : (old new : Owners) (owner number : ℕ) (w : List ℕ) → lookup (nat_eq owner) old ≡ None → w ≡ number ∷ []
    → new ≡ old ++ (owner, w) ∷ [] → IsNotedOf old new owner number
owner_added old new owner number w none alone last =
    let kept : w ≡ numbers_of old owner ++ number ∷ [] = alone ∙ ap (λ o. unwrap_or o [] ++ number ∷ []) (sym none) in
    owner_noted old new owner number (λ o.
    ap (lookup (nat_eq o)) last ∙ found_new nat_eq exact_numbers (λ k. k) owner o owner w old refl none
    ∙ ap (λ l. cond (nat_eq o owner) (Some l) (lookup (nat_eq o) old)) kept)

-- a target that something is kept for is one that redefines
pub targets_alike : (references : List Reference) (owners : Owners) (t : Target) → KeepsRedefinitions references owners
    → has_target owners t ≡ is_redefining references t
targets_alike references owners (Owned e) kept = ap is_any (kept e)
targets_alike references owners (Alias r) kept = refl

-- members with something kept for their elements are those that redefine
pub members_alike : (members : List Member) (references : List Reference) (redefinitions owners : Owners)
    → KeepsRedefinitions references redefinitions → KeepsMembers members redefinitions owners
    → KeepsRedefining members references owners
members_alike members references redefinitions owners kept found o =
    found o ∙ (λ i. numbers_from 0 (λ m. nat_eq m.owner o && targets_alike references redefinitions m.target kept i) members)
