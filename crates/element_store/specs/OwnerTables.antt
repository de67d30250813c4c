-- The tables through which the items of an owner are found.
use Rattle.std.specs.Prelude.{◌≡◌, ℕ, Bool, false, ◌&&◌, nat_eq, List, [], ◌++◌, unwrap_or}
use Rattle.std.specs.Map.{lookup}
use Rattle.element_store.specs.declared.records.Import.{Import}
use Rattle.element_store.specs.declared.records.Member.{Member}
use Rattle.element_store.specs.declared.records.Reference.{Reference}
use Rattle.element_store.specs.declared.records.Target.{Target}
use Rattle.element_store.specs.declared.records.Target.TheVariants.{Owned, Alias}
use Rattle.element_store.specs.Numbers.{numbers_from}
use Rattle.element_store.specs.Readings.{is_any, redefinitions_in, redefining_in}
use Rattle.element_store.specs.NameTables.{if_noted}

-- the numbers of what each owner has, by the number of the owner
abbrev pub Owners : Type 0
Owners = List (ℕ × List ℕ)

-- the numbers kept for the owner
abbrev pub numbers_of : Owners → ℕ → List ℕ
numbers_of owners o = unwrap_or (lookup (nat_eq o) owners) []

-- the target is owned, and something is kept for it
abbrev pub has_target : Owners → Target → Bool
has_target owners (Owned e) = is_any (numbers_of owners e)
has_target owners (Alias r) = false

-- one number more is kept for an owner
abbrev pub IsNotedOf : Owners → Owners → ℕ → ℕ → Type 0
IsNotedOf old new owner number = (o : ℕ) → numbers_of new o ≡ numbers_of old o ++ if_noted (nat_eq owner o) number

-- and that if it passes a test
abbrev pub IsNotedIf : Owners → Owners → Bool → ℕ → ℕ → Type 0
IsNotedIf old new passes owner number =
    (o : ℕ) → numbers_of new o ≡ numbers_of old o ++ if_noted (nat_eq owner o && passes) number

-- what is kept is what each owner has: imports, redefinitions, and members that redefine
abbrev pub KeepsImports : List Import → Owners → Type 0
KeepsImports imports owners = (o : ℕ) → numbers_of owners o ≡ numbers_from 0 (λ i. nat_eq i.owner o) imports

abbrev pub KeepsRedefinitions : List Reference → Owners → Type 0
KeepsRedefinitions references owners = (o : ℕ) → numbers_of owners o ≡ redefinitions_in references o

abbrev pub KeepsMembers : List Member → Owners → Owners → Type 0
KeepsMembers members redefinitions owners =
    (o : ℕ) → numbers_of owners o ≡ numbers_from 0 (λ m. nat_eq m.owner o && has_target redefinitions m.target) members

abbrev pub KeepsRedefining : List Member → List Reference → Owners → Type 0
KeepsRedefining members references owners = (o : ℕ) → numbers_of owners o ≡ redefining_in members references o
