-- What is kept beside the lists of a model, so that its readers walk no list.
use Rattle.std.specs.Prelude.{◌≡◌, ℕ, List}
use Rattle.element_store.specs.Numbers.{numbers_from}
use Rattle.element_store.specs.Model.{Data, is_owning}
use Rattle.element_store.specs.NameTables.{Table, HasBearers}
use Rattle.element_store.specs.OwnerTables.{Owners, KeepsImports, KeepsRedefining}

-- the members by owner and name, the owning members in the order of what they own, and the imports and the members
-- that redefine by owner
pub record HasTables (d : Data) (names : Table) (members : List ℕ) (imports redefining : Owners) : Type 0 where
  pub bearers : HasBearers d.members names
  pub owning : members ≡ numbers_from 0 is_owning d.members
  pub imports_kept : KeepsImports d.imports imports
  pub redefining_kept : KeepsRedefining d.members d.references redefining
