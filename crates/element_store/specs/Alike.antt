-- Models that are equal in all but places, whatever the numbers of their files.
use Rattle.std.specs.Prelude.{◌≡◌}
use Rattle.element_store.specs.Model.{Data}

pub record AreAlike (d other : Data) : Type 0 where
  pub language : d.language ≡ other.language
  pub elements : d.elements ≡ other.elements
  pub items : d.items ≡ other.items
  pub members : d.members ≡ other.members
  pub references : d.references ≡ other.references
  pub imports : d.imports ≡ other.imports
