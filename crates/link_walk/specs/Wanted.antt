-- Which references of an element are wanted.
use Rattle.std.specs.Prelude.{Bool, nat_eq, ◌&&◌, List, map}
use Rattle.element_store.specs.declared.numbers.ElementNo.{ElementNo}
use Rattle.element_store.specs.declared.outcome.Role.{Role}
use Rattle.element_store.specs.Model.{Data}
use Rattle.element_store.specs.Numbers.{numbers_from}
use Rattle.link_model.specs.declared.keys.LinkKey.{LinkKey}
use Rattle.link_model.specs.Inheritance.{is_specialisation}
use Rattle.link_model.specs.Names.{is_redefinition}
use Rattle.link_model.specs.Readers.{key}
use Rattle.link_walk.specs.declared.references.Wanted.{Wanted}
use Rattle.link_walk.specs.declared.references.Wanted.TheVariants.{Specialisations, Redefinitions}

abbrev pub is_wanted : Wanted → Role → Bool
is_wanted Specialisations = is_specialisation
is_wanted Redefinitions = is_redefinition

-- the references of an element with those roles, in order
abbrev pub references_in : (Role → Bool) → Data → ElementNo → List LinkKey
references_in fits d e = map (key e.file) (numbers_from 0 (λ r. nat_eq r.context e.index && fits r.role) d.references)
