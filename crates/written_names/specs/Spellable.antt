-- The names of a model that can be spelt, and an element's own part of its label by its number.
use Rattle.std.specs.Prelude.{◌≡◌, ℕ, List, Some, IfSome, All, slice_get, slice_index_or}
use Rattle.element_store.specs.declared.records.Element.{Element}
use Rattle.element_store.specs.declared.records.Reference.{Reference}
use Rattle.element_store.specs.Model.{Data, root_element}
use Rattle.token_core.specs.Reading.{IsSpellable}
use Rattle.book_model.specs.Labels.{own_part}

-- each name of an element, and each segment and step of a reference, can be spelt
pub record AreNamesSpellable (d : Data) : Type 0 where
  pub names : (e : ℕ) (x : Element) → slice_get d.elements e ≡ Some x
      → IfSome x.name IsSpellable × IfSome x.short IsSpellable
  pub paths : (r : ℕ) (x : Reference) → slice_get d.references r ≡ Some x
      → All IsSpellable x.path × All IsSpellable x.chain

-- the own part of the element with that number
abbrev pub own_part_at : Data → ℕ → List ℕ
own_part_at d e = own_part d.language e (slice_index_or d.elements e root_element)
