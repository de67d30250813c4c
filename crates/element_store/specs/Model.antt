-- The model of a file: its lists, and who names and owns what; after KerML's Elements (8.3.2.1) and Namespaces
-- (8.3.2.4).
use Rattle.std.specs.Prelude.{ℕ, Bool, true, false, ◌&&◌, ◌||◌, nat_eq, Option, Some, None, List, [], ◌∷◌, map}
use Rattle.std.specs.List.{flat_map}
use Rattle.std.specs.Cmp.Lexicographic.{pointwise}
use Rattle.element_store.specs.declared.numbers.FileNo.{FileNo}
use Rattle.element_store.specs.declared.outcome.Language.{Language}
use Rattle.element_store.specs.declared.kind.Kind.TheVariants.{Root}
use Rattle.element_store.specs.declared.kind.Marks.{Marks}
use Rattle.element_store.specs.declared.kind.Direction.TheVariants as direction
use Rattle.element_store.specs.declared.kind.PartOf.TheVariants.{Plain}
use Rattle.element_store.specs.declared.records.Element.{Element}
use Rattle.element_store.specs.declared.records.Member.{Member}
use Rattle.element_store.specs.declared.records.Target.{Target}
use Rattle.element_store.specs.declared.records.Target.TheVariants.{Owned, Alias}
use Rattle.element_store.specs.declared.records.Reference.{Reference}
use Rattle.element_store.specs.declared.records.Import.{Import}
use Rattle.element_store.specs.declared.lists.Item.{Item}
use Rattle.element_store.specs.declared.lists.Item.TheVariants as item
use Rattle.element_store.specs.declared.model.ModelParts.{ModelParts}
use Rattle.element_store.specs.Numbers.{numbers_from}

-- the lists of a model
pub record Data : Type 0 where
  pub file : FileNo
  pub language : Language
  pub elements : List Element
  pub items : List (List Item)
  pub members : List Member
  pub references : List Reference
  pub imports : List Import
  pub member_places : List ℕ
  pub reference_places : List ℕ
  pub value_places : List (List ℕ)
  pub result_places : List (List ℕ)

-- the lists that parts hold
abbrev pub data_of : ModelParts → Data
data_of parts = record {
  file = parts.file;
  language = parts.language;
  elements = parts.elements.items;
  items = parts.items.items;
  members = parts.members.items;
  references = parts.references.items;
  imports = parts.imports.items;
  member_places = parts.member_places.items;
  reference_places = parts.reference_places.items;
  value_places = map (λ places. places.items) parts.value_places.items;
  result_places = map (λ places. places.items) parts.result_places.items;
}

-- the target is owned, and no alias's
abbrev pub is_owned : Target → Bool
is_owned (Owned e) = true
is_owned (Alias r) = false

-- x is the name, if there is one
abbrev pub is_name : List ℕ → Option (List ℕ) → Bool
is_name x None = false
is_name x (Some name) = pointwise nat_eq x name

-- the member bears x as a declared name
abbrev pub bears : List ℕ → Member → Bool
bears x m = is_name x m.short || is_name x m.name

-- the members of an owner that bear x as a declared name, by their numbers
abbrev pub bearers : List Member → ℕ → List ℕ → List ℕ
bearers members owner x = numbers_from 0 (λ m. nat_eq m.owner owner && bears x m) members

-- the member owns an element
abbrev pub is_owning : Member → Bool
is_owning m = is_owned m.target

-- the members and the imports among items, in order
abbrev pub member_number : Item → List ℕ
member_number (item.Member m) = m ∷ []
member_number (item.Import i) = []

abbrev pub import_number : Item → List ℕ
import_number (item.Member m) = []
import_number (item.Import i) = i ∷ []

abbrev pub members_in : List Item → List ℕ
members_in is = flat_map member_number is

abbrev pub imports_in : List Item → List ℕ
imports_in is = flat_map import_number is

-- no word stands before an element's own
abbrev pub no_marks : Marks
no_marks = record {
  library = false;
  standard = false;
  end = false;
  direction = direction.None;
  derived = false;
  is_abstract = false;
  composite = false;
  constant = false;
  reference = false;
  ordered = false;
  nonunique = false;
  default = false;
  part_of = Plain;
}

-- the root of a file
abbrev pub root_element : Element
root_element = record {
  kind = Root;
  owner = None;
  short = None;
  name = None;
  marks = no_marks;
  body = None;
  locale = None;
  bounds = None;
  value = None;
  result = None;
}

-- the model of a file with nothing in it
abbrev pub bare_model : FileNo → Language → Data
bare_model file language = record {
  file = file;
  language = language;
  elements = root_element ∷ [];
  items = [] ∷ [];
  members = [];
  references = [];
  imports = [];
  member_places = [];
  reference_places = [];
  value_places = [] ∷ [];
  result_places = [] ∷ [];
}
