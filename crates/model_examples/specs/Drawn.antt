-- Which lists a table draws.
use Rattle.std.specs.Prelude.{ℤ, false, Option, Some, None, List, [], ◌∷◌, map}
use Rattle.std.specs.Option.{option_map}
use Rattle.element_store.specs.declared.numbers.FileNo.{FileNo}
use Rattle.element_store.specs.declared.outcome.Language.TheVariants.{Sysml}
use Rattle.element_store.specs.declared.records.Element.{Element}
use Rattle.element_store.specs.declared.records.Member.{Member}
use Rattle.element_store.specs.declared.records.Reference.{Reference}
use Rattle.element_store.specs.declared.expression.Node.{Node}
use Rattle.element_store.specs.declared.expression.Node.TheVariants as node
use Rattle.element_store.specs.declared.expression.Bounds.{Bounds}
use Rattle.element_store.specs.declared.expression.Limit.TheVariants as limit
use Rattle.element_store.specs.Model.{Data, root_element, no_marks}
use Rattle.model_examples.specs.declared.sketch.Word.{Word}
use Rattle.model_examples.specs.declared.sketch.Word.TheVariants as word
use Rattle.model_examples.specs.declared.sketch.ElementRow.{ElementRow}
use Rattle.model_examples.specs.declared.sketch.MemberRow.{MemberRow}
use Rattle.model_examples.specs.declared.sketch.ReferenceRow.{ReferenceRow}
use Rattle.model_examples.specs.declared.sketch.Sketch.{Sketch}

-- a list, unless it is empty
abbrev pub if_any : {A : Type 0} → List A → Option (List A)
if_any [] = None
if_any (x ∷ xs) = Some (x ∷ xs)

abbrev pub node_of : Word → Node
node_of (word.Integer n) = node.Integer n
node_of (word.Named r) = node.Named r
node_of (word.Binary op) = node.Binary op

-- an upper bound alone
abbrev pub exactly : ℤ → Bounds
exactly n = record { lower = None; upper = Some (limit.Number n) }

abbrev pub element_of : ElementRow → Element
element_of row = record root_element {
  kind = row.kind;
  owner = row.owner;
  short = if_any row.short.now;
  name = if_any row.name.now;
  marks = record no_marks { default = row.default };
  body = if_any row.body.now;
  bounds = option_map exactly row.upper;
  value = if_any (map node_of row.value.now);
}

abbrev pub member_of : MemberRow → Member
member_of row = record {
  owner = row.owner;
  target = row.target;
  short = if_any row.short.now;
  name = if_any row.name.now;
  visibility = row.visibility;
}

abbrev pub reference_of : ReferenceRow → Reference
reference_of row = record {
  role = row.role;
  context = row.context;
  absolute = false;
  path = map (λ name. name.now) row.path.now;
  chain = map (λ name. name.now) row.chain.now;
}

-- the lists of a SysML file with that number
abbrev pub drawn : FileNo → Sketch → Data
drawn file sketch = record {
  file = file;
  language = Sysml;
  elements = map element_of sketch.elements.now;
  items = map (λ items. items.now) sketch.items.now;
  members = map member_of sketch.members.now;
  references = map reference_of sketch.references.now;
  imports = sketch.imports.now;
  member_places = sketch.member_places.now;
  reference_places = sketch.reference_places.now;
  value_places = map (λ places. places.now) sketch.value_places.now;
  result_places = map (λ places. places.now) sketch.result_places.now;
}
