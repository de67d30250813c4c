-- Small models, and the lines of their canonical texts.
use Rattle.std.specs.Prelude.{ℕ, List, [], ◌∷◌, ◌++◌, codes, Some, None, pos}
use Rattle.element_store.specs.declared.numbers.FileNo.{FileNo}
use Rattle.element_store.specs.declared.outcome.Language.{Language}
use Rattle.element_store.specs.declared.outcome.Language.TheVariants.{Kerml, Sysml}
use Rattle.element_store.specs.declared.outcome.Role.TheVariants as role
use Rattle.element_store.specs.declared.kind.Kind.TheVariants as kind
use Rattle.element_store.specs.declared.kind.PartOf.TheVariants as part
use Rattle.element_store.specs.declared.records.Element.{Element}
use Rattle.element_store.specs.declared.records.Member.{Member}
use Rattle.element_store.specs.declared.records.Reference.{Reference}
use Rattle.element_store.specs.declared.lists.Item.{Item}
use Rattle.element_store.specs.declared.lists.Item.TheVariants as item
use Rattle.element_store.specs.declared.expression.Node.TheVariants as node
use Rattle.element_store.specs.declared.expression.BinaryOp.TheVariants as binary
use Rattle.element_store.specs.declared.expression.Limit.TheVariants as limit
use Rattle.element_store.specs.Model.{Data, root_element, no_marks}
use Rattle.model_examples.specs.Worked.{element, member, reference}

-- lines, each with a line feed
unfoldable pub lines : List (List ℕ) → List ℕ
lines [] = []
lines (x ∷ xs) = x ++ 10 ∷ lines xs

-- the model of vehicles
abbrev pub vehicles_lines : List (List ℕ)
vehicles_lines =
    codes "package Vehicles {"
    ∷ codes "    doc /* A small car model. */"
    ∷ codes "    private import ScalarValues::*;"
    ∷ codes "    part def Engine {"
    ∷ codes "        attribute power : Integer = 90;"
    ∷ codes "    }"
    ∷ codes "    part def Vehicle {"
    ∷ codes "        attribute mass : Integer default = 1000;"
    ∷ codes "        part engine : Engine [1];"
    ∷ codes "        attribute total : Integer = mass + engine.power;"
    ∷ codes "    }"
    ∷ codes "    part def Car :> Vehicle {"
    ∷ codes "        attribute :>> mass = 1200;"
    ∷ codes "        part wheels : Wheel [4];"
    ∷ codes "    }"
    ∷ codes "    part def Wheel;"
    ∷ codes "}"
    ∷ []

-- a model of members alone
abbrev model : FileNo → Language → List Element → List (List Item) → List Member → List Reference → Data
model file l es is ms rs = record {
  file = file;
  language = l;
  elements = es;
  items = is;
  members = ms;
  references = rs;
  imports = [];
  member_places = [];
  reference_places = [];
  value_places = [];
  result_places = [];
}

-- names that want quotes
abbrev pub quoted : FileNo → Data
quoted file =
    model file Sysml
    (root_element
    ∷ element kind.Part 0 (Some (codes "a b"))
    ∷ record (element kind.Part 0 (Some (codes "y"))) { short = Some (codes "x") }
    ∷ element kind.Part 0 (Some (codes "in"))
    ∷ element kind.Part 0 (Some (codes "q"))
    ∷ [])
    ((item.Member 0 ∷ item.Member 1 ∷ item.Member 2 ∷ item.Member 3 ∷ []) ∷ [] ∷ [] ∷ [] ∷ [] ∷ [])
    (member 0 1 None ∷ member 0 2 None ∷ member 0 3 None ∷ member 0 4 None ∷ [])
    (reference role.Subsetting 4 (codes "x" ∷ []) [] ∷ [])

abbrev pub quoted_lines : List (List ℕ)
quoted_lines = codes "part 'a b';" ∷ codes "part <x> y;" ∷ codes "part 'in';" ∷ codes "part q :> x;" ∷ []

-- a value that wants brackets
abbrev pub brackets : FileNo → Data
brackets file =
    model file Sysml
    (root_element
    ∷ record (element kind.Attribute 0 (Some (codes "a"))) {
      value = Some (
          node.Named 0 ∷ node.Named 1 ∷ node.Named 2 ∷ node.Binary binary.Subtract ∷ node.Binary binary.Subtract ∷ []);
    }
    ∷ record (element kind.Attribute 0 (Some (codes "b"))) { value = Some (node.Integer (pos 1) ∷ []) }
    ∷ [])
    ((item.Member 0 ∷ item.Member 1 ∷ []) ∷ [] ∷ [] ∷ [])
    (member 0 1 None ∷ member 0 2 None ∷ [])
    (reference role.Value 1 (codes "b" ∷ []) []
    ∷ reference role.Value 1 (codes "c" ∷ []) []
    ∷ reference role.Value 1 (codes "d" ∷ []) []
    ∷ [])

abbrev pub brackets_lines : List (List ℕ)
brackets_lines = codes "attribute a = b - (c - d);" ∷ codes "attribute b = 1;" ∷ []

-- two bounds, in KerML
abbrev pub bounded : FileNo → Data
bounded file =
    model file Kerml
    (root_element
    ∷ element kind.Package 0 (Some (codes "K"))
    ∷ element kind.Classifier 1 (Some (codes "A"))
    ∷ record (element kind.Feature 1 (Some (codes "f"))) {
      bounds = Some (record { lower = Some (limit.Number (pos 0)); upper = Some (limit.Number (pos 1)) });
    }
    ∷ [])
    ((item.Member 0 ∷ []) ∷ (item.Member 1 ∷ item.Member 2 ∷ []) ∷ [] ∷ [] ∷ [])
    (member 0 1 None ∷ member 1 2 None ∷ member 1 3 None ∷ [])
    (reference role.Typing 3 (codes "A" ∷ []) [] ∷ [])

abbrev pub bounded_lines : List (List ℕ)
bounded_lines = codes "package K {" ∷ codes "    classifier A;" ∷ codes "    feature f : A [0..1];" ∷ codes "}" ∷ []

-- a connection of two ends
abbrev pub connected : FileNo → Data
connected file =
    model file Sysml
    (root_element
    ∷ element kind.Part 0 (Some (codes "a"))
    ∷ element kind.Part 0 (Some (codes "b"))
    ∷ element kind.Connection 0 None
    ∷ element kind.ConnectorEnd 3 None
    ∷ element kind.ConnectorEnd 3 None
    ∷ [])
    ((item.Member 0 ∷ item.Member 1 ∷ item.Member 2 ∷ []) ∷ [] ∷ []
    ∷ (item.Member 3 ∷ item.Member 4 ∷ []) ∷ [] ∷ [] ∷ [])
    (member 0 1 None ∷ member 0 2 None ∷ member 0 3 None ∷ member 3 4 None ∷ member 3 5 None ∷ [])
    (reference role.ReferenceSubsetting 4 (codes "a" ∷ []) []
    ∷ reference role.ReferenceSubsetting 5 (codes "b" ∷ []) []
    ∷ [])

abbrev pub connected_lines : List (List ℕ)
connected_lines = codes "part a;" ∷ codes "part b;" ∷ codes "connection connect a to b;" ∷ []

-- a requirement with its subject, and a result
abbrev pub required : FileNo → Data
required file =
    model file Sysml
    (root_element
    ∷ element kind.RequirementDef 0 (Some (codes "R"))
    ∷ record (element kind.Reference 1 (Some (codes "v"))) { marks = record no_marks { part_of = part.Subject } }
    ∷ record (element kind.Attribute 1 (Some (codes "limit"))) { value = Some (node.Integer (pos 10) ∷ []) }
    ∷ record (element kind.Constraint 1 (Some (codes "c"))) {
      marks = record no_marks { part_of = part.Require };
      result = Some (node.Named 1 ∷ node.Integer (pos 10) ∷ node.Binary binary.AtMost ∷ []);
    }
    ∷ [])
    ((item.Member 0 ∷ []) ∷ (item.Member 1 ∷ item.Member 2 ∷ item.Member 3 ∷ []) ∷ [] ∷ [] ∷ [] ∷ [])
    (member 0 1 None ∷ member 1 2 None ∷ member 1 3 None ∷ member 1 4 None ∷ [])
    (reference role.Typing 2 (codes "Parts" ∷ codes "Part" ∷ []) []
    ∷ reference role.Value 4 (codes "limit" ∷ []) [] ∷ [])

abbrev pub required_lines : List (List ℕ)
required_lines =
    codes "requirement def R {"
    ∷ codes "    subject v : Parts::Part;"
    ∷ codes "    attribute limit = 10;"
    ∷ codes "    require constraint c {"
    ∷ codes "        limit <= 10"
    ∷ codes "    }"
    ∷ codes "}"
    ∷ []
