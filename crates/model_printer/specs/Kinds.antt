-- The first word of a kind, and whether `def` follows it.
use Rattle.std.specs.Prelude.{ℕ, Bool, true, false, List, [], codes}
use Rattle.element_store.specs.declared.kind.Kind.{Kind}
use Rattle.element_store.specs.declared.kind.Kind.TheVariants as kind

-- the word of a kind, without `def`
abbrev pub first_word : Kind → List ℕ
first_word kind.Namespace = codes "namespace"
first_word kind.Package = codes "package"
first_word kind.Comment = codes "comment"
first_word kind.Documentation = codes "doc"
first_word kind.AttributeDef = codes "attribute"
first_word kind.EnumDef = codes "enum"
first_word kind.OccurrenceDef = codes "occurrence"
first_word kind.ItemDef = codes "item"
first_word kind.PartDef = codes "part"
first_word kind.PortDef = codes "port"
first_word kind.ConnectionDef = codes "connection"
first_word kind.InterfaceDef = codes "interface"
first_word kind.ActionDef = codes "action"
first_word kind.CalcDef = codes "calc"
first_word kind.ConstraintDef = codes "constraint"
first_word kind.RequirementDef = codes "requirement"
first_word kind.Attribute = codes "attribute"
first_word kind.Enumeration = codes "enum"
first_word kind.Occurrence = codes "occurrence"
first_word kind.Item = codes "item"
first_word kind.Part = codes "part"
first_word kind.Port = codes "port"
first_word kind.Connection = codes "connection"
first_word kind.Interface = codes "interface"
first_word kind.Action = codes "action"
first_word kind.Calc = codes "calc"
first_word kind.Constraint = codes "constraint"
first_word kind.Requirement = codes "requirement"
first_word kind.Binding = codes "binding"
first_word kind.AnyType = codes "type"
first_word kind.Classifier = codes "classifier"
first_word kind.Class = codes "class"
first_word kind.Struct = codes "struct"
first_word kind.Datatype = codes "datatype"
first_word kind.Assoc = codes "assoc"
first_word kind.Behavior = codes "behavior"
first_word kind.Function = codes "function"
first_word kind.Feature = codes "feature"
first_word kind.Step = codes "step"
first_word other = []

-- `def` follows it
abbrev pub is_definition : Kind → Bool
is_definition kind.AttributeDef = true
is_definition kind.EnumDef = true
is_definition kind.OccurrenceDef = true
is_definition kind.ItemDef = true
is_definition kind.PartDef = true
is_definition kind.PortDef = true
is_definition kind.ConnectionDef = true
is_definition kind.InterfaceDef = true
is_definition kind.ActionDef = true
is_definition kind.CalcDef = true
is_definition kind.ConstraintDef = true
is_definition kind.RequirementDef = true
is_definition other = false
