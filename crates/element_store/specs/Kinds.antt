-- Kinds of elements: which are types, which are features, and the base of each; after KerML's Types (8.3.3.1) and its
-- Kernel layer (8.3.4), and SysML's definitions and usages (8.3).
use Rattle.std.specs.Prelude.{ℕ, Bool, true, false, List, codes, Option, Some, None}
use Rattle.element_store.specs.declared.kind.Kind.{Kind}
use Rattle.element_store.specs.declared.kind.Kind.TheVariants as kind

-- a usage, a feature, a step, a binding or a connector end
abbrev pub is_feature : Kind → Bool
is_feature kind.Feature = true
is_feature kind.Step = true
is_feature kind.Attribute = true
is_feature kind.Enumeration = true
is_feature kind.Occurrence = true
is_feature kind.Item = true
is_feature kind.Part = true
is_feature kind.Port = true
is_feature kind.Connection = true
is_feature kind.Interface = true
is_feature kind.Action = true
is_feature kind.Calc = true
is_feature kind.Constraint = true
is_feature kind.Requirement = true
is_feature kind.Reference = true
is_feature kind.ConnectorEnd = true
is_feature kind.Binding = true
is_feature other = false

-- a definition or a feature
abbrev pub is_type : Kind → Bool
is_type kind.Root = false
is_type kind.Namespace = false
is_type kind.Package = false
is_type kind.Comment = false
is_type kind.Documentation = false
is_type other = true

-- the definition of an enumeration
abbrev pub is_enumeration : Kind → Bool
is_enumeration kind.EnumDef = true
is_enumeration other = false

-- a comment, which may be about elements
abbrev pub is_comment : Kind → Bool
is_comment kind.Comment = true
is_comment other = false

-- a qualified name of two segments
pub record BasePath : Type 0 where
  pub namespace : List ℕ
  pub name : List ℕ

abbrev pub path : List ℕ → List ℕ → Option BasePath
path p n = Some (record { namespace = p; name = n })

-- where the library keeps the base of a kind
abbrev pub base_path : Kind → Option BasePath
base_path kind.AttributeDef = path (codes "Base") (codes "DataValue")
base_path kind.EnumDef = path (codes "Base") (codes "DataValue")
base_path kind.Attribute = path (codes "Base") (codes "dataValues")
base_path kind.Enumeration = path (codes "Base") (codes "dataValues")
base_path kind.OccurrenceDef = path (codes "Occurrences") (codes "Occurrence")
base_path kind.Occurrence = path (codes "Occurrences") (codes "occurrences")
base_path kind.ItemDef = path (codes "Items") (codes "Item")
base_path kind.Item = path (codes "Items") (codes "items")
base_path kind.PartDef = path (codes "Parts") (codes "Part")
base_path kind.Part = path (codes "Parts") (codes "parts")
base_path kind.PortDef = path (codes "Ports") (codes "Port")
base_path kind.Port = path (codes "Ports") (codes "ports")
base_path kind.ConnectionDef = path (codes "Connections") (codes "Connection")
base_path kind.Connection = path (codes "Connections") (codes "connections")
base_path kind.InterfaceDef = path (codes "Interfaces") (codes "Interface")
base_path kind.Interface = path (codes "Interfaces") (codes "interfaces")
base_path kind.ActionDef = path (codes "Actions") (codes "Action")
base_path kind.Action = path (codes "Actions") (codes "actions")
base_path kind.CalcDef = path (codes "Calculations") (codes "Calculation")
base_path kind.Calc = path (codes "Calculations") (codes "calculations")
base_path kind.ConstraintDef = path (codes "Constraints") (codes "ConstraintCheck")
base_path kind.Constraint = path (codes "Constraints") (codes "constraintChecks")
base_path kind.RequirementDef = path (codes "Requirements") (codes "RequirementCheck")
base_path kind.Requirement = path (codes "Requirements") (codes "requirementChecks")
base_path kind.Reference = path (codes "Base") (codes "things")
base_path kind.ConnectorEnd = path (codes "Base") (codes "things")
base_path kind.Binding = path (codes "Links") (codes "selfLinks")
base_path kind.AnyType = path (codes "Base") (codes "Anything")
base_path kind.Classifier = path (codes "Base") (codes "Anything")
base_path kind.Class = path (codes "Occurrences") (codes "Occurrence")
base_path kind.Struct = path (codes "Objects") (codes "Object")
base_path kind.Datatype = path (codes "Base") (codes "DataValue")
base_path kind.Assoc = path (codes "Links") (codes "Link")
base_path kind.Behavior = path (codes "Performances") (codes "Performance")
base_path kind.Function = path (codes "Performances") (codes "Evaluation")
base_path kind.Feature = path (codes "Base") (codes "things")
base_path kind.Step = path (codes "Performances") (codes "performances")
base_path other = None
