-- Drafts, and small words on them.
use Rattle.std.specs.Prelude.{ℕ, zero, suc, Bool, true, false, ◌||◌, Option, Some, None, List, [], ◌∷◌, ◌++◌}
use Rattle.element_store.specs.declared.kind.Kind.{Kind}
use Rattle.element_store.specs.declared.kind.Kind.TheVariants as kind
use Rattle.element_store.specs.declared.kind.Marks.{Marks}
use Rattle.element_store.specs.declared.outcome.Role.{Role}
use Rattle.element_store.specs.declared.outcome.Role.TheVariants as role
use Rattle.element_store.specs.declared.expression.UnaryOp.TheVariants as unary
use Rattle.element_store.specs.declared.expression.BinaryOp.TheVariants as binary
use Rattle.element_store.specs.Model.{no_marks}
use Rattle.text_model.specs.declared.action.Operator.{Operator}
use Rattle.text_model.specs.declared.action.Operator.TheVariants as operator
use Rattle.text_model.specs.declared.action.Mark.{Mark}
use Rattle.text_model.specs.declared.action.Mark.TheVariants as mark
use Rattle.text_model.specs.declared.draft.Path.{Path}
use Rattle.text_model.specs.declared.draft.Mention.{Mention}
use Rattle.text_model.specs.declared.draft.What.{What}
use Rattle.text_model.specs.declared.draft.What.TheVariants as what
use Rattle.text_model.specs.declared.draft.DraftNode.{DraftNode}
use Rattle.text_model.specs.declared.draft.Draft.{Draft}
use Rattle.text_model.specs.declared.draft.Waiting.{Waiting}

-- an element of a kind with nothing in it
abbrev pub draft : Kind → Option ℕ → Draft
draft k owner = record {
  kind = k;
  owner = owner;
  short = None;
  name = None;
  marks = no_marks;
  body = None;
  locale = None;
  own = [];
  specs = [];
  bounds = [];
  value = None;
  result = None;
  inner = [];
  items = [];
}

abbrev pub node : What → ℕ → DraftNode
node w place = record { what = w; place = place }

-- the names among nodes, in order
abbrev pub name_in : What → List Path
name_in (what.Named p) = p ∷ []
name_in other = []

abbrev pub names : List DraftNode → List Path
names [] = []
names (n ∷ ns) = name_in n.what ++ names ns

-- a name of one empty segment, where there is none
abbrev pub nobody : Path
nobody = record { place = 0; absolute = false; path = [] ∷ []; chain = [] }

abbrev pub first_name : List Path → Path
first_name [] = nobody
first_name (p ∷ ps) = p

-- the first name, or one of an empty segment at this place, where there is none
abbrev pub path_or : ℕ → List Path → Path
path_or place [] = record nobody { place = place }
path_or place (p ∷ ps) = p

abbrev pub first_segment : List (List ℕ) → List ℕ
first_segment [] = []
first_segment (s ∷ ss) = s

-- the first text among nodes
abbrev pub text_or : What → Option (List ℕ) → Option (List ℕ)
text_or (what.Text bytes) other = Some bytes
text_or w other = other

abbrev pub first_text : List DraftNode → Option (List ℕ)
first_text [] = None
first_text (n ∷ ns) = text_or n.what (first_text ns)

-- whether a node of this sort is among them
abbrev pub has_what : (What → Bool) → List DraftNode → Bool
has_what test [] = false
has_what test (n ∷ ns) = test n.what || has_what test ns

abbrev pub is_star : What → Bool
is_star what.Star = true
is_star other = false

abbrev pub is_all : What → Bool
is_all what.All = true
is_all other = false

abbrev pub is_deep : What → Bool
is_deep what.Deep = true
is_deep other = false

-- the name read last, changed
abbrev pub named_changed : (Path → Path) → What → What
named_changed f (what.Named p) = what.Named (f p)
named_changed f other = other

abbrev pub last_changed : (Path → Path) → List DraftNode → List DraftNode
last_changed f [] = []
last_changed f (n ∷ []) = record n { what = named_changed f n.what } ∷ []
last_changed f (n ∷ m ∷ ns) = n ∷ last_changed f (m ∷ ns)

abbrev pub with_segment : List ℕ → Path → Path
with_segment bytes p = record p { path = p.path ++ bytes ∷ [] }

abbrev pub with_step : List ℕ → Path → Path
with_step bytes p = record p { chain = p.chain ++ bytes ∷ [] }

-- an operator between two operands, behind both
abbrev pub joining : Operator → ℕ → List DraftNode
joining (operator.Binary b) place = node (what.Binary b) place ∷ []
joining other place = []

abbrev pub joined : List DraftNode → Option Waiting → List DraftNode
joined ns None = ns
joined ns (Some w) = ns ++ joining w.operator w.place

-- the sign before an operand, or `if`, behind its operands
abbrev pub applying : Operator → ℕ → List DraftNode
applying operator.If place = node what.If place ∷ []
applying operator.Not place = node (what.Unary unary.Not) place ∷ []
applying (operator.Binary binary.Subtract) place = node (what.Unary unary.Minus) place ∷ []
applying (operator.Binary binary.Add) place = node (what.Unary unary.Plus) place ∷ []
applying other place = []

abbrev pub applied : List DraftNode → Option Waiting → List DraftNode
applied ns None = ns
applied ns (Some w) = ns ++ applying w.operator w.place

-- a name and what it is for
abbrev pub mention : Role → Path → Mention
mention r p = record { role = r; path = p }

abbrev pub mentions : Role → List Path → List Mention
mentions r [] = []
mentions r (p ∷ ps) = mention r p ∷ mentions r ps

-- the role of names that are read in an element directly
abbrev pub own_role : Kind → Role
own_role kind.Comment = role.About
own_role other = role.ReferenceSubsetting

-- the definition of a kind; the same kind where there is none
abbrev pub definition_of : Kind → Kind
definition_of kind.Attribute = kind.AttributeDef
definition_of kind.Enumeration = kind.EnumDef
definition_of kind.Occurrence = kind.OccurrenceDef
definition_of kind.Item = kind.ItemDef
definition_of kind.Part = kind.PartDef
definition_of kind.Port = kind.PortDef
definition_of kind.Connection = kind.ConnectionDef
definition_of kind.Interface = kind.InterfaceDef
definition_of kind.Action = kind.ActionDef
definition_of kind.Calc = kind.CalcDef
definition_of kind.Constraint = kind.ConstraintDef
definition_of kind.Requirement = kind.RequirementDef
definition_of other = other

-- marks with this one
abbrev pub marked : Mark → Marks → Marks
marked mark.Library m = record m { library = true }
marked mark.Standard m = record m { standard = true }
marked mark.End m = record m { end = true }
marked mark.Derived m = record m { derived = true }
marked mark.Abstract m = record m { is_abstract = true }
marked mark.Composite m = record m { composite = true }
marked mark.Constant m = record m { constant = true }
marked mark.Reference m = record m { reference = true }
marked mark.Ordered m = record m { ordered = true }
marked mark.Nonunique m = record m { nonunique = true }
marked mark.Default m = record m { default = true }

-- a list with one item changed
abbrev pub adjusted : {A : Type 0} → ℕ → (A → A) → List A → List A
adjusted n f [] = []
adjusted zero f (x ∷ xs) = f x ∷ xs
adjusted (suc n) f (x ∷ xs) = x ∷ adjusted n f xs

-- the aliases' and imports' names of the element with this number
abbrev pub inner_at : List Draft → ℕ → List Mention
inner_at [] n = []
inner_at (d ∷ ds) zero = d.inner
inner_at (d ∷ ds) (suc n) = inner_at ds n
