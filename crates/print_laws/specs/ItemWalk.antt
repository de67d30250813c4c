-- What reading a tree of items makes: the drafts of its elements in preorder, the members and the imports.
use Rattle.std.specs.Prelude.{ℕ, ◌+◌, Bool, true, false, pos, Option, Some, None, List, [], ◌∷◌, ◌++◌, length, map}
use Rattle.element_store.specs.declared.kind.Kind.{Kind}
use Rattle.element_store.specs.declared.kind.Kind.TheVariants as kind
use Rattle.element_store.specs.declared.kind.Marks.{Marks}
use Rattle.element_store.specs.declared.kind.PartOf.{PartOf}
use Rattle.element_store.specs.declared.kind.PartOf.TheVariants as part
use Rattle.element_store.specs.declared.kind.Visibility.{Visibility}
use Rattle.element_store.specs.declared.kind.Visibility.TheVariants as visibility
use Rattle.element_store.specs.declared.outcome.Role.TheVariants as role
use Rattle.element_store.specs.declared.lists.Item.TheVariants as item
use Rattle.element_store.specs.Model.{no_marks}
use Rattle.text_model.specs.declared.draft.Path.{Path}
use Rattle.text_model.specs.declared.draft.Mention.{Mention}
use Rattle.text_model.specs.declared.draft.What.TheVariants as what
use Rattle.text_model.specs.declared.draft.DraftNode.{DraftNode}
use Rattle.text_model.specs.declared.draft.DraftExpr.{DraftExpr}
use Rattle.text_model.specs.declared.draft.Draft.{Draft}
use Rattle.text_model.specs.declared.draft.DraftMember.{DraftMember}
use Rattle.text_model.specs.declared.draft.DraftImport.{DraftImport}
use Rattle.text_model.specs.declared.draft.DraftTarget.TheVariants.{Owned, Alias as Aliased}
use Rattle.text_model.specs.Drafts.{draft, node, mention, mentions, definition_of}
use Rattle.text_model.specs.Walk.{with_item, with_inner}
use Rattle.print_model.specs.Trees.{Tree, postfix}
use Rattle.print_model.specs.ReadBack.{unplaced_node}
use Rattle.print_laws.specs.Items.{Qualified, Chained, Names, Bound, Number, Known, Upper, Star, Bounded, Extent, Free, Upto, Between, Run, Typed, Subsetted, Redefined, Referred, Value, Unvalued, Given, Header, Ending, Ends, Alone, Pair, Several, Prefix, Qualities, Simple, Usage, Definition, TypeWord, Packing, Bare, Library, Standard, Thing, Importing, Aliasing, Noting, Documentation, Comment, Items, Empty, Import, Alias, Note, Member}
use Rattle.print_laws.specs.Items as items

-- Names and nodes, at no place.
-- a qualified name
abbrev pub path : Qualified → Path
path q = record { place = 0; absolute = q.absolute; path = q.first ∷ q.more; chain = [] }

-- a chain
abbrev pub chain_path : Chained → Path
chain_path c = record { place = 0; absolute = c.name.absolute; path = c.name.first ∷ c.name.more; chain = c.steps }

-- a bound
abbrev pub bound_node : Bound → DraftNode
bound_node (Number n) = node (what.Integer (pos n)) 0
bound_node (Known q) = node (what.Named (path q)) 0

-- an upper bound
abbrev pub upper_node : Upper → DraftNode
upper_node Star = node what.Star 0
upper_node (Bounded b) = bound_node b

-- bounds, the upper one last
abbrev pub extent_nodes : Extent → List DraftNode
extent_nodes Free = []
extent_nodes (Upto u) = upper_node u ∷ []
extent_nodes (Between b u) = bound_node b ∷ upper_node u ∷ []

-- the mentions of a run
abbrev pub run_mentions : Run → List Mention
run_mentions (Typed q qs) = mentions role.Typing (path q ∷ map path qs)
run_mentions (Subsetted c cs) = mentions role.Subsetting (chain_path c ∷ map chain_path cs)
run_mentions (Redefined q qs) = mentions role.Redefinition (path q ∷ map path qs)
run_mentions (Referred c) = mention role.ReferenceSubsetting (chain_path c) ∷ []

-- those of all runs
abbrev pub all_mentions : List Run → List Mention
all_mentions [] = []
all_mentions (r ∷ rs) = run_mentions r ++ all_mentions rs

-- an expression by its postfix list
abbrev pub expression_of : Tree → DraftExpr
expression_of e = record { start = 0; nodes = map unplaced_node (postfix e) }

-- a value
abbrev pub value_of : Value → Option DraftExpr
value_of Unvalued = None
value_of (Given default e) = Some (expression_of e)

-- whether it is a default
abbrev pub default_of : Value → Bool
default_of Unvalued = false
default_of (Given default e) = default

-- Marks and kinds.

-- the marks of a usage of SysML
abbrev pub prefix_marks : Prefix → Marks
prefix_marks p = record no_marks {
  end = p.end;
  direction = p.direction;
  derived = p.derived;
  is_abstract = p.is_abstract;
  constant = p.constant;
  reference = p.reference;
}

-- the marks of a feature of KerML
abbrev pub quality_marks : Qualities → Marks
quality_marks q = record no_marks {
  direction = q.direction;
  derived = q.derived;
  is_abstract = q.is_abstract;
  composite = q.composite;
  constant = q.constant;
  end = q.end;
}

-- the marks of a package
abbrev pub packing_marks : Packing → Marks
packing_marks Bare = no_marks
packing_marks Library = record no_marks { library = true }
packing_marks Standard = record no_marks { standard = true; library = true }

-- the kind of a simple usage
abbrev pub simple_kind : Simple → Kind
simple_kind items.Attribute = kind.Attribute
simple_kind items.Occurrence = kind.Occurrence
simple_kind items.Item = kind.Item
simple_kind items.Part = kind.Part
simple_kind items.Port = kind.Port
simple_kind items.Action = kind.Action

-- an interface or a connection
abbrev pub connector_kind : Bool → Kind
connector_kind true = kind.Interface
connector_kind false = kind.Connection

-- a constraint or a calculation
abbrev pub calculation_kind : Bool → Kind
calculation_kind true = kind.Constraint
calculation_kind false = kind.Calc

-- the kind of a usage
abbrev pub usage_kind : Usage → Kind
usage_kind (items.SimpleUse s) = simple_kind s
usage_kind items.EnumUse = kind.Enumeration
usage_kind (items.ConnectorUse i e) = connector_kind i
usage_kind (items.CalculationUse c) = calculation_kind c
usage_kind items.RequirementUse = kind.Requirement
usage_kind items.Plain = kind.Reference

-- the kind of a definition
abbrev pub definition_kind : Definition → Kind
definition_kind (items.SimpleDef s) = definition_of (simple_kind s)
definition_kind items.EnumDef = kind.EnumDef
definition_kind (items.ConnectorDef i) = definition_of (connector_kind i)
definition_kind (items.CalculationDef c) = definition_of (calculation_kind c)
definition_kind items.RequirementDef = kind.RequirementDef

-- the kind of a type of KerML
abbrev pub type_kind : TypeWord → Kind
type_kind items.AnyType = kind.AnyType
type_kind items.Classifier = kind.Classifier
type_kind items.Class = kind.Class
type_kind items.Struct = kind.Struct
type_kind items.Datatype = kind.Datatype
type_kind items.Assoc = kind.Assoc
type_kind items.Behavior = kind.Behavior

-- a step or a feature
abbrev pub feature_kind : Bool → Kind
feature_kind true = kind.Step
feature_kind false = kind.Feature

-- required or assumed
abbrev pub demand_part : Bool → PartOf
demand_part true = part.Require
demand_part false = part.Assume

-- Drafts of items, before their body.

-- an element of a kind with these marks
abbrev pub marked_draft : ℕ → Kind → Marks → Draft
marked_draft owner k m = record (draft k (Some owner)) { marks = m }

-- with a header
abbrev pub headed : Header → Draft → Draft
headed h d = record d {
  specs = d.specs ++ all_mentions h.runs;
  bounds = extent_nodes h.extent;
  marks = record d.marks { ordered = h.ordered; nonunique = h.nonunique };
}

-- with a value
abbrev pub valued : Value → Draft → Draft
valued v d = record d { value = value_of v; marks = record d.marks { default = default_of v } }

-- with generals
abbrev pub specialised : List Qualified → Draft → Draft
specialised qs d = record d { specs = mentions role.Subclass (map path qs) }

-- the draft of a thing before its body, with no names yet
abbrev pub thing_draft : ℕ → Thing → Draft
thing_draft owner (items.Package p n) = marked_draft owner kind.Package (packing_marks p)
thing_draft owner (items.Defined a k n general) =
    specialised general (marked_draft owner (definition_kind k) (record no_marks { is_abstract = a }))
thing_draft owner (items.Used p u h v) = valued v (headed h (marked_draft owner (usage_kind u) (prefix_marks p)))
thing_draft owner (items.Returned r u h v) =
    valued v (headed h (marked_draft owner (usage_kind u) (record no_marks { part_of = part.Return; reference = r })))
thing_draft owner (items.Subject h v) =
    valued v (headed h (marked_draft owner kind.Reference (record no_marks { part_of = part.Subject })))
thing_draft owner (items.Demanded r h v) =
    valued v (headed h (marked_draft owner kind.Constraint (record no_marks { part_of = demand_part r })))
thing_draft owner (items.Bind h a b) = headed h (marked_draft owner kind.Binding no_marks)
thing_draft owner (items.Namespace n) = marked_draft owner kind.Namespace no_marks
thing_draft owner (items.Declared a k n general) =
    specialised general (marked_draft owner (type_kind k) (record no_marks { is_abstract = a }))
thing_draft owner (items.Function a n general) =
    specialised general (marked_draft owner kind.Function (record no_marks { is_abstract = a }))
thing_draft owner (items.Featured q s h v) = valued v (headed h (marked_draft owner (feature_kind s) (quality_marks q)))
thing_draft owner (items.Yielded s h v) =
    valued v (headed h (marked_draft owner (feature_kind s) (record no_marks { part_of = part.Return })))

-- the names of a thing
abbrev pub names_in : Thing → Names
names_in (items.Package p n) = n
names_in (items.Defined a k n general) = n
names_in (items.Used p u h v) = h.names
names_in (items.Returned r u h v) = h.names
names_in (items.Subject h v) = h.names
names_in (items.Demanded r h v) = h.names
names_in (items.Bind h a b) = h.names
names_in (items.Namespace n) = n
names_in (items.Declared a k n general) = n
names_in (items.Function a n general) = n
names_in (items.Featured q s h v) = h.names
names_in (items.Yielded s h v) = h.names

-- The lists as they grow.

-- the element that is open, the elements behind it, all members and all imports
pub record Grown : Type 0 where
  pub self : Draft
  pub others : List Draft
  pub members : List DraftMember
  pub imports : List DraftImport

-- with the element that is open changed
abbrev pub changed_self : (Draft → Draft) → Grown → Grown
changed_self f g = record g { self = f g.self }

-- the number of the next element, where the open one has number n
abbrev pub next_number : ℕ → Grown → ℕ
next_number n g = n + length (g.self ∷ g.others)

-- the next owned member
abbrev pub owned : ℕ → Visibility → Grown → DraftMember
owned n v g =
    record { owner = n; target = Owned (next_number n g); visibility = v; place = 0; short = None; name = None }

-- a member begins: its element is open
abbrev pub begun : ℕ → Visibility → Draft → Grown → Grown
begun n v d g = record { self = d; others = []; members = g.members ++ owned n v g ∷ []; imports = g.imports }

-- it ends: the element around it is open again
abbrev pub ended : Grown → Grown → Grown
ended g child = record child {
  self = with_item (item.Member (length g.members)) g.self;
  others = g.others ++ child.self ∷ child.others;
}

-- an end of a connector
abbrev pub end_draft : ℕ → Ending → Draft
end_draft n e = record (draft kind.ConnectorEnd (Some n)) {
  bounds = extent_nodes e.extent;
  name = e.name;
  own = chain_path e.chain ∷ [];
}

-- with an end of the element that is open
abbrev pub with_end : ℕ → Ending → Grown → Grown
with_end n e g = ended g (begun n visibility.Public (end_draft n e) g)

-- with further ends
abbrev pub with_more_ends : ℕ → List Ending → Grown → Grown
with_more_ends n [] g = g
with_more_ends n (e ∷ es) g = with_more_ends n es (with_end n e g)

-- with all ends
abbrev pub with_ends : ℕ → Ends → Grown → Grown
with_ends n Alone g = g
with_ends n (Pair a b) g = with_end n b (with_end n a g)
with_ends n (Several a b c es) g = with_more_ends n (c ∷ es) (with_end n b (with_end n a g))

-- the ends of a usage
abbrev pub usage_ends : Usage → Ends
usage_ends (items.ConnectorUse i e) = e
usage_ends other = Alone

-- the ends of a thing
abbrev pub ends_in : Thing → Ends
ends_in (items.Used p u h v) = usage_ends u
ends_in (items.Returned r u h v) = usage_ends u
ends_in (items.Bind h a b) = Pair a b
ends_in other = Alone

-- a documentation or a comment
abbrev pub note_draft : ℕ → Noting → Draft
note_draft n (Documentation names locale body) = record (draft kind.Documentation (Some n)) {
  short = names.short;
  name = names.name;
  body = Some body;
  locale = locale;
}
note_draft n (Comment names qs locale body) = record (draft kind.Comment (Some n)) {
  short = names.short;
  name = names.name;
  body = Some body;
  locale = locale;
  own = map path qs;
}

-- an import
abbrev pub with_import : ℕ → Visibility → Importing → Grown → Grown
with_import n v i g = record g {
  self = with_inner (item.Import (length g.imports)) role.Import (path i.name) g.self;
  imports = g.imports ++ record {
    owner = n;
    at = length g.self.inner;
    place = 0;
    visibility = v;
    star = i.star;
    recursive = i.deep;
    all = i.all;
  } ∷ [];
}

-- an alias
abbrev pub with_alias : ℕ → Visibility → Aliasing → Grown → Grown
with_alias n v a g = record g {
  self = with_inner (item.Member (length g.members)) role.Alias (path a.target) g.self;
  members = g.members ++ record {
    owner = n;
    target = Aliased (length g.self.inner);
    visibility = v;
    place = 0;
    short = a.names.short;
    name = a.names.name;
  } ∷ [];
}

-- a result in place of another
abbrev pub result_of : Option Tree → Option DraftExpr → Option DraftExpr
result_of None other = other
result_of (Some e) other = Some (expression_of e)

-- the result of a body
abbrev pub with_result : Option Tree → Draft → Draft
with_result e d = record d { result = result_of e d.result }

-- names, which are told at the end; none are left over
abbrev pub with_names : Names → Draft → Draft
with_names n d = record d { short = n.short; name = n.name; own = []; locale = None }

-- the lists with the items of a body, where the open element has number n
abbrev pub grow : ℕ → Items → Grown → Grown
grow n Empty g = g
grow n (Import v i xs) g = grow n xs (with_import n v i g)
grow n (Alias v a xs) g = grow n xs (with_alias n v a g)
grow n (Note v t xs) g = grow n xs (ended g (begun n v (note_draft n t) g))
grow n (Member v t body result xs) g =
    grow n xs (ended g (changed_self (λ d. with_names (names_in t) (with_result result d))
    (grow (next_number n g) body (with_ends (next_number n g) (ends_in t) (begun n v (thing_draft n t) g)))))
