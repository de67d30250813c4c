-- The printed lines of a model: the tokens of each item, in the order of the grammar.
use Rattle.std.specs.Prelude.{ℕ, zero, suc, nat_eq, Bool, true, false, ◌&&◌, cond, Option, Some, None, List, [], ◌∷◌, ◌++◌, map, length, codes, pos, slice_index_or}
use Rattle.std.specs.List.{flat_map}
use Rattle.element_store.specs.Numbers.{those_where}
use Rattle.std.specs.Fmt.{signed_decimal}
use Rattle.element_store.specs.declared.outcome.Language.{Language}
use Rattle.element_store.specs.declared.outcome.Language.TheVariants.{Kerml, Sysml}
use Rattle.element_store.specs.declared.outcome.Role.{Role}
use Rattle.element_store.specs.declared.outcome.Role.TheVariants as role
use Rattle.element_store.specs.declared.kind.Kind.{Kind}
use Rattle.element_store.specs.declared.kind.Kind.TheVariants as kind
use Rattle.element_store.specs.declared.kind.Marks.{Marks}
use Rattle.element_store.specs.declared.kind.Visibility.{Visibility}
use Rattle.element_store.specs.declared.kind.Visibility.TheVariants as visibility
use Rattle.element_store.specs.declared.kind.Direction.{Direction}
use Rattle.element_store.specs.declared.kind.Direction.TheVariants as direction
use Rattle.element_store.specs.declared.kind.PartOf.{PartOf}
use Rattle.element_store.specs.declared.kind.PartOf.TheVariants as part
use Rattle.element_store.specs.declared.records.Element.{Element}
use Rattle.element_store.specs.declared.records.Member.{Member}
use Rattle.element_store.specs.declared.records.Target.{Target}
use Rattle.element_store.specs.declared.records.Target.TheVariants as target
use Rattle.element_store.specs.declared.records.Reference.{Reference}
use Rattle.element_store.specs.declared.records.Import.{Import}
use Rattle.element_store.specs.declared.lists.Item.{Item}
use Rattle.element_store.specs.declared.lists.Item.TheVariants as item
use Rattle.element_store.specs.declared.expression.Node.{Node}
use Rattle.element_store.specs.declared.expression.Node.TheVariants as node
use Rattle.element_store.specs.declared.expression.Bounds.{Bounds}
use Rattle.element_store.specs.declared.expression.Limit.{Limit}
use Rattle.element_store.specs.declared.expression.Limit.TheVariants as limit
use Rattle.element_store.specs.Model.{Data, root_element}
use Rattle.token_core.specs.Words.{parted}
use Rattle.text_model.specs.declared.draft.Path.{Path}
use Rattle.print_model.specs.Printed.{Printed, sign, word, name, text, number, note, tightly}
use Rattle.print_model.specs.Trees.{Tree, Integer, Boolean, Text, Null, Named, Before, Between, Choice, named, printed}
use Rattle.print_model.specs.Layout.{Line, text_of}

-- Readings of the lists by number.

-- the element with this number
abbrev pub element_at : Data → ℕ → Element
element_at d e = slice_index_or d.elements e root_element

-- stands where there is no reference
abbrev pub no_reference : Reference
no_reference = record { role = role.Value; context = 0; absolute = false; path = []; chain = [] }

-- the reference with this number
abbrev pub reference_at : Data → ℕ → Reference
reference_at d r = slice_index_or d.references r no_reference

-- what a reference names, at no place
abbrev pub path_in : Reference → Path
path_in r = record { place = 0; absolute = r.absolute; path = r.path; chain = r.chain }

-- what the reference with this number names
abbrev pub path_at : Data → ℕ → Path
path_at d r = path_in (reference_at d r)

-- the references of an element in these roles, in order
abbrev pub references_in : Data → (Role → Bool) → ℕ → List Reference
references_in d test e = those_where (λ r. nat_eq r.context e && test r.role) d.references

-- Expressions: the trees that stand after the nodes, the last one first.

-- what a node makes of the trees that stand
abbrev pub standing : Data → Node → List Tree → List Tree
standing d (node.Integer (pos n)) ts = Integer n ∷ ts
standing d (node.Boolean b) ts = Boolean b ∷ ts
standing d (node.Text bytes) ts = Text bytes ∷ ts
standing d node.Null ts = Null ∷ ts
standing d (node.Named r) ts = Named (path_at d r) ∷ ts
standing d (node.Unary o) (a ∷ ts) = Before o a ∷ ts
standing d (node.Binary o) (b ∷ a ∷ ts) = Between o a b ∷ ts
standing d node.If (c ∷ b ∷ a ∷ ts) = Choice a b c ∷ ts
standing d other ts = ts

-- what nodes make of them, one after another
abbrev pub spelt : Data → List Node → List Tree → List Tree
spelt d [] ts = ts
spelt d (n ∷ ns) ts = spelt d ns (standing d n ts)

-- the last tree that was made
abbrev pub first_tree : List Tree → Tree
first_tree [] = Null
first_tree (t ∷ ts) = t

-- the tokens of an expression that is given in postfix order
abbrev pub expression : Data → List Node → List Printed
expression d ns = printed d.language (first_tree (spelt d ns []))

-- Words.

-- a word where this holds
abbrev pub word_if : Language → Bool → List ℕ → List Printed
word_if l b bytes = cond b (word l bytes ∷ []) []

-- words that single blanks part
abbrev pub words_of : Language → List ℕ → List Printed
words_of l text = map (word l) (parted text)

-- the word of a visibility
abbrev pub visibility_word : Visibility → List ℕ
visibility_word visibility.Public = codes "public"
visibility_word visibility.Protected = codes "protected"
visibility_word visibility.Private = codes "private"

-- a member's is written where it isn't public
abbrev pub member_visibility : Language → Visibility → List Printed
member_visibility l visibility.Public = []
member_visibility l other = word l (visibility_word other) ∷ []

-- `return`, `assume` and `require`
abbrev pub part_words : Language → PartOf → List Printed
part_words l part.Return = word l (codes "return") ∷ []
part_words l part.Assume = word l (codes "assume") ∷ []
part_words l part.Require = word l (codes "require") ∷ []
part_words l other = []

-- the word of a direction
abbrev pub direction_words : Language → Direction → List Printed
direction_words l direction.In = word l (codes "in") ∷ []
direction_words l direction.Out = word l (codes "out") ∷ []
direction_words l direction.InOut = word l (codes "inout") ∷ []
direction_words l direction.None = []

-- the prefixes in the order of the language's grammar
abbrev pub prefixes : Language → Marks → List Printed
prefixes Sysml m =
    word_if Sysml m.end (codes "end")
    ++ (direction_words Sysml m.direction
    ++ (word_if Sysml m.derived (codes "derived")
    ++ (word_if Sysml m.is_abstract (codes "abstract")
    ++ (word_if Sysml m.constant (codes "constant")
    ++ word_if Sysml m.reference (codes "ref")))))
prefixes Kerml m =
    direction_words Kerml m.direction
    ++ (word_if Kerml m.derived (codes "derived")
    ++ (word_if Kerml m.is_abstract (codes "abstract")
    ++ (word_if Kerml m.composite (codes "composite")
    ++ (word_if Kerml m.constant (codes "const")
    ++ word_if Kerml m.end (codes "end")))))

-- the word or words of a kind
abbrev pub kind_word : Kind → List ℕ
kind_word kind.Namespace = codes "namespace"
kind_word kind.Package = codes "package"
kind_word kind.Comment = codes "comment"
kind_word kind.Documentation = codes "doc"
kind_word kind.AttributeDef = codes "attribute def"
kind_word kind.EnumDef = codes "enum def"
kind_word kind.OccurrenceDef = codes "occurrence def"
kind_word kind.ItemDef = codes "item def"
kind_word kind.PartDef = codes "part def"
kind_word kind.PortDef = codes "port def"
kind_word kind.ConnectionDef = codes "connection def"
kind_word kind.InterfaceDef = codes "interface def"
kind_word kind.ActionDef = codes "action def"
kind_word kind.CalcDef = codes "calc def"
kind_word kind.ConstraintDef = codes "constraint def"
kind_word kind.RequirementDef = codes "requirement def"
kind_word kind.Attribute = codes "attribute"
kind_word kind.Enumeration = codes "enum"
kind_word kind.Occurrence = codes "occurrence"
kind_word kind.Item = codes "item"
kind_word kind.Part = codes "part"
kind_word kind.Port = codes "port"
kind_word kind.Connection = codes "connection"
kind_word kind.Interface = codes "interface"
kind_word kind.Action = codes "action"
kind_word kind.Calc = codes "calc"
kind_word kind.Constraint = codes "constraint"
kind_word kind.Requirement = codes "requirement"
kind_word kind.Binding = codes "binding"
kind_word kind.AnyType = codes "type"
kind_word kind.Classifier = codes "classifier"
kind_word kind.Class = codes "class"
kind_word kind.Struct = codes "struct"
kind_word kind.Datatype = codes "datatype"
kind_word kind.Assoc = codes "assoc"
kind_word kind.Behavior = codes "behavior"
kind_word kind.Function = codes "function"
kind_word kind.Feature = codes "feature"
kind_word kind.Step = codes "step"
kind_word other = []

-- `subject` in place of the kind's word; nothing for a usage without one
abbrev pub kind_words : Language → PartOf → Kind → List Printed
kind_words l part.Subject k = word l (codes "subject") ∷ []
kind_words l other kind.Reference = []
kind_words l other k = words_of l (kind_word k)

-- Names.

-- a short name in its signs
abbrev pub short_name : Language → Option (List ℕ) → List Printed
short_name l None = []
short_name l (Some s) = tightly (sign (codes "<")) ∷ tightly (name l s) ∷ sign (codes ">") ∷ []

-- a name
abbrev pub declared_name : Language → Option (List ℕ) → List Printed
declared_name l None = []
declared_name l (Some s) = name l s ∷ []

-- the short name, then the name
abbrev pub names : Language → Option (List ℕ) → Option (List ℕ) → List Printed
names l short long = short_name l short ++ declared_name l long

-- Specialisations in runs: one sign, and a list.

-- the roles of specialisations
abbrev pub is_specialisation : Role → Bool
is_specialisation role.Subclass = true
is_specialisation role.Typing = true
is_specialisation role.Subsetting = true
is_specialisation role.Redefinition = true
is_specialisation role.ReferenceSubsetting = true
is_specialisation other = false

-- the role of what a comment is about
abbrev pub is_about : Role → Bool
is_about role.About = true
is_about other = false

-- the sign of a role
abbrev pub role_sign : Role → List ℕ
role_sign role.Typing = codes ":"
role_sign role.Redefinition = codes ":>>"
role_sign role.ReferenceSubsetting = codes "::>"
role_sign other = codes ":>"

-- goes on the list of the role before it; each reference subsetting has a sign of its own
abbrev pub goes_on : Option Role → Role → Bool
goes_on (Some role.Subclass) role.Subclass = true
goes_on (Some role.Typing) role.Typing = true
goes_on (Some role.Subsetting) role.Subsetting = true
goes_on (Some role.Redefinition) role.Redefinition = true
goes_on before r = false

-- each reference behind a sign or a comma, by the role before it
abbrev pub specialisations : Language → Option Role → List Reference → List Printed
specialisations l before [] = []
specialisations l before (r ∷ rs) =
    sign (cond (goes_on before r.role) (codes ",") (role_sign r.role))
    ∷ (named l (path_in r) ++ specialisations l (Some r.role) rs)

-- names with commas between them
abbrev pub listed : Language → List Reference → List Printed
listed l [] = []
listed l (r ∷ []) = named l (path_in r)
listed l (r ∷ s ∷ rs) = named l (path_in r) ++ (sign (codes ",") ∷ listed l (s ∷ rs))

-- what a comment is about
abbrev pub abouts : Language → List Reference → List Printed
abouts l [] = []
abouts l (r ∷ rs) = word l (codes "about") ∷ listed l (r ∷ rs)

-- Bounds, value, ends.

-- one bound
abbrev pub limit_tokens : Data → Limit → List Printed
limit_tokens d (limit.Number n) = number (signed_decimal n) ∷ []
limit_tokens d (limit.Named r) = named d.language (path_at d r)
limit_tokens d limit.Star = sign (codes "*") ∷ []

-- a lower and an upper bound, or the upper one alone
abbrev pub limits_in : Data → Option Limit → Option Limit → List Printed
limits_in d None None = []
limits_in d None (Some u) = limit_tokens d u
limits_in d (Some b) None = limit_tokens d b
limits_in d (Some b) (Some u) = limit_tokens d b ++ (sign (codes "..") ∷ limit_tokens d u)

-- the bounds in square brackets
abbrev pub bounds_tokens : Data → Option Bounds → List Printed
bounds_tokens d None = []
bounds_tokens d (Some b) = sign (codes "[") ∷ (limits_in d b.lower b.upper ++ sign (codes "]") ∷ [])

-- a value behind its sign
abbrev pub value_tokens : Data → Bool → Option (List Node) → List Printed
value_tokens d default None = []
value_tokens d default (Some ns) = word_if d.language default (codes "default") ++ (sign (codes "=") ∷ expression d ns)

-- whether it is an end of a connector
abbrev pub is_end : Kind → Bool
is_end kind.ConnectorEnd = true
is_end other = false

-- the elements that a member owns
abbrev pub owned_in : Data → Target → List ℕ
owned_in d (target.Owned e) = e ∷ []
owned_in d (target.Alias r) = []

-- stands where there is no member
abbrev pub no_member : Member
no_member = record { owner = 0; target = target.Alias 0; short = None; name = None; visibility = visibility.Public }

-- the member with this number
abbrev pub member_at : Data → ℕ → Member
member_at d m = slice_index_or d.members m no_member

-- the element that an item owns
abbrev pub item_elements : Data → Item → List ℕ
item_elements d (item.Member m) = owned_in d (member_at d m).target
item_elements d (item.Import i) = []

-- the items of a body
abbrev pub items_at : Data → ℕ → List Item
items_at d e = slice_index_or d.items e []

-- the ends of a connector
abbrev pub ends_of : Data → ℕ → List ℕ
ends_of d e = those_where (λ c. is_end (element_at d c).kind) (flat_map (item_elements d) (items_at d e))

-- an end's name before its sign
abbrev pub end_name : Language → Option (List ℕ) → List Printed
end_name l None = []
end_name l (Some s) = name l s ∷ sign (codes "::>") ∷ []

-- an end: its bounds, its name, what it refers to
abbrev pub end_tokens : Data → ℕ → List Printed
end_tokens d e =
    bounds_tokens d (element_at d e).bounds
    ++ (end_name d.language (element_at d e).name
    ++ listed d.language (references_in d is_specialisation e))

-- ends with commas between them
abbrev pub end_list : Data → List ℕ → List Printed
end_list d [] = []
end_list d (e ∷ []) = end_tokens d e
end_list d (e ∷ f ∷ es) = end_tokens d e ++ (sign (codes ",") ∷ end_list d (f ∷ es))

-- the ends of a connector or a binding
abbrev pub ends_tokens : Data → Kind → List ℕ → List Printed
ends_tokens d kind.Binding (a ∷ b ∷ []) =
    word d.language (codes "bind") ∷ (end_tokens d a ++ (sign (codes "=") ∷ end_tokens d b))
ends_tokens d k [] = []
ends_tokens d k (a ∷ b ∷ []) =
    word d.language (codes "connect") ∷ (end_tokens d a ++ (word d.language (codes "to") ∷ end_tokens d b))
ends_tokens d k es =
    word d.language (codes "connect") ∷ sign (codes "(") ∷ (end_list d es ++ sign (codes ")") ∷ [])

-- An element's tokens before its body.

-- up to the names: visibility, part, prefixes, kind
abbrev pub before_names : Data → Visibility → Element → List Printed
before_names d v e =
    member_visibility d.language v
    ++ (part_words d.language e.marks.part_of
    ++ (prefixes d.language e.marks
    ++ (word_if d.language e.marks.standard (codes "standard")
    ++ (word_if d.language e.marks.library (codes "library")
    ++ (kind_words d.language e.marks.part_of e.kind
    ++ names d.language e.short e.name)))))

-- all before the body
abbrev pub head : Data → Visibility → ℕ → List Printed
head d v e =
    before_names d v (element_at d e)
    ++ (specialisations d.language None (references_in d is_specialisation e)
    ++ (bounds_tokens d (element_at d e).bounds
    ++ (word_if d.language (element_at d e).marks.ordered (codes "ordered")
    ++ (word_if d.language (element_at d e).marks.nonunique (codes "nonunique")
    ++ (value_tokens d (element_at d e).marks.default (element_at d e).value
    ++ ends_tokens d (element_at d e).kind (ends_of d e))))))

-- a locale and its string
abbrev pub locale_tokens : Language → Option (List ℕ) → List Printed
locale_tokens l None = []
locale_tokens l (Some bytes) = word l (codes "locale") ∷ text bytes ∷ []

-- what a comment says
abbrev pub body_bytes : Option (List ℕ) → List ℕ
body_bytes None = []
body_bytes (Some bytes) = bytes

-- a comment or documentation
abbrev pub note_tokens : Data → Visibility → ℕ → List Printed
note_tokens d v e =
    before_names d v (element_at d e)
    ++ (abouts d.language (references_in d is_about e)
    ++ (locale_tokens d.language (element_at d e).locale
    ++ note (body_bytes (element_at d e).body) ∷ []))

-- whether it is a comment or documentation
abbrev pub is_note : Kind → Bool
is_note kind.Comment = true
is_note kind.Documentation = true
is_note other = false

-- Aliases and imports.

-- an alias
abbrev pub alias_tokens : Data → Member → ℕ → List Printed
alias_tokens d m r =
    member_visibility d.language m.visibility
    ++ (word d.language (codes "alias")
    ∷ (names d.language m.short m.name
    ++ (word d.language (codes "for")
    ∷ (named d.language (path_at d r) ++ sign (codes ";") ∷ []))))

-- `::` and a star
abbrev pub star_tokens : Bool → List ℕ → List Printed
star_tokens b bytes = cond b (sign (codes "::") ∷ sign bytes ∷ []) []

-- stands where there is no import
abbrev pub no_import : Import
no_import = record {
  owner = 0;
  reference = 0;
  star = false;
  recursive = false;
  all = false;
  visibility = visibility.Private;
}

-- an import, whose visibility is always written
abbrev pub import_tokens : Data → Import → List Printed
import_tokens d i =
    word d.language (visibility_word i.visibility)
    ∷ word d.language (codes "import")
    ∷ (word_if d.language i.all (codes "all")
    ++ (named d.language (path_at d i.reference)
    ++ (star_tokens i.star (codes "*")
    ++ (star_tokens i.recursive (codes "**") ++ sign (codes ";") ∷ []))))

-- Lines: a body of none is `;`.

-- a line at a level
abbrev pub line : ℕ → List Printed → Line
line level tokens = record { level = level; tokens = tokens }

-- a head with the lines of its body
abbrev pub with_body : ℕ → List Printed → List Line → List Line
with_body level tokens [] = line level (tokens ++ sign (codes ";") ∷ []) ∷ []
with_body level tokens (l ∷ ls) =
    line level (tokens ++ sign (codes "{") ∷ []) ∷ (l ∷ ls) ++ line level (sign (codes "}") ∷ []) ∷ []

-- the line of a body's result
abbrev pub result_lines : Data → ℕ → Option (List Node) → List Line
result_lines d level None = []
result_lines d level (Some ns) = line level (expression d ns) ∷ []

-- the lines of one item, where those of a body are given by level and element
abbrev pub element_lines : (ℕ → ℕ → List Line) → Data → ℕ → Visibility → ℕ → List Line
element_lines inner d level v c =
    cond (is_end (element_at d c).kind) [] (
    cond (is_note (element_at d c).kind) (line level (note_tokens d v c) ∷ [])
    (with_body level (head d v c) (inner (suc level) c)))

-- the lines of a member
abbrev pub target_lines : (ℕ → ℕ → List Line) → Data → ℕ → Member → Target → List Line
target_lines inner d level m (target.Owned c) = element_lines inner d level m.visibility c
target_lines inner d level m (target.Alias r) = line level (alias_tokens d m r) ∷ []

-- the lines of an item
abbrev pub item_lines : (ℕ → ℕ → List Line) → Data → ℕ → Item → List Line
item_lines inner d level (item.Member m) = target_lines inner d level (member_at d m) (member_at d m).target
item_lines inner d level (item.Import i) = line level (import_tokens d (slice_index_or d.imports i no_import)) ∷ []

-- the lines of a body; `steps` is above the number of elements
abbrev pub body_lines : ℕ → Data → ℕ → ℕ → List Line
body_lines zero d level e = []
body_lines (suc steps) d level e =
    flat_map (item_lines (λ l c. body_lines steps d l c) d level) (items_at d e)
    ++ result_lines d level (element_at d e).result

-- the lines of a model
abbrev pub model_lines : Data → List Line
model_lines d = body_lines (suc (length d.elements)) d 0 0

-- the canonical text
abbrev pub printed_text : Data → List ℕ
printed_text d = text_of (model_lines d)
