-- The printed tokens of a tree of items.
use Rattle.std.specs.Prelude.{ℕ, Bool, true, false, Option, Some, None, List, [], ◌∷◌, ◌++◌, codes}
use Rattle.std.specs.Fmt.{decimal}
use Rattle.element_store.specs.declared.outcome.Language.{Language}
use Rattle.element_store.specs.declared.outcome.Language.TheVariants.{Kerml, Sysml}
use Rattle.print_model.specs.Printed.{Printed, sign, word, name, number, note}
use Rattle.print_model.specs.Trees.{Tree, behind, headed, rooted, printed}
use Rattle.print_model.specs.Heads.{word_if, visibility_word, member_visibility, direction_words, names as names_of, locale_tokens, star_tokens}
use Rattle.print_laws.specs.Items.{Qualified, Chained, Names, Bound, Number, Known, Upper, Star, Bounded, Extent, Free, Upto, Between, Run, Typed, Subsetted, Redefined, Referred, Value, Unvalued, Given, Header, Ending, Ends, Alone, Pair, Several, Prefix, Qualities, Simple, Usage, Definition, TypeWord, Packing, Bare, Library, Standard, Thing, Importing, Aliasing, Noting, Documentation, Comment, Items, Empty, Import, Alias, Note, Member}
use Rattle.print_laws.specs.Items as items

-- Names.

-- a qualified name
abbrev pub qualified : Language → Qualified → List Printed
qualified l q = rooted q.absolute ++ headed l (q.first ∷ q.more)

-- a chain
abbrev pub chained : Language → Chained → List Printed
chained l c = qualified l c.name ++ behind l (codes ".") c.steps

-- names behind commas
abbrev pub more_names : Language → List Qualified → List Printed
more_names l [] = []
more_names l (q ∷ qs) = sign (codes ",") ∷ (qualified l q ++ more_names l qs)

-- chains behind commas
abbrev pub more_chains : Language → List Chained → List Printed
more_chains l [] = []
more_chains l (c ∷ cs) = sign (codes ",") ∷ (chained l c ++ more_chains l cs)

-- the short name and the name
abbrev pub named : Language → Names → List Printed
named l n = names_of l n.short n.name

-- The parts of a feature.

-- a run of specialisations
abbrev pub run : Language → Run → List Printed
run l (Typed q qs) = sign (codes ":") ∷ (qualified l q ++ more_names l qs)
run l (Subsetted c cs) = sign (codes ":>") ∷ (chained l c ++ more_chains l cs)
run l (Redefined q qs) = sign (codes ":>>") ∷ (qualified l q ++ more_names l qs)
run l (Referred c) = sign (codes "::>") ∷ chained l c

-- its runs
abbrev pub runs : Language → List Run → List Printed
runs l [] = []
runs l (r ∷ rs) = run l r ++ runs l rs

-- a bound
abbrev pub bound : Language → Bound → List Printed
bound l (Number n) = number (decimal n) ∷ []
bound l (Known q) = qualified l q

-- an upper bound
abbrev pub upper : Language → Upper → List Printed
upper l Star = sign (codes "*") ∷ []
upper l (Bounded b) = bound l b

-- bounds in square brackets
abbrev pub extent : Language → Extent → List Printed
extent l Free = []
extent l (Upto u) = sign (codes "[") ∷ (upper l u ++ sign (codes "]") ∷ [])
extent l (Between b u) = sign (codes "[") ∷ ((bound l b ++ (sign (codes "..") ∷ upper l u)) ++ sign (codes "]") ∷ [])

-- `ordered` and `nonunique`
abbrev pub order : Language → Bool → Bool → List Printed
order l o n = word_if l o (codes "ordered") ++ word_if l n (codes "nonunique")

-- specialisations and multiplicity
abbrev pub specialised : Language → List Run → Header → List Printed
specialised l rs h = runs l rs ++ (extent l h.extent ++ order l h.ordered h.nonunique)

-- the names, and what stands behind them
abbrev pub header : Language → Header → List Printed
header l h = named l h.names ++ specialised l h.runs h

-- a value behind its sign
abbrev pub valued : Language → Value → List Printed
valued l Unvalued = []
valued l (Given default e) = word_if l default (codes "default") ++ (sign (codes "=") ∷ printed l e)

-- an end's name before its sign
abbrev pub end_name : Language → Option (List ℕ) → List Printed
end_name l None = []
end_name l (Some s) = name l s ∷ sign (codes "::>") ∷ []

-- an end of a connector
abbrev pub ending : Language → Ending → List Printed
ending l e = extent l e.extent ++ (end_name l e.name ++ chained l e.chain)

-- ends behind commas
abbrev pub more_ends : Language → List Ending → List Printed
more_ends l [] = []
more_ends l (e ∷ es) = sign (codes ",") ∷ (ending l e ++ more_ends l es)

-- the ends of a connector
abbrev pub ends : Language → Ends → List Printed
ends l Alone = []
ends l (Pair a b) = word l (codes "connect") ∷ (ending l a ++ (word l (codes "to") ∷ ending l b))
ends l (Several a b c es) =
    word l (codes "connect") ∷ sign (codes "(") ∷ (ending l a ++ (sign (codes ",") ∷ (ending l b
    ++ (more_ends l (c ∷ es) ++ sign (codes ")") ∷ []))))

-- Items with a body, before the tokens of their body.

-- the words before `package`
abbrev pub packing : Language → Packing → List Printed
packing l Bare = []
packing l Library = word l (codes "library") ∷ []
packing l Standard = word l (codes "standard") ∷ word l (codes "library") ∷ []

-- the word of a simple usage
abbrev pub simple_word : Simple → List ℕ
simple_word items.Attribute = codes "attribute"
simple_word items.Occurrence = codes "occurrence"
simple_word items.Item = codes "item"
simple_word items.Part = codes "part"
simple_word items.Port = codes "port"
simple_word items.Action = codes "action"

-- `interface` or `connection`
abbrev pub connector_word : Bool → List ℕ
connector_word true = codes "interface"
connector_word false = codes "connection"

-- `constraint` or `calc`
abbrev pub calculation_word : Bool → List ℕ
calculation_word true = codes "constraint"
calculation_word false = codes "calc"

-- the words of types of KerML
abbrev pub type_word : TypeWord → List ℕ
type_word items.AnyType = codes "type"
type_word items.Classifier = codes "classifier"
type_word items.Class = codes "class"
type_word items.Struct = codes "struct"
type_word items.Datatype = codes "datatype"
type_word items.Assoc = codes "assoc"
type_word items.Behavior = codes "behavior"

-- `step` or `feature`
abbrev pub feature_word : Bool → List ℕ
feature_word true = codes "step"
feature_word false = codes "feature"

-- `require` or `assume`
abbrev pub demand_word : Bool → List ℕ
demand_word true = codes "require"
demand_word false = codes "assume"

-- a type's generals behind their sign
abbrev pub generals : Language → List Qualified → List Printed
generals l [] = []
generals l (q ∷ qs) = sign (codes ":>") ∷ (qualified l q ++ more_names l qs)

-- names and generals, and the body
abbrev pub type_tail : Language → Names → List Qualified → List Printed → List Printed
type_tail l n general body = (named l n ++ generals l general) ++ body

-- all behind the word of a feature's kind, and the body
abbrev pub feature_tail : Language → Header → Value → List Printed → List Printed
feature_tail l h v body = header l h ++ (valued l v ++ body)

-- a usage with its word, its ends and its body
abbrev pub usage : Usage → Header → Value → List Printed → List Printed
usage (items.SimpleUse s) h v body = word Sysml (simple_word s) ∷ feature_tail Sysml h v body
usage items.EnumUse h v body = word Sysml (codes "enum") ∷ feature_tail Sysml h v body
usage (items.ConnectorUse i e) h v body = word Sysml (connector_word i) ∷ feature_tail Sysml h v (ends Sysml e ++ body)
usage (items.CalculationUse c) h v body = word Sysml (calculation_word c) ∷ feature_tail Sysml h v body
usage items.RequirementUse h v body = word Sysml (codes "requirement") ∷ feature_tail Sysml h v body
usage items.Plain h v body = feature_tail Sysml h v body

-- the word of a definition, before `def`
abbrev pub definition_word : Definition → List ℕ
definition_word (items.SimpleDef s) = simple_word s
definition_word items.EnumDef = codes "enum"
definition_word (items.ConnectorDef i) = connector_word i
definition_word (items.CalculationDef c) = calculation_word c
definition_word items.RequirementDef = codes "requirement"

-- the words before a usage, and the usage
abbrev pub prefixed : Prefix → List Printed → List Printed
prefixed p rest =
    word_if Sysml p.end (codes "end")
    ++ (direction_words Sysml p.direction
    ++ (word_if Sysml p.derived (codes "derived")
    ++ (word_if Sysml p.is_abstract (codes "abstract")
    ++ (word_if Sysml p.constant (codes "constant")
    ++ (word_if Sysml p.reference (codes "ref") ++ rest)))))

-- the words before a feature of KerML, and the feature
abbrev pub qualities : Qualities → List Printed → List Printed
qualities q rest =
    direction_words Kerml q.direction
    ++ (word_if Kerml q.derived (codes "derived")
    ++ (word_if Kerml q.is_abstract (codes "abstract")
    ++ (word_if Kerml q.composite (codes "composite")
    ++ (word_if Kerml q.constant (codes "const")
    ++ (word_if Kerml q.end (codes "end") ++ rest)))))

-- an item with the tokens of its body
abbrev pub thing : Language → Thing → List Printed → List Printed
thing l (items.Package p n) body = packing l p ++ (word l (codes "package") ∷ (named l n ++ body))
thing l (items.Defined a k n general) body =
    word_if Sysml a (codes "abstract")
    ++ (word Sysml (definition_word k) ∷ word Sysml (codes "def") ∷ type_tail Sysml n general body)
thing l (items.Used p u h v) body = prefixed p (usage u h v body)
thing l (items.Returned r u h v) body =
    word Sysml (codes "return") ∷ (word_if Sysml r (codes "ref") ++ usage u h v body)
thing l (items.Subject h v) body = word Sysml (codes "subject") ∷ feature_tail Sysml h v body
thing l (items.Demanded r h v) body =
    word Sysml (demand_word r) ∷ word Sysml (codes "constraint") ∷ feature_tail Sysml h v body
thing l (items.Bind h a b) body =
    word Sysml (codes "binding") ∷ (header Sysml h ++ (word Sysml (codes "bind") ∷ (ending Sysml a
    ++ (sign (codes "=") ∷ (ending Sysml b ++ body)))))
thing l (items.Namespace n) body = word Kerml (codes "namespace") ∷ (named Kerml n ++ body)
thing l (items.Declared a k n general) body =
    word_if Kerml a (codes "abstract") ++ (word Kerml (type_word k) ∷ (named Kerml n ++ (generals Kerml general
    ++ body)))
thing l (items.Function a n general) body =
    word_if Kerml a (codes "abstract")
    ++ (word Kerml (codes "function") ∷ (named Kerml n ++ (generals Kerml general ++ body)))
thing l (items.Featured q s h v) body = qualities q (word Kerml (feature_word s) ∷ feature_tail Kerml h v body)
thing l (items.Yielded s h v) body =
    word Kerml (codes "return") ∷ (word Kerml (feature_word s) ∷ feature_tail Kerml h v body)

-- Other items.

-- an import
abbrev pub importing : Language → Importing → List Printed
importing l i =
    word l (codes "import")
    ∷ (word_if l i.all (codes "all")
    ++ (qualified l i.name
    ++ (star_tokens i.star (codes "*") ++ (star_tokens i.deep (codes "**") ++ sign (codes ";") ∷ []))))

-- an alias
abbrev pub aliasing : Language → Aliasing → List Printed
aliasing l a =
    word l (codes "alias") ∷ (named l a.names ++ (word l (codes "for") ∷ (qualified l a.target ++ sign (codes ";")
    ∷ [])))

-- what a comment is about
abbrev pub abouts : Language → List Qualified → List Printed
abouts l [] = []
abouts l (q ∷ qs) = word l (codes "about") ∷ (qualified l q ++ more_names l qs)

-- a documentation or a comment
abbrev pub noting : Language → Noting → List Printed
noting l (Documentation n locale body) = word l (codes "doc") ∷ (named l n ++ (locale_tokens l locale ++ note body
    ∷ []))
noting l (Comment n qs locale body) =
    word l (codes "comment") ∷ (named l n ++ (abouts l qs ++ (locale_tokens l locale ++ note body ∷ [])))

-- Bodies.

-- a body has no items and no result
abbrev pub is_bare : Items → Option Tree → Bool
is_bare Empty None = true
is_bare xs result = false

-- a body of these tokens, or none
abbrev pub enclosed : Bool → List Printed → List Printed
enclosed true ps = sign (codes ";") ∷ []
enclosed false ps = sign (codes "{") ∷ (ps ++ sign (codes "}") ∷ [])

-- the result of a body
abbrev pub resulting : Language → Option Tree → List Printed
resulting l None = []
resulting l (Some e) = printed l e

-- the items of a body
abbrev pub tokens : Language → Items → List Printed
tokens l Empty = []
tokens l (Import v i xs) = word l (visibility_word v) ∷ (importing l i ++ tokens l xs)
tokens l (Alias v a xs) = (member_visibility l v ++ aliasing l a) ++ tokens l xs
tokens l (Note v n xs) = (member_visibility l v ++ noting l n) ++ tokens l xs
tokens l (Member v t body result xs) =
    (member_visibility l v ++ thing l t (enclosed (is_bare body result) (tokens l body ++ resulting l result)))
    ++ tokens l xs
