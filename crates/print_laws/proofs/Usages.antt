-- Usages and definitions of SysML are read back from their word on.
use Rattle.std.proofs.Common.{◌≡◌, ℕ, List, [], ◌∷◌, ◌++◌, length, ap, sym, ◌∙◌, append_assoc}
use Rattle.std.specs.Prelude.{Option, Some, None, Bool, true, false, codes, map}
use Rattle.element_store.specs.declared.outcome.Language.{Language}
use Rattle.element_store.specs.declared.outcome.Language.TheVariants.{Kerml, Sysml}
use Rattle.element_store.specs.declared.outcome.Role.TheVariants as role
use Rattle.element_store.specs.declared.kind.Kind.{Kind}
use Rattle.element_store.specs.declared.kind.Kind.TheVariants as kind
use Rattle.element_store.specs.declared.kind.Marks.{Marks}
use Rattle.ll_core.specs.declared.grammar.Symbol.TheVariants.{Inner}
use Rattle.text_model.specs.declared.action.Action.{Action}
use Rattle.text_model.specs.declared.action.Action.TheVariants as action
use Rattle.text_model.specs.declared.action.Taking.TheVariants as taking
use Rattle.text_model.specs.declared.draft.Draft.{Draft}
use Rattle.text_model.specs.declared.draft.Reading.{Reading}
use Rattle.text_model.specs.Drafts.{draft}
use Rattle.text_model.specs.Walk.{Walk, fresh}
use Rattle.print_model.specs.Printed.{Printed, sign, word, name}
use Rattle.print_model.specs.Heads.{declared_name}
use Rattle.print_model.proofs.Readings.{Reads}
use Rattle.print_model.proofs.Names.{reads_name}
use Rattle.print_laws.specs.Items.{Qualified, Names, Run, Value, Header, Ends, Simple, Usage, Definition}
use Rattle.print_laws.specs.Items as items
use Rattle.print_laws.specs.ItemTokens.{named, runs, run, extent, order, specialised, valued, feature_tail, type_tail, generals, ends, simple_word, connector_word, calculation_word, usage, definition_word}
use Rattle.print_laws.specs.ItemWalk.{Grown, changed_self, path, all_mentions, run_mentions, headed, valued as with_value, specialised as generalised, simple_kind, connector_kind, calculation_kind, usage_kind, definition_kind, usage_ends, with_ends}
use Rattle.print_laws.specs.Fitting.{IsExtent, IsValue, IsTold, IsToldThere, IsUsage, AreEnds, AreEndings, ends_listed, Place, Anywhere, Enumerating, Calculating, Requiring, usage_place, definition_place}
use Rattle.print_laws.proofs.Symbols as symbol
use Rattle.print_laws.proofs.Productions as rule
use Rattle.print_laws.proofs.SysmlProductions as sysml
use Rattle.print_laws.proofs.Meanings as means
use Rattle.print_laws.proofs.Steps.{inside, done, then, by_rule, grouped, as_tokens, to_end, from_start, silent, naming_kind, defining}
use Rattle.print_laws.proofs.Heads.{named_reading, angled_read, name_part_read, ident_read, qualified_read, more_names_read, path_node, with_mentions}
use Rattle.print_laws.proofs.Runs.{run_read, taken_names}
use Rattle.print_laws.proofs.Spans.{unvalued, value_read}
use Rattle.print_laws.proofs.Features.{untold, told, told_read, use_tail_read, specialised_read, ends_read}

-- the symbol of bodies of a sort
abbrev pub body_symbol : Language → Place → ℕ
body_symbol l Anywhere = symbol.body l
body_symbol Kerml Calculating = symbol.fun_body
body_symbol Sysml Calculating = symbol.calc_body
body_symbol l Enumerating = symbol.enum_body
body_symbol l Requiring = symbol.req_body

-- another element is open
abbrev pub holding : Grown → Draft → Grown
holding g d = record g { self = d }

-- marks before the header
abbrev pub clean : Marks → Marks
clean m = record m { ordered = false; nonunique = false; default = false }

-- an element of which its marks are read
abbrev pub sort_of : ℕ → Kind → Marks → Draft
sort_of n k m = record (draft k (Some n)) { marks = clean m }

-- Specialisations of a type.

-- a type's generals
pub generals_read : (l : Language) (a : Action) (es : List Draft) (g : Grown) (r : Reading) (qs : List Qualified)
    → Reads l a (Inner (symbol.sub l) ∷ []) (generals l qs) (inside es (changed_self (λ d. record d { specs = [] }) g) r)
    (inside es (changed_self (generalised qs) g) r)
generals_read l a es g r [] = grouped (rule.sub l) (grouped (rule.maybe_colon_greater_qname_comma_1 l) done)
generals_read l a es g r (q ∷ qs) =
    grouped (rule.sub l)
    (to_end (taken_names role.Subclass es (changed_self (λ d. record d { specs = [] }) g) r (path q ∷ map path qs))
    (by_rule (rule.maybe_colon_greater_qname_comma_0 l)
    (then (grouped (rule.one_colon_greater_specializes_0 l) (silent (sign (codes ":>")) (means.sign_colon_greater l) done))
    (then (qualified_read l (action.Take taking.Subclass) (inside es (changed_self (λ d. record d { specs = [] }) g) fresh) [] fresh q)
    (more_names_read l (action.Take taking.Subclass) (inside es (changed_self (λ d. record d { specs = [] }) g) fresh) (path_node (path q) ∷ []) fresh qs)))))

-- Usages without a word.

-- all behind a name
ref_tail_read : (a : Action) (es : List Draft) (g : Grown) (r : Reading) (rs : List Run) (h : Header) (v : Value) (ps : List Printed) (w : Walk)
    → IsExtent h.extent → IsValue v
    → Reads Sysml action.Group (Inner (symbol.body Sysml) ∷ []) ps (inside es (changed_self (told (record h { runs = rs }) v) g) r) w
    → Reads Sysml a (Inner (symbol.ref_tail Sysml) ∷ []) (specialised Sysml rs h ++ (valued Sysml v ++ ps)) (inside es (changed_self untold g) r) w
ref_tail_read a es g r rs h v ps w k j q =
    grouped (rule.ref_tail Sysml)
    (then (specialised_read Sysml action.Group es (changed_self unvalued g) r rs h k)
    (then (value_read Sysml action.Group es (changed_self (headed (record h { runs = rs })) g) r v j) q))

-- its first specialisation was read already
joined_told : (es : List Draft) (g : Grown) (r : Reading) (x : Run) (xs : List Run) (h : Header) (v : Value)
    → inside es (changed_self (told (record h { runs = xs }) v) (changed_self (with_mentions (run_mentions x)) g)) r
    ≡ inside es (changed_self (told (record h { runs = x ∷ xs }) v) g) r
joined_told es g r x xs h v =
    ap (λ ms. inside es (changed_self (λ d. with_value v (record (headed h (unvalued d)) { specs = ms })) g) r)
    (append_assoc g.self.specs (run_mentions x) (all_mentions xs))

-- a usage without a word and without a name before its short name
pub no_name_read : (a : Action) (es : List Draft) (g : Grown) (short name : Option (List ℕ)) (rs : List Run) (h : Header) (v : Value) (ps : List Printed)
    (w : Walk) → IsToldThere short name rs → IsExtent h.extent → IsValue v
    → Reads Sysml action.Group (Inner (symbol.body Sysml) ∷ []) ps
    (inside es (changed_self (told (record h { runs = rs }) v) g) (named_reading (record { short = short; name = name }))) w
    → Reads Sysml a (Inner (symbol.no_name Sysml) ∷ [])
    ((named Sysml (record { short = short; name = name }) ++ specialised Sysml rs h) ++ (valued Sysml v ++ ps))
    (inside es (changed_self untold g) fresh) w
no_name_read a es g None None [] h v ps w i k j q = absurd i
no_name_read a es g None (Some n) rs h v ps w i k j q = absurd i
no_name_read a es g None None (x ∷ xs) h v ps w i k j q =
    let eo = extent Sysml h.extent ++ order Sysml h.ordered h.nonunique in
    let vs = valued Sysml v ++ ps in
    as_tokens (sym (append_assoc (run Sysml x) (runs Sysml xs ++ eo) vs) ∙ sym (ap (λ ts. ts ++ vs) (append_assoc (run Sysml x) (runs Sysml xs) eo)))
    (grouped (rule.no_name_1 Sysml)
    (then (run_read Sysml action.Group es (changed_self untold g) fresh x)
    (ref_tail_read action.Group es (changed_self (with_mentions (run_mentions x)) g) fresh xs h v ps w k j
    (from_start (joined_told es g fresh x xs h v) q))))
no_name_read a es g (Some s) name rs h v ps w i k j q =
    by_rule (rule.no_name_0 Sysml)
    (angled_read es (changed_self untold g) s
    (as_tokens (sym (append_assoc (declared_name Sysml name) (specialised Sysml rs h) (valued Sysml v ++ ps)))
    (then (name_part_read Sysml action.Short es (changed_self untold g) (Some s) name)
    (ref_tail_read action.Short es g (named_reading (record { short = Some s; name = name })) rs h v ps w k j q))))

-- a usage without a word
pub plain_read : (a : Action) (es : List Draft) (g : Grown) (short name : Option (List ℕ)) (rs : List Run) (h : Header) (v : Value) (ps : List Printed)
    (w : Walk)
    → IsTold short name rs → IsExtent h.extent → IsValue v
    → Reads Sysml action.Group (Inner (symbol.body Sysml) ∷ []) ps
    (inside es (changed_self (told (record h { runs = rs }) v) g) (named_reading (record { short = short; name = name }))) w
    → Reads Sysml a (Inner (symbol.plain Sysml) ∷ [])
    ((named Sysml (record { short = short; name = name }) ++ specialised Sysml rs h) ++ (valued Sysml v ++ ps))
    (inside es (changed_self untold g) fresh) w
plain_read a es g None None [] h v ps w i k j q = absurd i
plain_read a es g None (Some n) rs h v ps w i k j q =
    by_rule (rule.plain_0 Sysml) (reads_name Sysml action.Name n _ _ _ _
    (ref_tail_read action.Name es g (named_reading (record { short = None; name = Some n })) rs h v ps w k j q))
plain_read a es g None None (x ∷ xs) h v ps w i k j q =
    grouped (rule.plain_1 Sysml) (no_name_read action.Group es g None None (x ∷ xs) h v ps w tt k j q)
plain_read a es g (Some s) name rs h v ps w i k j q =
    grouped (rule.plain_1 Sysml) (no_name_read action.Group es g (Some s) name rs h v ps w tt k j q)

-- Words.

-- the word of a simple usage
simple_read : (a : Action) (es : List Draft) (g : Grown) (r : Reading) (s : Simple)
    → Reads Sysml a (Inner symbol.simple ∷ []) (word Sysml (simple_word s) ∷ []) (inside es g r) (inside es (changed_self
    (λ d. record d { kind = simple_kind s }) g) r)
simple_read a es g r items.Attribute = grouped sysml.simple_0 (naming_kind es g (word Sysml (codes "attribute")) kind.Attribute means.word_attribute done)
simple_read a es g r items.Occurrence = grouped sysml.simple_1 (naming_kind es g (word Sysml (codes "occurrence")) kind.Occurrence means.word_occurrence done)
simple_read a es g r items.Item = grouped sysml.simple_2 (naming_kind es g (word Sysml (codes "item")) kind.Item means.word_item done)
simple_read a es g r items.Part = grouped sysml.simple_3 (naming_kind es g (word Sysml (codes "part")) kind.Part means.word_part done)
simple_read a es g r items.Port = grouped sysml.simple_4 (naming_kind es g (word Sysml (codes "port")) kind.Port means.word_port done)
simple_read a es g r items.Action = grouped sysml.simple_5 (naming_kind es g (word Sysml (codes "action")) kind.Action means.word_action done)

-- `interface` or `connection`
connector_read : (a : Action) (es : List Draft) (g : Grown) (r : Reading) (i : Bool)
    → Reads Sysml a (Inner symbol.one_connection_interface ∷ []) (word Sysml (connector_word i) ∷ []) (inside es g r)
    (inside es (changed_self (λ d. record d { kind = connector_kind i }) g) r)
connector_read a es g r true = grouped sysml.one_connection_interface_1 (naming_kind es g (word Sysml
    (codes "interface")) kind.Interface means.word_interface done)
connector_read a es g r false = grouped sysml.one_connection_interface_0 (naming_kind es g (word Sysml
    (codes "connection")) kind.Connection means.word_connection done)

-- `constraint` or `calc`
calculation_read : (a : Action) (es : List Draft) (g : Grown) (r : Reading) (c : Bool)
    → Reads Sysml a (Inner symbol.one_calc_constraint ∷ []) (word Sysml (calculation_word c) ∷ []) (inside es g r)
    (inside es (changed_self (λ d. record d { kind = calculation_kind c }) g) r)
calculation_read a es g r true = grouped sysml.one_calc_constraint_1 (naming_kind es g (word Sysml
    (codes "constraint")) kind.Constraint means.word_constraint done)
calculation_read a es g r false = grouped sysml.one_calc_constraint_0 (naming_kind es g (word Sysml (codes "calc")) kind.Calc means.word_calc done)

-- Usages.

-- a usage is read from its word to the end of its body
abbrev pub UsageRead : ℕ → Usage → Type 0
UsageRead s u = (a : Action) (es : List Draft) (g : Grown) (n : ℕ) (m : Marks) (h : Header) (v : Value) (ps : List Printed) (w : Walk)
    → IsUsage u h → IsExtent h.extent → IsValue v → AreEnds u
    → Reads Sysml action.Group (Inner (body_symbol Sysml (usage_place u)) ∷ []) ps
    (inside es (with_ends (length es) (usage_ends u) (holding g (told h v (sort_of n (usage_kind u) m)))) (named_reading h.names)) w
    → Reads Sysml a (Inner s ∷ []) (usage u h v ps) (inside es (holding g (sort_of n kind.Reference m)) fresh) w

-- a tail with ends
con_tail_read : (a : Action) (es : List Draft) (g : Grown) (h : Header) (v : Value) (e : Ends) (ps : List Printed) (w : Walk)
    → IsExtent h.extent → IsValue v → AreEndings (ends_listed e)
    → Reads Sysml action.Group (Inner (symbol.body Sysml) ∷ []) ps (inside es (with_ends (length es) e (changed_self (told h v) g)) (named_reading h.names)) w
    → Reads Sysml a (Inner symbol.con_tail ∷ []) (feature_tail Sysml h v (ends Sysml e ++ ps)) (inside es (changed_self untold g) fresh) w
con_tail_read a es g h v e ps w k j i q =
    grouped sysml.con_tail (told_read Sysml action.Group es g h v _ _ w k j
    (then (ends_read action.Group es (changed_self (told h v) g) (named_reading h.names) e i) q))

-- a tail with a body that may have a result
pub calc_tail_read : (a : Action) (es : List Draft) (g : Grown) (h : Header) (v : Value) (ps : List Printed) (w : Walk)
    → IsExtent h.extent → IsValue v
    → Reads Sysml action.Group (Inner symbol.calc_body ∷ []) ps (inside es (changed_self (told h v) g) (named_reading h.names)) w
    → Reads Sysml a (Inner symbol.calc_tail ∷ []) (feature_tail Sysml h v ps) (inside es (changed_self untold g) fresh) w
calc_tail_read a es g h v ps w k j q = grouped sysml.calc_tail (told_read Sysml action.Group es g h v _ ps w k j q)

-- a tail with a requirement's body
req_tail_read : (a : Action) (es : List Draft) (g : Grown) (h : Header) (v : Value) (ps : List Printed) (w : Walk)
    → IsExtent h.extent → IsValue v
    → Reads Sysml action.Group (Inner symbol.req_body ∷ []) ps (inside es (changed_self (told h v) g) (named_reading h.names)) w
    → Reads Sysml a (Inner symbol.req_tail ∷ []) (feature_tail Sysml h v ps) (inside es (changed_self untold g) fresh) w
req_tail_read a es g h v ps w k j q = grouped sysml.req_tail (told_read Sysml action.Group es g h v _ ps w k j q)

-- behind the words before it
pub usage_read : (u : Usage) → UsageRead symbol.usage u
usage_read (items.SimpleUse s) a es g n m h v ps w i k j e q =
    grouped sysml.usage_0
    (then (simple_read action.Group es (holding g (sort_of n kind.Reference m)) fresh s)
    (use_tail_read Sysml action.Group es (holding g (sort_of n (simple_kind s) m)) h v ps w k j q))
usage_read items.EnumUse a es g n m h v ps w i k j e q =
    grouped sysml.usage_1
    (naming_kind es (holding g (sort_of n kind.Reference m)) (word Sysml (codes "enum")) kind.Enumeration means.word_enum
    (use_tail_read Sysml action.Group es (holding g (sort_of n kind.Enumeration m)) h v ps w k j q))
usage_read (items.ConnectorUse b x) a es g n m h v ps w i k j e q =
    grouped sysml.usage_2
    (then (connector_read action.Group es (holding g (sort_of n kind.Reference m)) fresh b)
    (con_tail_read action.Group es (holding g (sort_of n (connector_kind b) m)) h v x ps w k j e q))
usage_read (items.CalculationUse c) a es g n m h v ps w i k j e q =
    grouped sysml.usage_3
    (then (calculation_read action.Group es (holding g (sort_of n kind.Reference m)) fresh c)
    (calc_tail_read action.Group es (holding g (sort_of n (calculation_kind c) m)) h v ps w k j q))
usage_read items.RequirementUse a es g n m h v ps w i k j e q =
    grouped sysml.usage_4
    (naming_kind es (holding g (sort_of n kind.Reference m)) (word Sysml (codes "requirement")) kind.Requirement means.word_requirement
    (req_tail_read action.Group es (holding g (sort_of n kind.Requirement m)) h v ps w k j q))
usage_read items.Plain a es g n m h v ps w i k j e q =
    grouped sysml.usage_5 (plain_read action.Group es (holding g (sort_of n kind.Reference m)) h.names.short h.names.name h.runs h v ps w i k j q)

-- it has a word
abbrev pub HasWord : Usage → Type 0
HasWord items.Plain = ⊥
HasWord other = Unit {0}

-- where a definition might stand
pub worded_read : (u : Usage) → HasWord u → UsageRead symbol.def_use u
worded_read (items.SimpleUse s) f a es g n m h v ps w i k j e q =
    grouped sysml.def_use_0
    (then (simple_read action.Group es (holding g (sort_of n kind.Reference m)) fresh s)
    (grouped sysml.one_def_def_head_body_1 (use_tail_read Sysml action.Group es (holding g (sort_of n (simple_kind s) m)) h v ps w k j q)))
worded_read items.EnumUse f a es g n m h v ps w i k j e q =
    grouped sysml.def_use_1
    (naming_kind es (holding g (sort_of n kind.Reference m)) (word Sysml (codes "enum")) kind.Enumeration means.word_enum
    (grouped sysml.one_def_def_head_enum_body_1 (use_tail_read Sysml action.Group es (holding g (sort_of n kind.Enumeration m)) h v ps w k j q)))
worded_read (items.ConnectorUse b x) f a es g n m h v ps w i k j e q =
    grouped sysml.def_use_2
    (then (connector_read action.Group es (holding g (sort_of n kind.Reference m)) fresh b)
    (grouped sysml.one_def_def_head_body2_1 (con_tail_read action.Group es (holding g (sort_of n (connector_kind b) m)) h v x ps w k j e q)))
worded_read (items.CalculationUse c) f a es g n m h v ps w i k j e q =
    grouped sysml.def_use_3
    (then (calculation_read action.Group es (holding g (sort_of n kind.Reference m)) fresh c)
    (grouped sysml.one_def_def_head_calc_body_1 (calc_tail_read action.Group es (holding g (sort_of n (calculation_kind c) m)) h v ps w k j q)))
worded_read items.RequirementUse f a es g n m h v ps w i k j e q =
    grouped sysml.def_use_4
    (naming_kind es (holding g (sort_of n kind.Reference m)) (word Sysml (codes "requirement")) kind.Requirement means.word_requirement
    (grouped sysml.one_def_def_head_req_body_1 (req_tail_read action.Group es (holding g (sort_of n kind.Requirement m)) h v ps w k j q)))
worded_read items.Plain f a es g n m h v ps w i k j e q = absurd f

-- Definitions.

-- names and generals, and the body
def_head_read : (es : List Draft) (g : Grown) (n : Names) (general : List Qualified) (s : ℕ) (ps : List Printed) (w : Walk)
    → Reads Sysml action.Group (Inner s ∷ []) ps (inside es (changed_self (generalised general) g) (named_reading n)) w
    → Reads Sysml action.Group (Inner symbol.def_head ∷ Inner s ∷ []) (type_tail Sysml n general ps)
    (inside es (changed_self (λ d. record d { specs = [] }) g) fresh) w
def_head_read es g n general s ps w q =
    then (grouped sysml.def_head
    (then (ident_read Sysml action.Group es (changed_self (λ d. record d { specs = [] }) g) n)
    (generals_read Sysml action.Group es g (named_reading n) general))) q

-- a definition from its word to the end of its body
pub definition_read : (a : Action) (es : List Draft) (g : Grown) (owner : ℕ) (m : Marks) (k : Definition) (n : Names) (general : List Qualified)
    (ps : List Printed) (w : Walk)
    → Reads Sysml action.Group (Inner (body_symbol Sysml (definition_place k)) ∷ []) ps
    (inside es (holding g (generalised general (sort_of owner (definition_kind k) m))) (named_reading n)) w
    → Reads Sysml a (Inner symbol.def_use ∷ []) (word Sysml (definition_word k) ∷ word Sysml (codes "def") ∷ type_tail Sysml n general ps)
    (inside es (holding g (sort_of owner kind.Reference m)) fresh) w
definition_read a es g owner m (items.SimpleDef s) n general ps w q =
    grouped sysml.def_use_0
    (then (simple_read action.Group es (holding g (sort_of owner kind.Reference m)) fresh s)
    (grouped sysml.one_def_def_head_body_0 (defining es (holding g (sort_of owner (simple_kind s) m)) (word Sysml (codes "def")) means.word_def
    (def_head_read es (holding g (sort_of owner (definition_kind (items.SimpleDef s)) m)) n general _ ps w q))))
definition_read a es g owner m items.EnumDef n general ps w q =
    grouped sysml.def_use_1
    (naming_kind es (holding g (sort_of owner kind.Reference m)) (word Sysml (codes "enum")) kind.Enumeration means.word_enum
    (grouped sysml.one_def_def_head_enum_body_0 (defining es (holding g (sort_of owner kind.Enumeration m)) (word Sysml (codes "def")) means.word_def
    (def_head_read es (holding g (sort_of owner kind.EnumDef m)) n general _ ps w q))))
definition_read a es g owner m (items.ConnectorDef b) n general ps w q =
    grouped sysml.def_use_2
    (then (connector_read action.Group es (holding g (sort_of owner kind.Reference m)) fresh b)
    (grouped sysml.one_def_def_head_body2_0 (defining es (holding g (sort_of owner (connector_kind b) m)) (word Sysml (codes "def")) means.word_def
    (def_head_read es (holding g (sort_of owner (definition_kind (items.ConnectorDef b)) m)) n general _ ps w q))))
definition_read a es g owner m (items.CalculationDef c) n general ps w q =
    grouped sysml.def_use_3
    (then (calculation_read action.Group es (holding g (sort_of owner kind.Reference m)) fresh c)
    (grouped sysml.one_def_def_head_calc_body_0 (defining es (holding g (sort_of owner (calculation_kind c) m)) (word Sysml (codes "def")) means.word_def
    (def_head_read es (holding g (sort_of owner (definition_kind (items.CalculationDef c)) m)) n general _ ps w q))))
definition_read a es g owner m items.RequirementDef n general ps w q =
    grouped sysml.def_use_4
    (naming_kind es (holding g (sort_of owner kind.Reference m)) (word Sysml (codes "requirement")) kind.Requirement means.word_requirement
    (grouped sysml.one_def_def_head_req_body_0 (defining es (holding g (sort_of owner kind.Requirement m)) (word Sysml (codes "def")) means.word_def
    (def_head_read es (holding g (sort_of owner kind.RequirementDef m)) n general _ ps w q))))
