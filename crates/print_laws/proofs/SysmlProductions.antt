-- Made by `tools/make_print_rules.py`: the productions that SysML alone has, by evaluation.
use Rattle.std.proofs.Common.{[], ◌∷◌, refl}
use Rattle.std.specs.Prelude.{codes}
use Rattle.element_store.specs.declared.kind.Kind.TheVariants as kind
use Rattle.element_store.specs.declared.outcome.Language.TheVariants.{Sysml}
use Rattle.token_core.specs.Terminals.{terminal}
use Rattle.token_core.specs.Words.{signs, words}
use Rattle.ll_core.specs.declared.grammar.Symbol.TheVariants.{Terminal, Inner}
use Rattle.sysml_grammar.specs.Terms as sysml
use Rattle.sysml_grammar.specs.Rules.{sysml_rules}
use Rattle.sysml_grammar.specs.Grammar.{sysml_table}
use Rattle.text_model.specs.declared.action.Action.TheVariants as action
use Rattle.text_model.specs.declared.action.Taking.TheVariants as taking
use Rattle.text_model.specs.SysmlActions.{sysml_actions}
use Rattle.text_model.specs.Languages.{grammar_of}
use Rattle.text_model.specs.Tables.{tables}
use Rattle.print_model.specs.Printed.{sign, word}
use Rattle.print_laws.proofs.Symbols as symbol
use Rattle.print_laws.proofs.Productions.{Rule}

-- Content = Thing
pub content_4 : Rule Sysml (symbol.content Sysml) (Inner (symbol.thing Sysml) ∷ []) action.Group
unfolding grammar_of sysml_table sysml_rules sysml.sign sysml.word signs words tables sysml_actions
content_4 = record { n = 73; rule = (refl, refl) }

-- TypedBy = 'defined' 'by'
pub typed_by_1 : Rule Sysml (symbol.typed_by Sysml) (Terminal (terminal (word Sysml (codes "defined")).kind) ∷ Terminal (terminal (word Sysml (codes
    "by")).kind) ∷ []) action.Group
unfolding grammar_of sysml_table sysml_rules sysml.sign sysml.word signs words tables sysml_actions
typed_by_1 = record { n = 68; rule = (refl, refl) }

-- Thing = 'end' P1
pub thing_0 : Rule Sysml (symbol.thing Sysml) (Terminal (terminal (word Sysml (codes "end")).kind) ∷ Inner symbol.p1 ∷ []) (action.Element
    kind.Reference)
unfolding grammar_of sysml_table sysml_rules sysml.sign sysml.word signs words tables sysml_actions
thing_0 = record { n = 74; rule = (refl, refl) }

-- Thing = Dir P2
pub thing_1 : Rule Sysml (symbol.thing Sysml) (Inner (symbol.dir Sysml) ∷ Inner symbol.p2 ∷ []) (action.Element kind.Reference)
unfolding grammar_of sysml_table sysml_rules sysml.sign sysml.word signs words tables sysml_actions
thing_1 = record { n = 75; rule = (refl, refl) }

-- Thing = 'derived' P3
pub thing_2 : Rule Sysml (symbol.thing Sysml) (Terminal (terminal (word Sysml (codes "derived")).kind) ∷ Inner symbol.p3 ∷ []) (action.Element
    kind.Reference)
unfolding grammar_of sysml_table sysml_rules sysml.sign sysml.word signs words tables sysml_actions
thing_2 = record { n = 76; rule = (refl, refl) }

-- Thing = 'abstract' Late
pub thing_3 : Rule Sysml (symbol.thing Sysml) (Terminal (terminal (word Sysml (codes "abstract")).kind) ∷ Inner symbol.late ∷ []) (action.Element
    kind.Reference)
unfolding grammar_of sysml_table sysml_rules sysml.sign sysml.word signs words tables sysml_actions
thing_3 = record { n = 77; rule = (refl, refl) }

-- Thing = Late
pub thing_4 : Rule Sysml (symbol.thing Sysml) (Inner symbol.late ∷ []) (action.Element kind.Reference)
unfolding grammar_of sysml_table sysml_rules sysml.sign sysml.word signs words tables sysml_actions
thing_4 = record { n = 78; rule = (refl, refl) }

-- Thing = Connect
pub thing_5 : Rule Sysml (symbol.thing Sysml) (Inner symbol.connect ∷ []) (action.Element kind.Connection)
unfolding grammar_of sysml_table sysml_rules sysml.sign sysml.word signs words tables sysml_actions
thing_5 = record { n = 79; rule = (refl, refl) }

-- Thing = Bind
pub thing_6 : Rule Sysml (symbol.thing Sysml) (Inner symbol.bind ∷ []) (action.Element kind.Binding)
unfolding grammar_of sysml_table sysml_rules sysml.sign sysml.word signs words tables sysml_actions
thing_6 = record { n = 80; rule = (refl, refl) }

-- P1 = MaybeDir P2
pub p1 : Rule Sysml symbol.p1 (Inner symbol.maybe_dir ∷ Inner symbol.p2 ∷ []) action.Group
unfolding grammar_of sysml_table sysml_rules sysml.sign sysml.word signs words tables sysml_actions
p1 = record { n = 81; rule = (refl, refl) }

-- P2 = MaybeDerived P3
pub p2 : Rule Sysml symbol.p2 (Inner (symbol.maybe_derived Sysml) ∷ Inner symbol.p3 ∷ []) action.Group
unfolding grammar_of sysml_table sysml_rules sysml.sign sysml.word signs words tables sysml_actions
p2 = record { n = 82; rule = (refl, refl) }

-- P3 = MaybeAbstract P4
pub p3 : Rule Sysml symbol.p3 (Inner (symbol.maybe_abstract Sysml) ∷ Inner symbol.p4 ∷ []) action.Group
unfolding grammar_of sysml_table sysml_rules sysml.sign sysml.word signs words tables sysml_actions
p3 = record { n = 83; rule = (refl, refl) }

-- P4 = MaybeConstant P5
pub p4 : Rule Sysml symbol.p4 (Inner symbol.maybe_constant ∷ Inner symbol.p5 ∷ []) action.Group
unfolding grammar_of sysml_table sysml_rules sysml.sign sysml.word signs words tables sysml_actions
p4 = record { n = 84; rule = (refl, refl) }

-- P5 = MaybeRef Usage
pub p5 : Rule Sysml symbol.p5 (Inner symbol.maybe_ref ∷ Inner symbol.usage ∷ []) action.Group
unfolding grammar_of sysml_table sysml_rules sysml.sign sysml.word signs words tables sysml_actions
p5 = record { n = 85; rule = (refl, refl) }

-- Late = 'constant' P5
pub late_0 : Rule Sysml symbol.late (Terminal (terminal (word Sysml (codes "constant")).kind) ∷ Inner symbol.p5 ∷ []) action.Group
unfolding grammar_of sysml_table sysml_rules sysml.sign sysml.word signs words tables sysml_actions
late_0 = record { n = 86; rule = (refl, refl) }

-- Late = 'ref' Usage
pub late_1 : Rule Sysml symbol.late (Terminal (terminal (word Sysml (codes "ref")).kind) ∷ Inner symbol.usage ∷ []) action.Group
unfolding grammar_of sysml_table sysml_rules sysml.sign sysml.word signs words tables sysml_actions
late_1 = record { n = 87; rule = (refl, refl) }

-- Late = DefUse
pub late_2 : Rule Sysml symbol.late (Inner symbol.def_use ∷ []) action.Group
unfolding grammar_of sysml_table sysml_rules sysml.sign sysml.word signs words tables sysml_actions
late_2 = record { n = 88; rule = (refl, refl) }

-- Late = Plain
pub late_3 : Rule Sysml symbol.late (Inner (symbol.plain Sysml) ∷ []) action.Group
unfolding grammar_of sysml_table sysml_rules sysml.sign sysml.word signs words tables sysml_actions
late_3 = record { n = 89; rule = (refl, refl) }

-- Simple = 'attribute'
pub simple_0 : Rule Sysml symbol.simple (Terminal (terminal (word Sysml (codes "attribute")).kind) ∷ []) action.Group
unfolding grammar_of sysml_table sysml_rules sysml.sign sysml.word signs words tables sysml_actions
simple_0 = record { n = 90; rule = (refl, refl) }

-- Simple = 'occurrence'
pub simple_1 : Rule Sysml symbol.simple (Terminal (terminal (word Sysml (codes "occurrence")).kind) ∷ []) action.Group
unfolding grammar_of sysml_table sysml_rules sysml.sign sysml.word signs words tables sysml_actions
simple_1 = record { n = 91; rule = (refl, refl) }

-- Simple = 'item'
pub simple_2 : Rule Sysml symbol.simple (Terminal (terminal (word Sysml (codes "item")).kind) ∷ []) action.Group
unfolding grammar_of sysml_table sysml_rules sysml.sign sysml.word signs words tables sysml_actions
simple_2 = record { n = 92; rule = (refl, refl) }

-- Simple = 'part'
pub simple_3 : Rule Sysml symbol.simple (Terminal (terminal (word Sysml (codes "part")).kind) ∷ []) action.Group
unfolding grammar_of sysml_table sysml_rules sysml.sign sysml.word signs words tables sysml_actions
simple_3 = record { n = 93; rule = (refl, refl) }

-- Simple = 'port'
pub simple_4 : Rule Sysml symbol.simple (Terminal (terminal (word Sysml (codes "port")).kind) ∷ []) action.Group
unfolding grammar_of sysml_table sysml_rules sysml.sign sysml.word signs words tables sysml_actions
simple_4 = record { n = 94; rule = (refl, refl) }

-- Simple = 'action'
pub simple_5 : Rule Sysml symbol.simple (Terminal (terminal (word Sysml (codes "action")).kind) ∷ []) action.Group
unfolding grammar_of sysml_table sysml_rules sysml.sign sysml.word signs words tables sysml_actions
simple_5 = record { n = 95; rule = (refl, refl) }

-- Usage = Simple UseTail
pub usage_0 : Rule Sysml symbol.usage (Inner symbol.simple ∷ Inner (symbol.use_tail Sysml) ∷ []) action.Group
unfolding grammar_of sysml_table sysml_rules sysml.sign sysml.word signs words tables sysml_actions
usage_0 = record { n = 96; rule = (refl, refl) }

-- Usage = 'enum' UseTail
pub usage_1 : Rule Sysml symbol.usage (Terminal (terminal (word Sysml (codes "enum")).kind) ∷ Inner (symbol.use_tail Sysml) ∷ []) action.Group
unfolding grammar_of sysml_table sysml_rules sysml.sign sysml.word signs words tables sysml_actions
usage_1 = record { n = 97; rule = (refl, refl) }

-- Usage = OneConnectionInterface ConTail
pub usage_2 : Rule Sysml symbol.usage (Inner symbol.one_connection_interface ∷ Inner symbol.con_tail ∷ []) action.Group
unfolding grammar_of sysml_table sysml_rules sysml.sign sysml.word signs words tables sysml_actions
usage_2 = record { n = 98; rule = (refl, refl) }

-- Usage = OneCalcConstraint CalcTail
pub usage_3 : Rule Sysml symbol.usage (Inner symbol.one_calc_constraint ∷ Inner symbol.calc_tail ∷ []) action.Group
unfolding grammar_of sysml_table sysml_rules sysml.sign sysml.word signs words tables sysml_actions
usage_3 = record { n = 99; rule = (refl, refl) }

-- Usage = 'requirement' ReqTail
pub usage_4 : Rule Sysml symbol.usage (Terminal (terminal (word Sysml (codes "requirement")).kind) ∷ Inner symbol.req_tail ∷ []) action.Group
unfolding grammar_of sysml_table sysml_rules sysml.sign sysml.word signs words tables sysml_actions
usage_4 = record { n = 100; rule = (refl, refl) }

-- Usage = Plain
pub usage_5 : Rule Sysml symbol.usage (Inner (symbol.plain Sysml) ∷ []) action.Group
unfolding grammar_of sysml_table sysml_rules sysml.sign sysml.word signs words tables sysml_actions
usage_5 = record { n = 101; rule = (refl, refl) }

-- DefUse = Simple OneDefDefHeadBody
pub def_use_0 : Rule Sysml symbol.def_use (Inner symbol.simple ∷ Inner symbol.one_def_def_head_body ∷ []) action.Group
unfolding grammar_of sysml_table sysml_rules sysml.sign sysml.word signs words tables sysml_actions
def_use_0 = record { n = 102; rule = (refl, refl) }

-- DefUse = 'enum' OneDefDefHeadEnumBody
pub def_use_1 : Rule Sysml symbol.def_use (Terminal (terminal (word Sysml (codes "enum")).kind) ∷ Inner symbol.one_def_def_head_enum_body ∷ [])
    action.Group
unfolding grammar_of sysml_table sysml_rules sysml.sign sysml.word signs words tables sysml_actions
def_use_1 = record { n = 103; rule = (refl, refl) }

-- DefUse = OneConnectionInterface OneDefDefHeadBody2
pub def_use_2 : Rule Sysml symbol.def_use (Inner symbol.one_connection_interface ∷ Inner symbol.one_def_def_head_body2 ∷ []) action.Group
unfolding grammar_of sysml_table sysml_rules sysml.sign sysml.word signs words tables sysml_actions
def_use_2 = record { n = 104; rule = (refl, refl) }

-- DefUse = OneCalcConstraint OneDefDefHeadCalcBody
pub def_use_3 : Rule Sysml symbol.def_use (Inner symbol.one_calc_constraint ∷ Inner symbol.one_def_def_head_calc_body ∷ []) action.Group
unfolding grammar_of sysml_table sysml_rules sysml.sign sysml.word signs words tables sysml_actions
def_use_3 = record { n = 105; rule = (refl, refl) }

-- DefUse = 'requirement' OneDefDefHeadReqBody
pub def_use_4 : Rule Sysml symbol.def_use (Terminal (terminal (word Sysml (codes "requirement")).kind) ∷ Inner symbol.one_def_def_head_req_body ∷ [])
    action.Group
unfolding grammar_of sysml_table sysml_rules sysml.sign sysml.word signs words tables sysml_actions
def_use_4 = record { n = 106; rule = (refl, refl) }

-- DefHead = Ident Sub
pub def_head : Rule Sysml symbol.def_head (Inner (symbol.ident Sysml) ∷ Inner (symbol.sub Sysml) ∷ []) action.Group
unfolding grammar_of sysml_table sysml_rules sysml.sign sysml.word signs words tables sysml_actions
def_head = record { n = 107; rule = (refl, refl) }

-- ConTail = UseHead Value MaybeConnectEnds Body
pub con_tail : Rule Sysml symbol.con_tail (Inner (symbol.use_head Sysml) ∷ Inner (symbol.value Sysml) ∷ Inner symbol.maybe_connect_ends ∷ Inner
    (symbol.body Sysml) ∷ []) action.Group
unfolding grammar_of sysml_table sysml_rules sysml.sign sysml.word signs words tables sysml_actions
con_tail = record { n = 108; rule = (refl, refl) }

-- CalcTail = UseHead Value CalcBody
pub calc_tail : Rule Sysml symbol.calc_tail (Inner (symbol.use_head Sysml) ∷ Inner (symbol.value Sysml) ∷ Inner symbol.calc_body ∷ []) action.Group
unfolding grammar_of sysml_table sysml_rules sysml.sign sysml.word signs words tables sysml_actions
calc_tail = record { n = 109; rule = (refl, refl) }

-- ReqTail = UseHead Value ReqBody
pub req_tail : Rule Sysml symbol.req_tail (Inner (symbol.use_head Sysml) ∷ Inner (symbol.value Sysml) ∷ Inner symbol.req_body ∷ []) action.Group
unfolding grammar_of sysml_table sysml_rules sysml.sign sysml.word signs words tables sysml_actions
req_tail = record { n = 110; rule = (refl, refl) }

-- EnumBody = ';'
pub enum_body_0 : Rule Sysml symbol.enum_body (Terminal (terminal (sign (codes ";")).kind) ∷ []) action.Group
unfolding grammar_of sysml_table sysml_rules sysml.sign sysml.word signs words tables sysml_actions
enum_body_0 = record { n = 111; rule = (refl, refl) }

-- EnumBody = '{' ManyEnumItem '}'
pub enum_body_1 : Rule Sysml symbol.enum_body (Terminal (terminal (sign (codes "{")).kind) ∷ Inner symbol.many_enum_item ∷ Terminal (terminal (sign
    (codes "}")).kind) ∷ []) action.Group
unfolding grammar_of sysml_table sysml_rules sysml.sign sysml.word signs words tables sysml_actions
enum_body_1 = record { n = 112; rule = (refl, refl) }

-- EnumItem = MaybeVis OneNoteEnumUseTail
pub enum_item : Rule Sysml symbol.enum_item (Inner (symbol.maybe_vis Sysml) ∷ Inner symbol.one_note_enum_use_tail ∷ []) action.Group
unfolding grammar_of sysml_table sysml_rules sysml.sign sysml.word signs words tables sysml_actions
enum_item = record { n = 113; rule = (refl, refl) }

-- CalcBody = ';'
pub calc_body_0 : Rule Sysml symbol.calc_body (Terminal (terminal (sign (codes ";")).kind) ∷ []) action.Group
unfolding grammar_of sysml_table sysml_rules sysml.sign sysml.word signs words tables sysml_actions
calc_body_0 = record { n = 114; rule = (refl, refl) }

-- CalcBody = '{' ManyCalcItem MaybeExpr '}'
pub calc_body_1 : Rule Sysml symbol.calc_body (Terminal (terminal (sign (codes "{")).kind) ∷ Inner symbol.many_calc_item ∷ Inner (symbol.maybe_expr
    Sysml) ∷ Terminal (terminal (sign (codes "}")).kind) ∷ []) action.Group
unfolding grammar_of sysml_table sysml_rules sysml.sign sysml.word signs words tables sysml_actions
calc_body_1 = record { n = 115; rule = (refl, refl) }

-- CalcItem = MaybeVis OneImportAliasNote
pub calc_item : Rule Sysml symbol.calc_item (Inner (symbol.maybe_vis Sysml) ∷ Inner (symbol.one_import_alias_note Sysml) ∷ []) action.Group
unfolding grammar_of sysml_table sysml_rules sysml.sign sysml.word signs words tables sysml_actions
calc_item = record { n = 116; rule = (refl, refl) }

-- ReqBody = ';'
pub req_body_0 : Rule Sysml symbol.req_body (Terminal (terminal (sign (codes ";")).kind) ∷ []) action.Group
unfolding grammar_of sysml_table sysml_rules sysml.sign sysml.word signs words tables sysml_actions
req_body_0 = record { n = 117; rule = (refl, refl) }

-- ReqBody = '{' ManyReqItem '}'
pub req_body_1 : Rule Sysml symbol.req_body (Terminal (terminal (sign (codes "{")).kind) ∷ Inner symbol.many_req_item ∷ Terminal (terminal (sign
    (codes "}")).kind) ∷ []) action.Group
unfolding grammar_of sysml_table sysml_rules sysml.sign sysml.word signs words tables sysml_actions
req_body_1 = record { n = 118; rule = (refl, refl) }

-- ReqItem = MaybeVis OneContentSubjectUseTail
pub req_item : Rule Sysml symbol.req_item (Inner (symbol.maybe_vis Sysml) ∷ Inner symbol.one_content_subject_use_tail ∷ []) action.Group
unfolding grammar_of sysml_table sysml_rules sysml.sign sysml.word signs words tables sysml_actions
req_item = record { n = 119; rule = (refl, refl) }

-- ReqCon = 'constraint' CalcTail
pub req_con_0 : Rule Sysml symbol.req_con (Terminal (terminal (word Sysml (codes "constraint")).kind) ∷ Inner symbol.calc_tail ∷ []) action.Group
unfolding grammar_of sysml_table sysml_rules sysml.sign sysml.word signs words tables sysml_actions
req_con_0 = record { n = 120; rule = (refl, refl) }

-- ReqCon = Chain SpecPart CalcBody
pub req_con_1 : Rule Sysml symbol.req_con (Inner (symbol.chain Sysml) ∷ Inner (symbol.spec_part Sysml) ∷ Inner symbol.calc_body ∷ []) action.Group
unfolding grammar_of sysml_table sysml_rules sysml.sign sysml.word signs words tables sysml_actions
req_con_1 = record { n = 121; rule = (refl, refl) }

-- Connect = 'connect' Ends Body
pub connect : Rule Sysml symbol.connect (Terminal (terminal (word Sysml (codes "connect")).kind) ∷ Inner symbol.ends ∷ Inner (symbol.body Sysml) ∷ [])
    action.Group
unfolding grammar_of sysml_table sysml_rules sysml.sign sysml.word signs words tables sysml_actions
connect = record { n = 122; rule = (refl, refl) }

-- Ends = End 'to' End
pub ends_0 : Rule Sysml symbol.ends (Inner symbol.end ∷ Terminal (terminal (word Sysml (codes "to")).kind) ∷ Inner symbol.end ∷ []) action.Group
unfolding grammar_of sysml_table sysml_rules sysml.sign sysml.word signs words tables sysml_actions
ends_0 = record { n = 123; rule = (refl, refl) }

-- Ends = '(' End ',' End ManyCommaEnd ')'
pub ends_1 : Rule Sysml symbol.ends (Terminal (terminal (sign (codes "(")).kind) ∷ Inner symbol.end ∷ Terminal (terminal (sign (codes ",")).kind) ∷
    Inner symbol.end ∷ Inner symbol.many_comma_end ∷ Terminal (terminal (sign (codes ")")).kind) ∷ []) action.Group
unfolding grammar_of sysml_table sysml_rules sysml.sign sysml.word signs words tables sysml_actions
ends_1 = record { n = 124; rule = (refl, refl) }

-- Bind = 'bind' End '=' End Body
pub bind_0 : Rule Sysml symbol.bind (Terminal (terminal (word Sysml (codes "bind")).kind) ∷ Inner symbol.end ∷ Terminal (terminal (sign (codes
    "=")).kind) ∷ Inner symbol.end ∷ Inner (symbol.body Sysml) ∷ []) action.Group
unfolding grammar_of sysml_table sysml_rules sysml.sign sysml.word signs words tables sysml_actions
bind_0 = record { n = 125; rule = (refl, refl) }

-- Bind = 'binding' UseHead 'bind' End '=' End Body
pub bind_1 : Rule Sysml symbol.bind (Terminal (terminal (word Sysml (codes "binding")).kind) ∷ Inner (symbol.use_head Sysml) ∷ Terminal (terminal
    (word Sysml (codes "bind")).kind) ∷ Inner symbol.end ∷ Terminal (terminal (sign (codes "=")).kind) ∷ Inner symbol.end ∷ Inner (symbol.body Sysml)
    ∷ []) action.Group
unfolding grammar_of sysml_table sysml_rules sysml.sign sysml.word signs words tables sysml_actions
bind_1 = record { n = 126; rule = (refl, refl) }

-- End = MaybeBracketBoundsBracket EndName
pub end : Rule Sysml symbol.end (Inner symbol.maybe_bracket_bounds_bracket ∷ Inner symbol.end_name ∷ []) (action.Element kind.ConnectorEnd)
unfolding grammar_of sysml_table sysml_rules sysml.sign sysml.word signs words tables sysml_actions
end = record { n = 127; rule = (refl, refl) }

-- EndName = NAME EndRest
pub end_name_0 : Rule Sysml symbol.end_name (Terminal 0 ∷ Inner symbol.end_rest ∷ []) action.Group
unfolding grammar_of sysml_table sysml_rules sysml.sign sysml.word signs words tables sysml_actions
end_name_0 = record { n = 128; rule = (refl, refl) }

-- EndName = '$' '::' NAME ManyColonColonName ManyDotName
pub end_name_1 : Rule Sysml symbol.end_name (Terminal (terminal (sign (codes "$")).kind) ∷ Terminal (terminal (sign (codes "::")).kind) ∷ Terminal 0 ∷
    Inner (symbol.many_colon_colon_name Sysml) ∷ Inner (symbol.many_dot_name Sysml) ∷ []) action.Group
unfolding grammar_of sysml_table sysml_rules sysml.sign sysml.word signs words tables sysml_actions
end_name_1 = record { n = 129; rule = (refl, refl) }

-- EndRest = OneColonColonGreaterReferences Chain
pub end_rest_0 : Rule Sysml symbol.end_rest (Inner (symbol.one_colon_colon_greater_references Sysml) ∷ Inner (symbol.chain Sysml) ∷ [])
    action.NamedEnd
unfolding grammar_of sysml_table sysml_rules sysml.sign sysml.word signs words tables sysml_actions
end_rest_0 = record { n = 130; rule = (refl, refl) }

-- EndRest = ManyColonColonName ManyDotName
pub end_rest_1 : Rule Sysml symbol.end_rest (Inner (symbol.many_colon_colon_name Sysml) ∷ Inner (symbol.many_dot_name Sysml) ∷ []) action.Group
unfolding grammar_of sysml_table sysml_rules sysml.sign sysml.word signs words tables sysml_actions
end_rest_1 = record { n = 131; rule = (refl, refl) }

-- MaybeDir = Dir
pub maybe_dir_0 : Rule Sysml symbol.maybe_dir (Inner (symbol.dir Sysml) ∷ []) action.Group
unfolding grammar_of sysml_table sysml_rules sysml.sign sysml.word signs words tables sysml_actions
maybe_dir_0 = record { n = 226; rule = (refl, refl) }

-- MaybeDir = nothing
pub maybe_dir_1 : Rule Sysml symbol.maybe_dir ([]) action.Group
unfolding grammar_of sysml_table sysml_rules sysml.sign sysml.word signs words tables sysml_actions
maybe_dir_1 = record { n = 227; rule = (refl, refl) }

-- MaybeConstant = 'constant'
pub maybe_constant_0 : Rule Sysml symbol.maybe_constant (Terminal (terminal (word Sysml (codes "constant")).kind) ∷ []) action.Group
unfolding grammar_of sysml_table sysml_rules sysml.sign sysml.word signs words tables sysml_actions
maybe_constant_0 = record { n = 232; rule = (refl, refl) }

-- MaybeConstant = nothing
pub maybe_constant_1 : Rule Sysml symbol.maybe_constant ([]) action.Group
unfolding grammar_of sysml_table sysml_rules sysml.sign sysml.word signs words tables sysml_actions
maybe_constant_1 = record { n = 233; rule = (refl, refl) }

-- MaybeRef = 'ref'
pub maybe_ref_0 : Rule Sysml symbol.maybe_ref (Terminal (terminal (word Sysml (codes "ref")).kind) ∷ []) action.Group
unfolding grammar_of sysml_table sysml_rules sysml.sign sysml.word signs words tables sysml_actions
maybe_ref_0 = record { n = 234; rule = (refl, refl) }

-- MaybeRef = nothing
pub maybe_ref_1 : Rule Sysml symbol.maybe_ref ([]) action.Group
unfolding grammar_of sysml_table sysml_rules sysml.sign sysml.word signs words tables sysml_actions
maybe_ref_1 = record { n = 235; rule = (refl, refl) }

-- OneConnectionInterface = 'connection'
pub one_connection_interface_0 : Rule Sysml symbol.one_connection_interface (Terminal (terminal (word Sysml (codes "connection")).kind) ∷ [])
    action.Group
unfolding grammar_of sysml_table sysml_rules sysml.sign sysml.word signs words tables sysml_actions
one_connection_interface_0 = record { n = 236; rule = (refl, refl) }

-- OneConnectionInterface = 'interface'
pub one_connection_interface_1 : Rule Sysml symbol.one_connection_interface (Terminal (terminal (word Sysml (codes "interface")).kind) ∷ [])
    action.Group
unfolding grammar_of sysml_table sysml_rules sysml.sign sysml.word signs words tables sysml_actions
one_connection_interface_1 = record { n = 237; rule = (refl, refl) }

-- OneCalcConstraint = 'calc'
pub one_calc_constraint_0 : Rule Sysml symbol.one_calc_constraint (Terminal (terminal (word Sysml (codes "calc")).kind) ∷ []) action.Group
unfolding grammar_of sysml_table sysml_rules sysml.sign sysml.word signs words tables sysml_actions
one_calc_constraint_0 = record { n = 238; rule = (refl, refl) }

-- OneCalcConstraint = 'constraint'
pub one_calc_constraint_1 : Rule Sysml symbol.one_calc_constraint (Terminal (terminal (word Sysml (codes "constraint")).kind) ∷ []) action.Group
unfolding grammar_of sysml_table sysml_rules sysml.sign sysml.word signs words tables sysml_actions
one_calc_constraint_1 = record { n = 239; rule = (refl, refl) }

-- OneDefDefHeadBody = 'def' DefHead Body
pub one_def_def_head_body_0 : Rule Sysml symbol.one_def_def_head_body (Terminal (terminal (word Sysml (codes "def")).kind) ∷ Inner symbol.def_head ∷
    Inner (symbol.body Sysml) ∷ []) action.Group
unfolding grammar_of sysml_table sysml_rules sysml.sign sysml.word signs words tables sysml_actions
one_def_def_head_body_0 = record { n = 240; rule = (refl, refl) }

-- OneDefDefHeadBody = UseTail
pub one_def_def_head_body_1 : Rule Sysml symbol.one_def_def_head_body (Inner (symbol.use_tail Sysml) ∷ []) action.Group
unfolding grammar_of sysml_table sysml_rules sysml.sign sysml.word signs words tables sysml_actions
one_def_def_head_body_1 = record { n = 241; rule = (refl, refl) }

-- OneDefDefHeadEnumBody = 'def' DefHead EnumBody
pub one_def_def_head_enum_body_0 : Rule Sysml symbol.one_def_def_head_enum_body (Terminal (terminal (word Sysml (codes "def")).kind) ∷ Inner
    symbol.def_head ∷ Inner symbol.enum_body ∷ []) action.Group
unfolding grammar_of sysml_table sysml_rules sysml.sign sysml.word signs words tables sysml_actions
one_def_def_head_enum_body_0 = record { n = 242; rule = (refl, refl) }

-- OneDefDefHeadEnumBody = UseTail
pub one_def_def_head_enum_body_1 : Rule Sysml symbol.one_def_def_head_enum_body (Inner (symbol.use_tail Sysml) ∷ []) action.Group
unfolding grammar_of sysml_table sysml_rules sysml.sign sysml.word signs words tables sysml_actions
one_def_def_head_enum_body_1 = record { n = 243; rule = (refl, refl) }

-- OneDefDefHeadBody2 = 'def' DefHead Body
pub one_def_def_head_body2_0 : Rule Sysml symbol.one_def_def_head_body2 (Terminal (terminal (word Sysml (codes "def")).kind) ∷ Inner symbol.def_head ∷
    Inner (symbol.body Sysml) ∷ []) action.Group
unfolding grammar_of sysml_table sysml_rules sysml.sign sysml.word signs words tables sysml_actions
one_def_def_head_body2_0 = record { n = 244; rule = (refl, refl) }

-- OneDefDefHeadBody2 = ConTail
pub one_def_def_head_body2_1 : Rule Sysml symbol.one_def_def_head_body2 (Inner symbol.con_tail ∷ []) action.Group
unfolding grammar_of sysml_table sysml_rules sysml.sign sysml.word signs words tables sysml_actions
one_def_def_head_body2_1 = record { n = 245; rule = (refl, refl) }

-- OneDefDefHeadCalcBody = 'def' DefHead CalcBody
pub one_def_def_head_calc_body_0 : Rule Sysml symbol.one_def_def_head_calc_body (Terminal (terminal (word Sysml (codes "def")).kind) ∷ Inner
    symbol.def_head ∷ Inner symbol.calc_body ∷ []) action.Group
unfolding grammar_of sysml_table sysml_rules sysml.sign sysml.word signs words tables sysml_actions
one_def_def_head_calc_body_0 = record { n = 246; rule = (refl, refl) }

-- OneDefDefHeadCalcBody = CalcTail
pub one_def_def_head_calc_body_1 : Rule Sysml symbol.one_def_def_head_calc_body (Inner symbol.calc_tail ∷ []) action.Group
unfolding grammar_of sysml_table sysml_rules sysml.sign sysml.word signs words tables sysml_actions
one_def_def_head_calc_body_1 = record { n = 247; rule = (refl, refl) }

-- OneDefDefHeadReqBody = 'def' DefHead ReqBody
pub one_def_def_head_req_body_0 : Rule Sysml symbol.one_def_def_head_req_body (Terminal (terminal (word Sysml (codes "def")).kind) ∷ Inner
    symbol.def_head ∷ Inner symbol.req_body ∷ []) action.Group
unfolding grammar_of sysml_table sysml_rules sysml.sign sysml.word signs words tables sysml_actions
one_def_def_head_req_body_0 = record { n = 248; rule = (refl, refl) }

-- OneDefDefHeadReqBody = ReqTail
pub one_def_def_head_req_body_1 : Rule Sysml symbol.one_def_def_head_req_body (Inner symbol.req_tail ∷ []) action.Group
unfolding grammar_of sysml_table sysml_rules sysml.sign sysml.word signs words tables sysml_actions
one_def_def_head_req_body_1 = record { n = 249; rule = (refl, refl) }

-- MaybeConnectEnds = 'connect' Ends
pub maybe_connect_ends_0 : Rule Sysml symbol.maybe_connect_ends (Terminal (terminal (word Sysml (codes "connect")).kind) ∷ Inner symbol.ends ∷ [])
    action.Group
unfolding grammar_of sysml_table sysml_rules sysml.sign sysml.word signs words tables sysml_actions
maybe_connect_ends_0 = record { n = 250; rule = (refl, refl) }

-- MaybeConnectEnds = nothing
pub maybe_connect_ends_1 : Rule Sysml symbol.maybe_connect_ends ([]) action.Group
unfolding grammar_of sysml_table sysml_rules sysml.sign sysml.word signs words tables sysml_actions
maybe_connect_ends_1 = record { n = 251; rule = (refl, refl) }

-- ManyEnumItem = EnumItem ManyEnumItem
pub many_enum_item_0 : Rule Sysml symbol.many_enum_item (Inner symbol.enum_item ∷ Inner symbol.many_enum_item ∷ []) action.Group
unfolding grammar_of sysml_table sysml_rules sysml.sign sysml.word signs words tables sysml_actions
many_enum_item_0 = record { n = 252; rule = (refl, refl) }

-- ManyEnumItem = nothing
pub many_enum_item_1 : Rule Sysml symbol.many_enum_item ([]) action.Group
unfolding grammar_of sysml_table sysml_rules sysml.sign sysml.word signs words tables sysml_actions
many_enum_item_1 = record { n = 253; rule = (refl, refl) }

-- OneNoteEnumUseTail = Note
pub one_note_enum_use_tail_0 : Rule Sysml symbol.one_note_enum_use_tail (Inner (symbol.note Sysml) ∷ []) action.Group
unfolding grammar_of sysml_table sysml_rules sysml.sign sysml.word signs words tables sysml_actions
one_note_enum_use_tail_0 = record { n = 254; rule = (refl, refl) }

-- OneNoteEnumUseTail = 'enum' UseTail
pub one_note_enum_use_tail_1 : Rule Sysml symbol.one_note_enum_use_tail (Terminal (terminal (word Sysml (codes "enum")).kind) ∷ Inner (symbol.use_tail
    Sysml) ∷ []) (action.Element kind.Enumeration)
unfolding grammar_of sysml_table sysml_rules sysml.sign sysml.word signs words tables sysml_actions
one_note_enum_use_tail_1 = record { n = 255; rule = (refl, refl) }

-- OneNoteEnumUseTail = Plain
pub one_note_enum_use_tail_2 : Rule Sysml symbol.one_note_enum_use_tail (Inner (symbol.plain Sysml) ∷ []) (action.Element kind.Enumeration)
unfolding grammar_of sysml_table sysml_rules sysml.sign sysml.word signs words tables sysml_actions
one_note_enum_use_tail_2 = record { n = 256; rule = (refl, refl) }

-- ManyCalcItem = CalcItem ManyCalcItem
pub many_calc_item_0 : Rule Sysml symbol.many_calc_item (Inner symbol.calc_item ∷ Inner symbol.many_calc_item ∷ []) action.Group
unfolding grammar_of sysml_table sysml_rules sysml.sign sysml.word signs words tables sysml_actions
many_calc_item_0 = record { n = 257; rule = (refl, refl) }

-- ManyCalcItem = nothing
pub many_calc_item_1 : Rule Sysml symbol.many_calc_item ([]) action.Group
unfolding grammar_of sysml_table sysml_rules sysml.sign sysml.word signs words tables sysml_actions
many_calc_item_1 = record { n = 258; rule = (refl, refl) }

-- OneImportAliasNote = 'end' P1
pub one_import_alias_note_4 : Rule Sysml (symbol.one_import_alias_note Sysml) (Terminal (terminal (word Sysml (codes "end")).kind) ∷ Inner symbol.p1 ∷
    []) (action.Element kind.Reference)
unfolding grammar_of sysml_table sysml_rules sysml.sign sysml.word signs words tables sysml_actions
one_import_alias_note_4 = record { n = 265; rule = (refl, refl) }

-- OneImportAliasNote = Dir P2
pub one_import_alias_note_5 : Rule Sysml (symbol.one_import_alias_note Sysml) (Inner (symbol.dir Sysml) ∷ Inner symbol.p2 ∷ []) (action.Element
    kind.Reference)
unfolding grammar_of sysml_table sysml_rules sysml.sign sysml.word signs words tables sysml_actions
one_import_alias_note_5 = record { n = 266; rule = (refl, refl) }

-- OneImportAliasNote = 'derived' P3
pub one_import_alias_note_6 : Rule Sysml (symbol.one_import_alias_note Sysml) (Terminal (terminal (word Sysml (codes "derived")).kind) ∷ Inner
    symbol.p3 ∷ []) (action.Element kind.Reference)
unfolding grammar_of sysml_table sysml_rules sysml.sign sysml.word signs words tables sysml_actions
one_import_alias_note_6 = record { n = 267; rule = (refl, refl) }

-- OneImportAliasNote = 'abstract' Late
pub one_import_alias_note_7 : Rule Sysml (symbol.one_import_alias_note Sysml) (Terminal (terminal (word Sysml (codes "abstract")).kind) ∷ Inner
    symbol.late ∷ []) (action.Element kind.Reference)
unfolding grammar_of sysml_table sysml_rules sysml.sign sysml.word signs words tables sysml_actions
one_import_alias_note_7 = record { n = 268; rule = (refl, refl) }

-- OneImportAliasNote = 'constant' P5
pub one_import_alias_note_8 : Rule Sysml (symbol.one_import_alias_note Sysml) (Terminal (terminal (word Sysml (codes "constant")).kind) ∷ Inner
    symbol.p5 ∷ []) (action.Element kind.Reference)
unfolding grammar_of sysml_table sysml_rules sysml.sign sysml.word signs words tables sysml_actions
one_import_alias_note_8 = record { n = 269; rule = (refl, refl) }

-- OneImportAliasNote = 'ref' Usage
pub one_import_alias_note_9 : Rule Sysml (symbol.one_import_alias_note Sysml) (Terminal (terminal (word Sysml (codes "ref")).kind) ∷ Inner
    symbol.usage ∷ []) (action.Element kind.Reference)
unfolding grammar_of sysml_table sysml_rules sysml.sign sysml.word signs words tables sysml_actions
one_import_alias_note_9 = record { n = 270; rule = (refl, refl) }

-- OneImportAliasNote = DefUse
pub one_import_alias_note_10 : Rule Sysml (symbol.one_import_alias_note Sysml) (Inner symbol.def_use ∷ []) (action.Element kind.Reference)
unfolding grammar_of sysml_table sysml_rules sysml.sign sysml.word signs words tables sysml_actions
one_import_alias_note_10 = record { n = 271; rule = (refl, refl) }

-- OneImportAliasNote = NoName
pub one_import_alias_note_11 : Rule Sysml (symbol.one_import_alias_note Sysml) (Inner (symbol.no_name Sysml) ∷ []) (action.Element kind.Reference)
unfolding grammar_of sysml_table sysml_rules sysml.sign sysml.word signs words tables sysml_actions
one_import_alias_note_11 = record { n = 272; rule = (refl, refl) }

-- OneImportAliasNote = Connect
pub one_import_alias_note_12 : Rule Sysml (symbol.one_import_alias_note Sysml) (Inner symbol.connect ∷ []) (action.Element kind.Connection)
unfolding grammar_of sysml_table sysml_rules sysml.sign sysml.word signs words tables sysml_actions
one_import_alias_note_12 = record { n = 273; rule = (refl, refl) }

-- OneImportAliasNote = Bind
pub one_import_alias_note_13 : Rule Sysml (symbol.one_import_alias_note Sysml) (Inner symbol.bind ∷ []) (action.Element kind.Binding)
unfolding grammar_of sysml_table sysml_rules sysml.sign sysml.word signs words tables sysml_actions
one_import_alias_note_13 = record { n = 274; rule = (refl, refl) }

-- OneImportAliasNote = 'return' P5
pub one_import_alias_note_14 : Rule Sysml (symbol.one_import_alias_note Sysml) (Terminal (terminal (word Sysml (codes "return")).kind) ∷ Inner
    symbol.p5 ∷ []) (action.Element kind.Reference)
unfolding grammar_of sysml_table sysml_rules sysml.sign sysml.word signs words tables sysml_actions
one_import_alias_note_14 = record { n = 275; rule = (refl, refl) }

-- ManyReqItem = ReqItem ManyReqItem
pub many_req_item_0 : Rule Sysml symbol.many_req_item (Inner symbol.req_item ∷ Inner symbol.many_req_item ∷ []) action.Group
unfolding grammar_of sysml_table sysml_rules sysml.sign sysml.word signs words tables sysml_actions
many_req_item_0 = record { n = 276; rule = (refl, refl) }

-- ManyReqItem = nothing
pub many_req_item_1 : Rule Sysml symbol.many_req_item ([]) action.Group
unfolding grammar_of sysml_table sysml_rules sysml.sign sysml.word signs words tables sysml_actions
many_req_item_1 = record { n = 277; rule = (refl, refl) }

-- OneContentSubjectUseTail = Content
pub one_content_subject_use_tail_0 : Rule Sysml symbol.one_content_subject_use_tail (Inner (symbol.content Sysml) ∷ []) action.Group
unfolding grammar_of sysml_table sysml_rules sysml.sign sysml.word signs words tables sysml_actions
one_content_subject_use_tail_0 = record { n = 278; rule = (refl, refl) }

-- OneContentSubjectUseTail = 'subject' UseTail
pub one_content_subject_use_tail_1 : Rule Sysml symbol.one_content_subject_use_tail (Terminal (terminal (word Sysml (codes "subject")).kind) ∷ Inner
    (symbol.use_tail Sysml) ∷ []) (action.Element kind.Reference)
unfolding grammar_of sysml_table sysml_rules sysml.sign sysml.word signs words tables sysml_actions
one_content_subject_use_tail_1 = record { n = 279; rule = (refl, refl) }

-- OneContentSubjectUseTail = OneAssumeRequire ReqCon
pub one_content_subject_use_tail_2 : Rule Sysml symbol.one_content_subject_use_tail (Inner symbol.one_assume_require ∷ Inner symbol.req_con ∷ [])
    (action.Element kind.Constraint)
unfolding grammar_of sysml_table sysml_rules sysml.sign sysml.word signs words tables sysml_actions
one_content_subject_use_tail_2 = record { n = 280; rule = (refl, refl) }

-- OneAssumeRequire = 'assume'
pub one_assume_require_0 : Rule Sysml symbol.one_assume_require (Terminal (terminal (word Sysml (codes "assume")).kind) ∷ []) action.Group
unfolding grammar_of sysml_table sysml_rules sysml.sign sysml.word signs words tables sysml_actions
one_assume_require_0 = record { n = 281; rule = (refl, refl) }

-- OneAssumeRequire = 'require'
pub one_assume_require_1 : Rule Sysml symbol.one_assume_require (Terminal (terminal (word Sysml (codes "require")).kind) ∷ []) action.Group
unfolding grammar_of sysml_table sysml_rules sysml.sign sysml.word signs words tables sysml_actions
one_assume_require_1 = record { n = 282; rule = (refl, refl) }

-- ManyCommaEnd = ',' End ManyCommaEnd
pub many_comma_end_0 : Rule Sysml symbol.many_comma_end (Terminal (terminal (sign (codes ",")).kind) ∷ Inner symbol.end ∷ Inner symbol.many_comma_end
    ∷ []) action.Group
unfolding grammar_of sysml_table sysml_rules sysml.sign sysml.word signs words tables sysml_actions
many_comma_end_0 = record { n = 283; rule = (refl, refl) }

-- ManyCommaEnd = nothing
pub many_comma_end_1 : Rule Sysml symbol.many_comma_end ([]) action.Group
unfolding grammar_of sysml_table sysml_rules sysml.sign sysml.word signs words tables sysml_actions
many_comma_end_1 = record { n = 284; rule = (refl, refl) }

-- MaybeBracketBoundsBracket = '[' Bounds ']'
pub maybe_bracket_bounds_bracket_0 : Rule Sysml symbol.maybe_bracket_bounds_bracket (Terminal (terminal (sign (codes "[")).kind) ∷ Inner
    (symbol.bounds Sysml) ∷ Terminal (terminal (sign (codes "]")).kind) ∷ []) (action.Take taking.Bounds)
unfolding grammar_of sysml_table sysml_rules sysml.sign sysml.word signs words tables sysml_actions
maybe_bracket_bounds_bracket_0 = record { n = 285; rule = (refl, refl) }

-- MaybeBracketBoundsBracket = nothing
pub maybe_bracket_bounds_bracket_1 : Rule Sysml symbol.maybe_bracket_bounds_bracket ([]) action.Group
unfolding grammar_of sysml_table sysml_rules sysml.sign sysml.word signs words tables sysml_actions
maybe_bracket_bounds_bracket_1 = record { n = 286; rule = (refl, refl) }
