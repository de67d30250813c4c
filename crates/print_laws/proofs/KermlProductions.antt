-- Made by `tools/make_print_rules.py`: the productions that KerML alone has, by evaluation.
use Rattle.std.proofs.Common.{[], ◌∷◌, refl}
use Rattle.std.specs.Prelude.{codes}
use Rattle.element_store.specs.declared.kind.Kind.TheVariants as kind
use Rattle.element_store.specs.declared.outcome.Language.TheVariants.{Kerml}
use Rattle.token_core.specs.Terminals.{terminal}
use Rattle.token_core.specs.Words.{signs, words}
use Rattle.ll_core.specs.declared.grammar.Symbol.TheVariants.{Terminal, Inner}
use Rattle.kerml_grammar.specs.Terms as kerml
use Rattle.kerml_grammar.specs.Rules.{kerml_rules}
use Rattle.kerml_grammar.specs.Grammar.{kerml_table}
use Rattle.text_model.specs.declared.action.Action.TheVariants as action
use Rattle.text_model.specs.KermlActions.{kerml_actions}
use Rattle.text_model.specs.Languages.{grammar_of}
use Rattle.text_model.specs.Tables.{tables}
use Rattle.print_model.specs.Printed.{sign, word}
use Rattle.print_laws.proofs.Symbols as symbol
use Rattle.print_laws.proofs.Productions.{Rule}

-- TypedBy = 'typed' 'by'
pub typed_by_1 : Rule Kerml (symbol.typed_by Kerml) (Terminal (terminal (word Kerml (codes "typed")).kind) ∷ Terminal (terminal (word Kerml (codes
    "by")).kind) ∷ []) action.Group
unfolding grammar_of kerml_table kerml_rules kerml.sign kerml.word signs words tables kerml_actions
typed_by_1 = record { n = 68; rule = (refl, refl) }

-- Content = 'namespace' Ident Body
pub content_4 : Rule Kerml (symbol.content Kerml) (Terminal (terminal (word Kerml (codes "namespace")).kind) ∷ Inner (symbol.ident Kerml) ∷ Inner
    (symbol.body Kerml) ∷ []) (action.Element kind.Namespace)
unfolding grammar_of kerml_table kerml_rules kerml.sign kerml.word signs words tables kerml_actions
content_4 = record { n = 73; rule = (refl, refl) }

-- Content = Thing
pub content_5 : Rule Kerml (symbol.content Kerml) (Inner (symbol.thing Kerml) ∷ []) action.Group
unfolding grammar_of kerml_table kerml_rules kerml.sign kerml.word signs words tables kerml_actions
content_5 = record { n = 74; rule = (refl, refl) }

-- Thing = Dir K1
pub thing_0 : Rule Kerml (symbol.thing Kerml) (Inner (symbol.dir Kerml) ∷ Inner symbol.k1 ∷ []) (action.Element kind.Feature)
unfolding grammar_of kerml_table kerml_rules kerml.sign kerml.word signs words tables kerml_actions
thing_0 = record { n = 75; rule = (refl, refl) }

-- Thing = 'derived' K2
pub thing_1 : Rule Kerml (symbol.thing Kerml) (Terminal (terminal (word Kerml (codes "derived")).kind) ∷ Inner symbol.k2 ∷ []) (action.Element
    kind.Feature)
unfolding grammar_of kerml_table kerml_rules kerml.sign kerml.word signs words tables kerml_actions
thing_1 = record { n = 76; rule = (refl, refl) }

-- Thing = 'abstract' KLate
pub thing_2 : Rule Kerml (symbol.thing Kerml) (Terminal (terminal (word Kerml (codes "abstract")).kind) ∷ Inner symbol.klate ∷ []) (action.Element
    kind.Feature)
unfolding grammar_of kerml_table kerml_rules kerml.sign kerml.word signs words tables kerml_actions
thing_2 = record { n = 77; rule = (refl, refl) }

-- Thing = KLate
pub thing_3 : Rule Kerml (symbol.thing Kerml) (Inner symbol.klate ∷ []) (action.Element kind.Feature)
unfolding grammar_of kerml_table kerml_rules kerml.sign kerml.word signs words tables kerml_actions
thing_3 = record { n = 78; rule = (refl, refl) }

-- K1 = MaybeDerived K2
pub k1 : Rule Kerml symbol.k1 (Inner (symbol.maybe_derived Kerml) ∷ Inner symbol.k2 ∷ []) action.Group
unfolding grammar_of kerml_table kerml_rules kerml.sign kerml.word signs words tables kerml_actions
k1 = record { n = 79; rule = (refl, refl) }

-- K2 = MaybeAbstract K3
pub k2 : Rule Kerml symbol.k2 (Inner (symbol.maybe_abstract Kerml) ∷ Inner symbol.k3 ∷ []) action.Group
unfolding grammar_of kerml_table kerml_rules kerml.sign kerml.word signs words tables kerml_actions
k2 = record { n = 80; rule = (refl, refl) }

-- K3 = MaybeComposite K4
pub k3 : Rule Kerml symbol.k3 (Inner symbol.maybe_composite ∷ Inner symbol.k4 ∷ []) action.Group
unfolding grammar_of kerml_table kerml_rules kerml.sign kerml.word signs words tables kerml_actions
k3 = record { n = 81; rule = (refl, refl) }

-- K4 = MaybeConst K5
pub k4 : Rule Kerml symbol.k4 (Inner symbol.maybe_const ∷ Inner symbol.k5 ∷ []) action.Group
unfolding grammar_of kerml_table kerml_rules kerml.sign kerml.word signs words tables kerml_actions
k4 = record { n = 82; rule = (refl, refl) }

-- K5 = MaybeEnd Feat
pub k5 : Rule Kerml symbol.k5 (Inner symbol.maybe_end ∷ Inner symbol.feat ∷ []) action.Group
unfolding grammar_of kerml_table kerml_rules kerml.sign kerml.word signs words tables kerml_actions
k5 = record { n = 83; rule = (refl, refl) }

-- KLate = 'composite' K4
pub klate_0 : Rule Kerml symbol.klate (Terminal (terminal (word Kerml (codes "composite")).kind) ∷ Inner symbol.k4 ∷ []) action.Group
unfolding grammar_of kerml_table kerml_rules kerml.sign kerml.word signs words tables kerml_actions
klate_0 = record { n = 84; rule = (refl, refl) }

-- KLate = 'const' K5
pub klate_1 : Rule Kerml symbol.klate (Terminal (terminal (word Kerml (codes "const")).kind) ∷ Inner symbol.k5 ∷ []) action.Group
unfolding grammar_of kerml_table kerml_rules kerml.sign kerml.word signs words tables kerml_actions
klate_1 = record { n = 85; rule = (refl, refl) }

-- KLate = 'end' Feat
pub klate_2 : Rule Kerml symbol.klate (Terminal (terminal (word Kerml (codes "end")).kind) ∷ Inner symbol.feat ∷ []) action.Group
unfolding grammar_of kerml_table kerml_rules kerml.sign kerml.word signs words tables kerml_actions
klate_2 = record { n = 86; rule = (refl, refl) }

-- KLate = TypeDecl
pub klate_3 : Rule Kerml symbol.klate (Inner symbol.type_decl ∷ []) action.Group
unfolding grammar_of kerml_table kerml_rules kerml.sign kerml.word signs words tables kerml_actions
klate_3 = record { n = 87; rule = (refl, refl) }

-- KLate = Feat
pub klate_4 : Rule Kerml symbol.klate (Inner symbol.feat ∷ []) action.Group
unfolding grammar_of kerml_table kerml_rules kerml.sign kerml.word signs words tables kerml_actions
klate_4 = record { n = 88; rule = (refl, refl) }

-- TypeDecl = TypeWord Ident Sub Body
pub type_decl_0 : Rule Kerml symbol.type_decl (Inner symbol.type_word ∷ Inner (symbol.ident Kerml) ∷ Inner (symbol.sub Kerml) ∷ Inner (symbol.body
    Kerml) ∷ []) action.Group
unfolding grammar_of kerml_table kerml_rules kerml.sign kerml.word signs words tables kerml_actions
type_decl_0 = record { n = 89; rule = (refl, refl) }

-- TypeDecl = 'function' Ident Sub FunBody
pub type_decl_1 : Rule Kerml symbol.type_decl (Terminal (terminal (word Kerml (codes "function")).kind) ∷ Inner (symbol.ident Kerml) ∷ Inner
    (symbol.sub Kerml) ∷ Inner symbol.fun_body ∷ []) action.Group
unfolding grammar_of kerml_table kerml_rules kerml.sign kerml.word signs words tables kerml_actions
type_decl_1 = record { n = 90; rule = (refl, refl) }

-- TypeWord = 'type'
pub type_word_0 : Rule Kerml symbol.type_word (Terminal (terminal (word Kerml (codes "type")).kind) ∷ []) action.Group
unfolding grammar_of kerml_table kerml_rules kerml.sign kerml.word signs words tables kerml_actions
type_word_0 = record { n = 91; rule = (refl, refl) }

-- TypeWord = 'classifier'
pub type_word_1 : Rule Kerml symbol.type_word (Terminal (terminal (word Kerml (codes "classifier")).kind) ∷ []) action.Group
unfolding grammar_of kerml_table kerml_rules kerml.sign kerml.word signs words tables kerml_actions
type_word_1 = record { n = 92; rule = (refl, refl) }

-- TypeWord = 'class'
pub type_word_2 : Rule Kerml symbol.type_word (Terminal (terminal (word Kerml (codes "class")).kind) ∷ []) action.Group
unfolding grammar_of kerml_table kerml_rules kerml.sign kerml.word signs words tables kerml_actions
type_word_2 = record { n = 93; rule = (refl, refl) }

-- TypeWord = 'struct'
pub type_word_3 : Rule Kerml symbol.type_word (Terminal (terminal (word Kerml (codes "struct")).kind) ∷ []) action.Group
unfolding grammar_of kerml_table kerml_rules kerml.sign kerml.word signs words tables kerml_actions
type_word_3 = record { n = 94; rule = (refl, refl) }

-- TypeWord = 'datatype'
pub type_word_4 : Rule Kerml symbol.type_word (Terminal (terminal (word Kerml (codes "datatype")).kind) ∷ []) action.Group
unfolding grammar_of kerml_table kerml_rules kerml.sign kerml.word signs words tables kerml_actions
type_word_4 = record { n = 95; rule = (refl, refl) }

-- TypeWord = 'assoc'
pub type_word_5 : Rule Kerml symbol.type_word (Terminal (terminal (word Kerml (codes "assoc")).kind) ∷ []) action.Group
unfolding grammar_of kerml_table kerml_rules kerml.sign kerml.word signs words tables kerml_actions
type_word_5 = record { n = 96; rule = (refl, refl) }

-- TypeWord = 'behavior'
pub type_word_6 : Rule Kerml symbol.type_word (Terminal (terminal (word Kerml (codes "behavior")).kind) ∷ []) action.Group
unfolding grammar_of kerml_table kerml_rules kerml.sign kerml.word signs words tables kerml_actions
type_word_6 = record { n = 97; rule = (refl, refl) }

-- Feat = 'feature' UseTail
pub feat_0 : Rule Kerml symbol.feat (Terminal (terminal (word Kerml (codes "feature")).kind) ∷ Inner (symbol.use_tail Kerml) ∷ []) action.Group
unfolding grammar_of kerml_table kerml_rules kerml.sign kerml.word signs words tables kerml_actions
feat_0 = record { n = 98; rule = (refl, refl) }

-- Feat = 'step' UseTail
pub feat_1 : Rule Kerml symbol.feat (Terminal (terminal (word Kerml (codes "step")).kind) ∷ Inner (symbol.use_tail Kerml) ∷ []) action.Group
unfolding grammar_of kerml_table kerml_rules kerml.sign kerml.word signs words tables kerml_actions
feat_1 = record { n = 99; rule = (refl, refl) }

-- Feat = Plain
pub feat_2 : Rule Kerml symbol.feat (Inner (symbol.plain Kerml) ∷ []) action.Group
unfolding grammar_of kerml_table kerml_rules kerml.sign kerml.word signs words tables kerml_actions
feat_2 = record { n = 100; rule = (refl, refl) }

-- FunBody = ';'
pub fun_body_0 : Rule Kerml symbol.fun_body (Terminal (terminal (sign (codes ";")).kind) ∷ []) action.Group
unfolding grammar_of kerml_table kerml_rules kerml.sign kerml.word signs words tables kerml_actions
fun_body_0 = record { n = 101; rule = (refl, refl) }

-- FunBody = '{' ManyFunItem MaybeExpr '}'
pub fun_body_1 : Rule Kerml symbol.fun_body (Terminal (terminal (sign (codes "{")).kind) ∷ Inner symbol.many_fun_item ∷ Inner (symbol.maybe_expr
    Kerml) ∷ Terminal (terminal (sign (codes "}")).kind) ∷ []) action.Group
unfolding grammar_of kerml_table kerml_rules kerml.sign kerml.word signs words tables kerml_actions
fun_body_1 = record { n = 102; rule = (refl, refl) }

-- FunItem = MaybeVis OneImportAliasNote
pub fun_item : Rule Kerml symbol.fun_item (Inner (symbol.maybe_vis Kerml) ∷ Inner (symbol.one_import_alias_note Kerml) ∷ []) action.Group
unfolding grammar_of kerml_table kerml_rules kerml.sign kerml.word signs words tables kerml_actions
fun_item = record { n = 103; rule = (refl, refl) }

-- MaybeComposite = 'composite'
pub maybe_composite_0 : Rule Kerml symbol.maybe_composite (Terminal (terminal (word Kerml (codes "composite")).kind) ∷ []) action.Group
unfolding grammar_of kerml_table kerml_rules kerml.sign kerml.word signs words tables kerml_actions
maybe_composite_0 = record { n = 202; rule = (refl, refl) }

-- MaybeComposite = nothing
pub maybe_composite_1 : Rule Kerml symbol.maybe_composite ([]) action.Group
unfolding grammar_of kerml_table kerml_rules kerml.sign kerml.word signs words tables kerml_actions
maybe_composite_1 = record { n = 203; rule = (refl, refl) }

-- MaybeConst = 'const'
pub maybe_const_0 : Rule Kerml symbol.maybe_const (Terminal (terminal (word Kerml (codes "const")).kind) ∷ []) action.Group
unfolding grammar_of kerml_table kerml_rules kerml.sign kerml.word signs words tables kerml_actions
maybe_const_0 = record { n = 204; rule = (refl, refl) }

-- MaybeConst = nothing
pub maybe_const_1 : Rule Kerml symbol.maybe_const ([]) action.Group
unfolding grammar_of kerml_table kerml_rules kerml.sign kerml.word signs words tables kerml_actions
maybe_const_1 = record { n = 205; rule = (refl, refl) }

-- MaybeEnd = 'end'
pub maybe_end_0 : Rule Kerml symbol.maybe_end (Terminal (terminal (word Kerml (codes "end")).kind) ∷ []) action.Group
unfolding grammar_of kerml_table kerml_rules kerml.sign kerml.word signs words tables kerml_actions
maybe_end_0 = record { n = 206; rule = (refl, refl) }

-- MaybeEnd = nothing
pub maybe_end_1 : Rule Kerml symbol.maybe_end ([]) action.Group
unfolding grammar_of kerml_table kerml_rules kerml.sign kerml.word signs words tables kerml_actions
maybe_end_1 = record { n = 207; rule = (refl, refl) }

-- ManyFunItem = FunItem ManyFunItem
pub many_fun_item_0 : Rule Kerml symbol.many_fun_item (Inner symbol.fun_item ∷ Inner symbol.many_fun_item ∷ []) action.Group
unfolding grammar_of kerml_table kerml_rules kerml.sign kerml.word signs words tables kerml_actions
many_fun_item_0 = record { n = 208; rule = (refl, refl) }

-- ManyFunItem = nothing
pub many_fun_item_1 : Rule Kerml symbol.many_fun_item ([]) action.Group
unfolding grammar_of kerml_table kerml_rules kerml.sign kerml.word signs words tables kerml_actions
many_fun_item_1 = record { n = 209; rule = (refl, refl) }

-- OneImportAliasNote = 'namespace' Ident Body
pub one_import_alias_note_4 : Rule Kerml (symbol.one_import_alias_note Kerml) (Terminal (terminal (word Kerml (codes "namespace")).kind) ∷ Inner
    (symbol.ident Kerml) ∷ Inner (symbol.body Kerml) ∷ []) (action.Element kind.Namespace)
unfolding grammar_of kerml_table kerml_rules kerml.sign kerml.word signs words tables kerml_actions
one_import_alias_note_4 = record { n = 216; rule = (refl, refl) }

-- OneImportAliasNote = Dir K1
pub one_import_alias_note_5 : Rule Kerml (symbol.one_import_alias_note Kerml) (Inner (symbol.dir Kerml) ∷ Inner symbol.k1 ∷ []) (action.Element
    kind.Feature)
unfolding grammar_of kerml_table kerml_rules kerml.sign kerml.word signs words tables kerml_actions
one_import_alias_note_5 = record { n = 217; rule = (refl, refl) }

-- OneImportAliasNote = 'derived' K2
pub one_import_alias_note_6 : Rule Kerml (symbol.one_import_alias_note Kerml) (Terminal (terminal (word Kerml (codes "derived")).kind) ∷ Inner
    symbol.k2 ∷ []) (action.Element kind.Feature)
unfolding grammar_of kerml_table kerml_rules kerml.sign kerml.word signs words tables kerml_actions
one_import_alias_note_6 = record { n = 218; rule = (refl, refl) }

-- OneImportAliasNote = 'abstract' KLate
pub one_import_alias_note_7 : Rule Kerml (symbol.one_import_alias_note Kerml) (Terminal (terminal (word Kerml (codes "abstract")).kind) ∷ Inner
    symbol.klate ∷ []) (action.Element kind.Feature)
unfolding grammar_of kerml_table kerml_rules kerml.sign kerml.word signs words tables kerml_actions
one_import_alias_note_7 = record { n = 219; rule = (refl, refl) }

-- OneImportAliasNote = 'composite' K4
pub one_import_alias_note_8 : Rule Kerml (symbol.one_import_alias_note Kerml) (Terminal (terminal (word Kerml (codes "composite")).kind) ∷ Inner
    symbol.k4 ∷ []) (action.Element kind.Feature)
unfolding grammar_of kerml_table kerml_rules kerml.sign kerml.word signs words tables kerml_actions
one_import_alias_note_8 = record { n = 220; rule = (refl, refl) }

-- OneImportAliasNote = 'const' K5
pub one_import_alias_note_9 : Rule Kerml (symbol.one_import_alias_note Kerml) (Terminal (terminal (word Kerml (codes "const")).kind) ∷ Inner symbol.k5
    ∷ []) (action.Element kind.Feature)
unfolding grammar_of kerml_table kerml_rules kerml.sign kerml.word signs words tables kerml_actions
one_import_alias_note_9 = record { n = 221; rule = (refl, refl) }

-- OneImportAliasNote = 'end' Feat
pub one_import_alias_note_10 : Rule Kerml (symbol.one_import_alias_note Kerml) (Terminal (terminal (word Kerml (codes "end")).kind) ∷ Inner
    symbol.feat ∷ []) (action.Element kind.Feature)
unfolding grammar_of kerml_table kerml_rules kerml.sign kerml.word signs words tables kerml_actions
one_import_alias_note_10 = record { n = 222; rule = (refl, refl) }

-- OneImportAliasNote = TypeDecl
pub one_import_alias_note_11 : Rule Kerml (symbol.one_import_alias_note Kerml) (Inner symbol.type_decl ∷ []) (action.Element kind.Feature)
unfolding grammar_of kerml_table kerml_rules kerml.sign kerml.word signs words tables kerml_actions
one_import_alias_note_11 = record { n = 223; rule = (refl, refl) }

-- OneImportAliasNote = 'feature' UseTail
pub one_import_alias_note_12 : Rule Kerml (symbol.one_import_alias_note Kerml) (Terminal (terminal (word Kerml (codes "feature")).kind) ∷ Inner
    (symbol.use_tail Kerml) ∷ []) (action.Element kind.Feature)
unfolding grammar_of kerml_table kerml_rules kerml.sign kerml.word signs words tables kerml_actions
one_import_alias_note_12 = record { n = 224; rule = (refl, refl) }

-- OneImportAliasNote = 'step' UseTail
pub one_import_alias_note_13 : Rule Kerml (symbol.one_import_alias_note Kerml) (Terminal (terminal (word Kerml (codes "step")).kind) ∷ Inner
    (symbol.use_tail Kerml) ∷ []) (action.Element kind.Feature)
unfolding grammar_of kerml_table kerml_rules kerml.sign kerml.word signs words tables kerml_actions
one_import_alias_note_13 = record { n = 225; rule = (refl, refl) }

-- OneImportAliasNote = NoName
pub one_import_alias_note_14 : Rule Kerml (symbol.one_import_alias_note Kerml) (Inner (symbol.no_name Kerml) ∷ []) (action.Element kind.Feature)
unfolding grammar_of kerml_table kerml_rules kerml.sign kerml.word signs words tables kerml_actions
one_import_alias_note_14 = record { n = 226; rule = (refl, refl) }

-- OneImportAliasNote = 'return' Feat
pub one_import_alias_note_15 : Rule Kerml (symbol.one_import_alias_note Kerml) (Terminal (terminal (word Kerml (codes "return")).kind) ∷ Inner
    symbol.feat ∷ []) (action.Element kind.Feature)
unfolding grammar_of kerml_table kerml_rules kerml.sign kerml.word signs words tables kerml_actions
one_import_alias_note_15 = record { n = 227; rule = (refl, refl) }
