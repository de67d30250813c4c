-- Made by `tools/make_print_rules.py`: the productions that both languages have, by evaluation.
use Rattle.std.proofs.Common.{ℕ, List, [], ◌∷◌, refl}
use Rattle.std.specs.Prelude.{codes}
use Rattle.element_store.specs.declared.kind.Kind.TheVariants as kind
use Rattle.element_store.specs.declared.outcome.Language.{Language}
use Rattle.element_store.specs.declared.outcome.Language.TheVariants.{Kerml, Sysml}
use Rattle.token_core.specs.Terminals.{terminal}
use Rattle.token_core.specs.Words.{signs, words}
use Rattle.ll_core.specs.declared.grammar.Symbol.{Symbol}
use Rattle.ll_core.specs.declared.grammar.Symbol.TheVariants.{Terminal, Inner}
use Rattle.kerml_grammar.specs.Terms as kerml
use Rattle.kerml_grammar.specs.Rules.{kerml_rules}
use Rattle.kerml_grammar.specs.Grammar.{kerml_table}
use Rattle.sysml_grammar.specs.Terms as sysml
use Rattle.sysml_grammar.specs.Rules.{sysml_rules}
use Rattle.sysml_grammar.specs.Grammar.{sysml_table}
use Rattle.text_model.specs.declared.action.Action.{Action}
use Rattle.text_model.specs.declared.action.Action.TheVariants as action
use Rattle.text_model.specs.declared.action.Taking.TheVariants as taking
use Rattle.text_model.specs.KermlActions.{kerml_actions}
use Rattle.text_model.specs.SysmlActions.{sysml_actions}
use Rattle.text_model.specs.Languages.{grammar_of}
use Rattle.text_model.specs.Tables.{tables}
use Rattle.print_model.specs.Printed.{sign, word}
use Rattle.print_model.proofs.Readings.{IsRule}
use Rattle.print_laws.proofs.Symbols as symbol

-- a production of a symbol: its right side and its action, whatever its number
pub record Rule (l : Language) (s : ℕ) (rs : List Symbol) (a : Action) : Type 0 where
  pub n : ℕ
  pub rule : IsRule l n s rs a

-- File = ManyMember
pub file : (l : Language) → Rule l (symbol.file l) (Inner (symbol.many_member l) ∷ []) action.Group
unfolding grammar_of kerml_table kerml_rules kerml.sign kerml.word sysml_table sysml_rules sysml.sign sysml.word signs words tables kerml_actions sysml_actions
file Kerml = record { n = 0; rule = (refl, refl) }
file Sysml = record { n = 0; rule = (refl, refl) }

-- Member = MaybeVis Content
pub member : (l : Language) → Rule l (symbol.member l) (Inner (symbol.maybe_vis l) ∷ Inner (symbol.content l) ∷ []) action.Group
unfolding grammar_of kerml_table kerml_rules kerml.sign kerml.word sysml_table sysml_rules sysml.sign sysml.word signs words tables kerml_actions sysml_actions
member Kerml = record { n = 1; rule = (refl, refl) }
member Sysml = record { n = 1; rule = (refl, refl) }

-- Vis = 'public'
pub vis_0 : (l : Language) → Rule l (symbol.vis l) (Terminal (terminal (word l (codes "public")).kind) ∷ []) action.Group
unfolding grammar_of kerml_table kerml_rules kerml.sign kerml.word sysml_table sysml_rules sysml.sign sysml.word signs words tables kerml_actions sysml_actions
vis_0 Kerml = record { n = 2; rule = (refl, refl) }
vis_0 Sysml = record { n = 2; rule = (refl, refl) }

-- Vis = 'protected'
pub vis_1 : (l : Language) → Rule l (symbol.vis l) (Terminal (terminal (word l (codes "protected")).kind) ∷ []) action.Group
unfolding grammar_of kerml_table kerml_rules kerml.sign kerml.word sysml_table sysml_rules sysml.sign sysml.word signs words tables kerml_actions sysml_actions
vis_1 Kerml = record { n = 3; rule = (refl, refl) }
vis_1 Sysml = record { n = 3; rule = (refl, refl) }

-- Vis = 'private'
pub vis_2 : (l : Language) → Rule l (symbol.vis l) (Terminal (terminal (word l (codes "private")).kind) ∷ []) action.Group
unfolding grammar_of kerml_table kerml_rules kerml.sign kerml.word sysml_table sysml_rules sysml.sign sysml.word signs words tables kerml_actions sysml_actions
vis_2 Kerml = record { n = 4; rule = (refl, refl) }
vis_2 Sysml = record { n = 4; rule = (refl, refl) }

-- Import = 'import' MaybeAll MaybeDollarColonColon NAME ImpRest ';'
pub import : (l : Language) → Rule l (symbol.import l) (Terminal (terminal (word l (codes "import")).kind) ∷ Inner (symbol.maybe_all l) ∷ Inner
    (symbol.maybe_dollar_colon_colon l) ∷ Terminal 0 ∷ Inner (symbol.imp_rest l) ∷ Terminal (terminal (sign (codes ";")).kind) ∷ []) (action.Take
    taking.Import)
unfolding grammar_of kerml_table kerml_rules kerml.sign kerml.word sysml_table sysml_rules sysml.sign sysml.word signs words tables kerml_actions sysml_actions
import Kerml = record { n = 5; rule = (refl, refl) }
import Sysml = record { n = 5; rule = (refl, refl) }

-- ImpRest = MaybeColonColonImpNext
pub imp_rest : (l : Language) → Rule l (symbol.imp_rest l) (Inner (symbol.maybe_colon_colon_imp_next l) ∷ []) action.Group
unfolding grammar_of kerml_table kerml_rules kerml.sign kerml.word sysml_table sysml_rules sysml.sign sysml.word signs words tables kerml_actions sysml_actions
imp_rest Kerml = record { n = 6; rule = (refl, refl) }
imp_rest Sysml = record { n = 6; rule = (refl, refl) }

-- ImpNext = NAME ImpRest
pub imp_next_0 : (l : Language) → Rule l (symbol.imp_next l) (Terminal 0 ∷ Inner (symbol.imp_rest l) ∷ []) action.Segment
unfolding grammar_of kerml_table kerml_rules kerml.sign kerml.word sysml_table sysml_rules sysml.sign sysml.word signs words tables kerml_actions sysml_actions
imp_next_0 Kerml = record { n = 7; rule = (refl, refl) }
imp_next_0 Sysml = record { n = 7; rule = (refl, refl) }

-- ImpNext = '*' MaybeColonColonStarStar
pub imp_next_1 : (l : Language) → Rule l (symbol.imp_next l) (Terminal (terminal (sign (codes "*")).kind) ∷ Inner (symbol.maybe_colon_colon_star_star
    l) ∷ []) action.Star
unfolding grammar_of kerml_table kerml_rules kerml.sign kerml.word sysml_table sysml_rules sysml.sign sysml.word signs words tables kerml_actions sysml_actions
imp_next_1 Kerml = record { n = 8; rule = (refl, refl) }
imp_next_1 Sysml = record { n = 8; rule = (refl, refl) }

-- ImpNext = '**'
pub imp_next_2 : (l : Language) → Rule l (symbol.imp_next l) (Terminal (terminal (sign (codes "**")).kind) ∷ []) action.Group
unfolding grammar_of kerml_table kerml_rules kerml.sign kerml.word sysml_table sysml_rules sysml.sign sysml.word signs words tables kerml_actions sysml_actions
imp_next_2 Kerml = record { n = 9; rule = (refl, refl) }
imp_next_2 Sysml = record { n = 9; rule = (refl, refl) }

-- Alias = 'alias' Ident 'for' QName ';'
pub alias : (l : Language) → Rule l (symbol.alias l) (Terminal (terminal (word l (codes "alias")).kind) ∷ Inner (symbol.ident l) ∷ Terminal (terminal
    (word l (codes "for")).kind) ∷ Inner (symbol.qname l) ∷ Terminal (terminal (sign (codes ";")).kind) ∷ []) (action.Take taking.Alias)
unfolding grammar_of kerml_table kerml_rules kerml.sign kerml.word sysml_table sysml_rules sysml.sign sysml.word signs words tables kerml_actions sysml_actions
alias Kerml = record { n = 10; rule = (refl, refl) }
alias Sysml = record { n = 10; rule = (refl, refl) }

-- Ident = MaybeLessNameGreater MaybeName
pub ident : (l : Language) → Rule l (symbol.ident l) (Inner (symbol.maybe_less_name_greater l) ∷ Inner (symbol.maybe_name l) ∷ []) action.Group
unfolding grammar_of kerml_table kerml_rules kerml.sign kerml.word sysml_table sysml_rules sysml.sign sysml.word signs words tables kerml_actions sysml_actions
ident Kerml = record { n = 11; rule = (refl, refl) }
ident Sysml = record { n = 11; rule = (refl, refl) }

-- Note = 'doc' Ident Locale COMMENT
pub note_0 : (l : Language) → Rule l (symbol.note l) (Terminal (terminal (word l (codes "doc")).kind) ∷ Inner (symbol.ident l) ∷ Inner (symbol.locale
    l) ∷ Terminal 3 ∷ []) (action.Element kind.Documentation)
unfolding grammar_of kerml_table kerml_rules kerml.sign kerml.word sysml_table sysml_rules sysml.sign sysml.word signs words tables kerml_actions sysml_actions
note_0 Kerml = record { n = 12; rule = (refl, refl) }
note_0 Sysml = record { n = 12; rule = (refl, refl) }

-- Note = 'comment' Ident MaybeAboutQNameComma Locale COMMENT
pub note_1 : (l : Language) → Rule l (symbol.note l) (Terminal (terminal (word l (codes "comment")).kind) ∷ Inner (symbol.ident l) ∷ Inner
    (symbol.maybe_about_qname_comma l) ∷ Inner (symbol.locale l) ∷ Terminal 3 ∷ []) (action.Element kind.Comment)
unfolding grammar_of kerml_table kerml_rules kerml.sign kerml.word sysml_table sysml_rules sysml.sign sysml.word signs words tables kerml_actions sysml_actions
note_1 Kerml = record { n = 13; rule = (refl, refl) }
note_1 Sysml = record { n = 13; rule = (refl, refl) }

-- Note = 'locale' STRING COMMENT
pub note_2 : (l : Language) → Rule l (symbol.note l) (Terminal (terminal (word l (codes "locale")).kind) ∷ Terminal 2 ∷ Terminal 3 ∷ [])
    (action.Element kind.Comment)
unfolding grammar_of kerml_table kerml_rules kerml.sign kerml.word sysml_table sysml_rules sysml.sign sysml.word signs words tables kerml_actions sysml_actions
note_2 Kerml = record { n = 14; rule = (refl, refl) }
note_2 Sysml = record { n = 14; rule = (refl, refl) }

-- Note = COMMENT
pub note_3 : (l : Language) → Rule l (symbol.note l) (Terminal 3 ∷ []) (action.Element kind.Comment)
unfolding grammar_of kerml_table kerml_rules kerml.sign kerml.word sysml_table sysml_rules sysml.sign sysml.word signs words tables kerml_actions sysml_actions
note_3 Kerml = record { n = 15; rule = (refl, refl) }
note_3 Sysml = record { n = 15; rule = (refl, refl) }

-- Locale = MaybeLocaleString
pub locale : (l : Language) → Rule l (symbol.locale l) (Inner (symbol.maybe_locale_string l) ∷ []) action.Group
unfolding grammar_of kerml_table kerml_rules kerml.sign kerml.word sysml_table sysml_rules sysml.sign sysml.word signs words tables kerml_actions sysml_actions
locale Kerml = record { n = 16; rule = (refl, refl) }
locale Sysml = record { n = 16; rule = (refl, refl) }

-- Pack = MaybeStandard 'library' 'package' Ident Body
pub pack_0 : (l : Language) → Rule l (symbol.pack l) (Inner (symbol.maybe_standard l) ∷ Terminal (terminal (word l (codes "library")).kind) ∷ Terminal
    (terminal (word l (codes "package")).kind) ∷ Inner (symbol.ident l) ∷ Inner (symbol.body l) ∷ []) (action.Element kind.Package)
unfolding grammar_of kerml_table kerml_rules kerml.sign kerml.word sysml_table sysml_rules sysml.sign sysml.word signs words tables kerml_actions sysml_actions
pack_0 Kerml = record { n = 17; rule = (refl, refl) }
pack_0 Sysml = record { n = 17; rule = (refl, refl) }

-- Pack = 'package' Ident Body
pub pack_1 : (l : Language) → Rule l (symbol.pack l) (Terminal (terminal (word l (codes "package")).kind) ∷ Inner (symbol.ident l) ∷ Inner
    (symbol.body l) ∷ []) (action.Element kind.Package)
unfolding grammar_of kerml_table kerml_rules kerml.sign kerml.word sysml_table sysml_rules sysml.sign sysml.word signs words tables kerml_actions sysml_actions
pack_1 Kerml = record { n = 18; rule = (refl, refl) }
pack_1 Sysml = record { n = 18; rule = (refl, refl) }

-- Body = ';'
pub body_0 : (l : Language) → Rule l (symbol.body l) (Terminal (terminal (sign (codes ";")).kind) ∷ []) action.Group
unfolding grammar_of kerml_table kerml_rules kerml.sign kerml.word sysml_table sysml_rules sysml.sign sysml.word signs words tables kerml_actions sysml_actions
body_0 Kerml = record { n = 19; rule = (refl, refl) }
body_0 Sysml = record { n = 19; rule = (refl, refl) }

-- Body = '{' ManyMember '}'
pub body_1 : (l : Language) → Rule l (symbol.body l) (Terminal (terminal (sign (codes "{")).kind) ∷ Inner (symbol.many_member l) ∷ Terminal (terminal
    (sign (codes "}")).kind) ∷ []) action.Group
unfolding grammar_of kerml_table kerml_rules kerml.sign kerml.word sysml_table sysml_rules sysml.sign sysml.word signs words tables kerml_actions sysml_actions
body_1 Kerml = record { n = 20; rule = (refl, refl) }
body_1 Sysml = record { n = 20; rule = (refl, refl) }

-- Dir = 'in'
pub dir_0 : (l : Language) → Rule l (symbol.dir l) (Terminal (terminal (word l (codes "in")).kind) ∷ []) action.Group
unfolding grammar_of kerml_table kerml_rules kerml.sign kerml.word sysml_table sysml_rules sysml.sign sysml.word signs words tables kerml_actions sysml_actions
dir_0 Kerml = record { n = 23; rule = (refl, refl) }
dir_0 Sysml = record { n = 23; rule = (refl, refl) }

-- Dir = 'out'
pub dir_1 : (l : Language) → Rule l (symbol.dir l) (Terminal (terminal (word l (codes "out")).kind) ∷ []) action.Group
unfolding grammar_of kerml_table kerml_rules kerml.sign kerml.word sysml_table sysml_rules sysml.sign sysml.word signs words tables kerml_actions sysml_actions
dir_1 Kerml = record { n = 24; rule = (refl, refl) }
dir_1 Sysml = record { n = 24; rule = (refl, refl) }

-- Dir = 'inout'
pub dir_2 : (l : Language) → Rule l (symbol.dir l) (Terminal (terminal (word l (codes "inout")).kind) ∷ []) action.Group
unfolding grammar_of kerml_table kerml_rules kerml.sign kerml.word sysml_table sysml_rules sysml.sign sysml.word signs words tables kerml_actions sysml_actions
dir_2 Kerml = record { n = 25; rule = (refl, refl) }
dir_2 Sysml = record { n = 25; rule = (refl, refl) }

-- Sub = MaybeColonGreaterQNameComma
pub sub : (l : Language) → Rule l (symbol.sub l) (Inner (symbol.maybe_colon_greater_qname_comma l) ∷ []) action.Group
unfolding grammar_of kerml_table kerml_rules kerml.sign kerml.word sysml_table sysml_rules sysml.sign sysml.word signs words tables kerml_actions sysml_actions
sub Kerml = record { n = 26; rule = (refl, refl) }
sub Sysml = record { n = 26; rule = (refl, refl) }

-- SpecPart = ManySpec MaybeMultSpec
pub spec_part : (l : Language) → Rule l (symbol.spec_part l) (Inner (symbol.many_spec l) ∷ Inner (symbol.maybe_mult_spec l) ∷ []) action.Group
unfolding grammar_of kerml_table kerml_rules kerml.sign kerml.word sysml_table sysml_rules sysml.sign sysml.word signs words tables kerml_actions sysml_actions
spec_part Kerml = record { n = 27; rule = (refl, refl) }
spec_part Sysml = record { n = 27; rule = (refl, refl) }

-- Spec = TypedBy QName ManyCommaQName
pub spec_0 : (l : Language) → Rule l (symbol.spec l) (Inner (symbol.typed_by l) ∷ Inner (symbol.qname l) ∷ Inner (symbol.many_comma_qname l) ∷ [])
    (action.Take taking.Typing)
unfolding grammar_of kerml_table kerml_rules kerml.sign kerml.word sysml_table sysml_rules sysml.sign sysml.word signs words tables kerml_actions sysml_actions
spec_0 Kerml = record { n = 28; rule = (refl, refl) }
spec_0 Sysml = record { n = 28; rule = (refl, refl) }

-- Spec = OneColonGreaterSubsets Chain ManyCommaChain
pub spec_1 : (l : Language) → Rule l (symbol.spec l) (Inner (symbol.one_colon_greater_subsets l) ∷ Inner (symbol.chain l) ∷ Inner
    (symbol.many_comma_chain l) ∷ []) (action.Take taking.Subsetting)
unfolding grammar_of kerml_table kerml_rules kerml.sign kerml.word sysml_table sysml_rules sysml.sign sysml.word signs words tables kerml_actions sysml_actions
spec_1 Kerml = record { n = 29; rule = (refl, refl) }
spec_1 Sysml = record { n = 29; rule = (refl, refl) }

-- Spec = OneColonGreaterGreaterRedefines QName ManyCommaQName
pub spec_2 : (l : Language) → Rule l (symbol.spec l) (Inner (symbol.one_colon_greater_greater_redefines l) ∷ Inner (symbol.qname l) ∷ Inner
    (symbol.many_comma_qname l) ∷ []) (action.Take taking.Redefinition)
unfolding grammar_of kerml_table kerml_rules kerml.sign kerml.word sysml_table sysml_rules sysml.sign sysml.word signs words tables kerml_actions sysml_actions
spec_2 Kerml = record { n = 30; rule = (refl, refl) }
spec_2 Sysml = record { n = 30; rule = (refl, refl) }

-- Spec = OneColonColonGreaterReferences Chain
pub spec_3 : (l : Language) → Rule l (symbol.spec l) (Inner (symbol.one_colon_colon_greater_references l) ∷ Inner (symbol.chain l) ∷ []) (action.Take
    taking.ReferenceSubsetting)
unfolding grammar_of kerml_table kerml_rules kerml.sign kerml.word sysml_table sysml_rules sysml.sign sysml.word signs words tables kerml_actions sysml_actions
spec_3 Kerml = record { n = 31; rule = (refl, refl) }
spec_3 Sysml = record { n = 31; rule = (refl, refl) }

-- Mult = '[' Bounds ']' MaybeOrder
pub mult_0 : (l : Language) → Rule l (symbol.mult l) (Terminal (terminal (sign (codes "[")).kind) ∷ Inner (symbol.bounds l) ∷ Terminal (terminal (sign
    (codes "]")).kind) ∷ Inner (symbol.maybe_order l) ∷ []) (action.Take taking.Bounds)
unfolding grammar_of kerml_table kerml_rules kerml.sign kerml.word sysml_table sysml_rules sysml.sign sysml.word signs words tables kerml_actions sysml_actions
mult_0 Kerml = record { n = 32; rule = (refl, refl) }
mult_0 Sysml = record { n = 32; rule = (refl, refl) }

-- Mult = Order
pub mult_1 : (l : Language) → Rule l (symbol.mult l) (Inner (symbol.order l) ∷ []) action.Group
unfolding grammar_of kerml_table kerml_rules kerml.sign kerml.word sysml_table sysml_rules sysml.sign sysml.word signs words tables kerml_actions sysml_actions
mult_1 Kerml = record { n = 33; rule = (refl, refl) }
mult_1 Sysml = record { n = 33; rule = (refl, refl) }

-- Order = 'ordered' MaybeNonunique
pub order_0 : (l : Language) → Rule l (symbol.order l) (Terminal (terminal (word l (codes "ordered")).kind) ∷ Inner (symbol.maybe_nonunique l) ∷ [])
    action.Group
unfolding grammar_of kerml_table kerml_rules kerml.sign kerml.word sysml_table sysml_rules sysml.sign sysml.word signs words tables kerml_actions sysml_actions
order_0 Kerml = record { n = 34; rule = (refl, refl) }
order_0 Sysml = record { n = 34; rule = (refl, refl) }

-- Order = 'nonunique' MaybeOrdered
pub order_1 : (l : Language) → Rule l (symbol.order l) (Terminal (terminal (word l (codes "nonunique")).kind) ∷ Inner (symbol.maybe_ordered l) ∷ [])
    action.Group
unfolding grammar_of kerml_table kerml_rules kerml.sign kerml.word sysml_table sysml_rules sysml.sign sysml.word signs words tables kerml_actions sysml_actions
order_1 Kerml = record { n = 35; rule = (refl, refl) }
order_1 Sysml = record { n = 35; rule = (refl, refl) }

-- Bounds = '*'
pub bounds_0 : (l : Language) → Rule l (symbol.bounds l) (Terminal (terminal (sign (codes "*")).kind) ∷ []) action.Star
unfolding grammar_of kerml_table kerml_rules kerml.sign kerml.word sysml_table sysml_rules sysml.sign sysml.word signs words tables kerml_actions sysml_actions
bounds_0 Kerml = record { n = 36; rule = (refl, refl) }
bounds_0 Sysml = record { n = 36; rule = (refl, refl) }

-- Bounds = Bound MaybeDotDotStar
pub bounds_1 : (l : Language) → Rule l (symbol.bounds l) (Inner (symbol.bound l) ∷ Inner (symbol.maybe_dot_dot_star l) ∷ []) action.Group
unfolding grammar_of kerml_table kerml_rules kerml.sign kerml.word sysml_table sysml_rules sysml.sign sysml.word signs words tables kerml_actions sysml_actions
bounds_1 Kerml = record { n = 37; rule = (refl, refl) }
bounds_1 Sysml = record { n = 37; rule = (refl, refl) }

-- Bound = INT
pub bound_0 : (l : Language) → Rule l (symbol.bound l) (Terminal 1 ∷ []) action.Group
unfolding grammar_of kerml_table kerml_rules kerml.sign kerml.word sysml_table sysml_rules sysml.sign sysml.word signs words tables kerml_actions sysml_actions
bound_0 Kerml = record { n = 38; rule = (refl, refl) }
bound_0 Sysml = record { n = 38; rule = (refl, refl) }

-- Bound = QName
pub bound_1 : (l : Language) → Rule l (symbol.bound l) (Inner (symbol.qname l) ∷ []) action.Group
unfolding grammar_of kerml_table kerml_rules kerml.sign kerml.word sysml_table sysml_rules sysml.sign sysml.word signs words tables kerml_actions sysml_actions
bound_1 Kerml = record { n = 39; rule = (refl, refl) }
bound_1 Sysml = record { n = 39; rule = (refl, refl) }

-- Value = MaybeEqualsExprDefault
pub value : (l : Language) → Rule l (symbol.value l) (Inner (symbol.maybe_equals_expr_default l) ∷ []) action.Group
unfolding grammar_of kerml_table kerml_rules kerml.sign kerml.word sysml_table sysml_rules sysml.sign sysml.word signs words tables kerml_actions sysml_actions
value Kerml = record { n = 40; rule = (refl, refl) }
value Sysml = record { n = 40; rule = (refl, refl) }

-- UseHead = Ident SpecPart
pub use_head : (l : Language) → Rule l (symbol.use_head l) (Inner (symbol.ident l) ∷ Inner (symbol.spec_part l) ∷ []) action.Group
unfolding grammar_of kerml_table kerml_rules kerml.sign kerml.word sysml_table sysml_rules sysml.sign sysml.word signs words tables kerml_actions sysml_actions
use_head Kerml = record { n = 41; rule = (refl, refl) }
use_head Sysml = record { n = 41; rule = (refl, refl) }

-- UseTail = UseHead Value Body
pub use_tail : (l : Language) → Rule l (symbol.use_tail l) (Inner (symbol.use_head l) ∷ Inner (symbol.value l) ∷ Inner (symbol.body l) ∷ [])
    action.Group
unfolding grammar_of kerml_table kerml_rules kerml.sign kerml.word sysml_table sysml_rules sysml.sign sysml.word signs words tables kerml_actions sysml_actions
use_tail Kerml = record { n = 42; rule = (refl, refl) }
use_tail Sysml = record { n = 42; rule = (refl, refl) }

-- Plain = NAME RefTail
pub plain_0 : (l : Language) → Rule l (symbol.plain l) (Terminal 0 ∷ Inner (symbol.ref_tail l) ∷ []) action.Name
unfolding grammar_of kerml_table kerml_rules kerml.sign kerml.word sysml_table sysml_rules sysml.sign sysml.word signs words tables kerml_actions sysml_actions
plain_0 Kerml = record { n = 43; rule = (refl, refl) }
plain_0 Sysml = record { n = 43; rule = (refl, refl) }

-- Plain = NoName
pub plain_1 : (l : Language) → Rule l (symbol.plain l) (Inner (symbol.no_name l) ∷ []) action.Group
unfolding grammar_of kerml_table kerml_rules kerml.sign kerml.word sysml_table sysml_rules sysml.sign sysml.word signs words tables kerml_actions sysml_actions
plain_1 Kerml = record { n = 44; rule = (refl, refl) }
plain_1 Sysml = record { n = 44; rule = (refl, refl) }

-- NoName = '<' NAME '>' MaybeName RefTail
pub no_name_0 : (l : Language) → Rule l (symbol.no_name l) (Terminal (terminal (sign (codes "<")).kind) ∷ Terminal 0 ∷ Terminal (terminal (sign (codes
    ">")).kind) ∷ Inner (symbol.maybe_name l) ∷ Inner (symbol.ref_tail l) ∷ []) action.Short
unfolding grammar_of kerml_table kerml_rules kerml.sign kerml.word sysml_table sysml_rules sysml.sign sysml.word signs words tables kerml_actions sysml_actions
no_name_0 Kerml = record { n = 45; rule = (refl, refl) }
no_name_0 Sysml = record { n = 45; rule = (refl, refl) }

-- NoName = Spec RefTail
pub no_name_1 : (l : Language) → Rule l (symbol.no_name l) (Inner (symbol.spec l) ∷ Inner (symbol.ref_tail l) ∷ []) action.Group
unfolding grammar_of kerml_table kerml_rules kerml.sign kerml.word sysml_table sysml_rules sysml.sign sysml.word signs words tables kerml_actions sysml_actions
no_name_1 Kerml = record { n = 46; rule = (refl, refl) }
no_name_1 Sysml = record { n = 46; rule = (refl, refl) }

-- RefTail = SpecPart Value Body
pub ref_tail : (l : Language) → Rule l (symbol.ref_tail l) (Inner (symbol.spec_part l) ∷ Inner (symbol.value l) ∷ Inner (symbol.body l) ∷ [])
    action.Group
unfolding grammar_of kerml_table kerml_rules kerml.sign kerml.word sysml_table sysml_rules sysml.sign sysml.word signs words tables kerml_actions sysml_actions
ref_tail Kerml = record { n = 47; rule = (refl, refl) }
ref_tail Sysml = record { n = 47; rule = (refl, refl) }

-- TypedBy = ':'
pub typed_by_0 : (l : Language) → Rule l (symbol.typed_by l) (Terminal (terminal (sign (codes ":")).kind) ∷ []) action.Group
unfolding grammar_of kerml_table kerml_rules kerml.sign kerml.word sysml_table sysml_rules sysml.sign sysml.word signs words tables kerml_actions sysml_actions
typed_by_0 Kerml = record { n = 67; rule = (refl, refl) }
typed_by_0 Sysml = record { n = 67; rule = (refl, refl) }

-- Content = Import
pub content_0 : (l : Language) → Rule l (symbol.content l) (Inner (symbol.import l) ∷ []) action.Group
unfolding grammar_of kerml_table kerml_rules kerml.sign kerml.word sysml_table sysml_rules sysml.sign sysml.word signs words tables kerml_actions sysml_actions
content_0 Kerml = record { n = 69; rule = (refl, refl) }
content_0 Sysml = record { n = 69; rule = (refl, refl) }

-- Content = Alias
pub content_1 : (l : Language) → Rule l (symbol.content l) (Inner (symbol.alias l) ∷ []) action.Group
unfolding grammar_of kerml_table kerml_rules kerml.sign kerml.word sysml_table sysml_rules sysml.sign sysml.word signs words tables kerml_actions sysml_actions
content_1 Kerml = record { n = 70; rule = (refl, refl) }
content_1 Sysml = record { n = 70; rule = (refl, refl) }

-- Content = Note
pub content_2 : (l : Language) → Rule l (symbol.content l) (Inner (symbol.note l) ∷ []) action.Group
unfolding grammar_of kerml_table kerml_rules kerml.sign kerml.word sysml_table sysml_rules sysml.sign sysml.word signs words tables kerml_actions sysml_actions
content_2 Kerml = record { n = 71; rule = (refl, refl) }
content_2 Sysml = record { n = 71; rule = (refl, refl) }

-- Content = Pack
pub content_3 : (l : Language) → Rule l (symbol.content l) (Inner (symbol.pack l) ∷ []) action.Group
unfolding grammar_of kerml_table kerml_rules kerml.sign kerml.word sysml_table sysml_rules sysml.sign sysml.word signs words tables kerml_actions sysml_actions
content_3 Kerml = record { n = 72; rule = (refl, refl) }
content_3 Sysml = record { n = 72; rule = (refl, refl) }

-- ManyMember = Member ManyMember
pub many_member_0 : (l : Language) → Rule l (symbol.many_member l) (Inner (symbol.member l) ∷ Inner (symbol.many_member l) ∷ []) action.Group
unfolding grammar_of kerml_table kerml_rules kerml.sign kerml.word sysml_table sysml_rules sysml.sign sysml.word signs words tables kerml_actions sysml_actions
many_member_0 Kerml = record { n = 104; rule = (refl, refl) }
many_member_0 Sysml = record { n = 132; rule = (refl, refl) }

-- ManyMember = nothing
pub many_member_1 : (l : Language) → Rule l (symbol.many_member l) ([]) action.Group
unfolding grammar_of kerml_table kerml_rules kerml.sign kerml.word sysml_table sysml_rules sysml.sign sysml.word signs words tables kerml_actions sysml_actions
many_member_1 Kerml = record { n = 105; rule = (refl, refl) }
many_member_1 Sysml = record { n = 133; rule = (refl, refl) }

-- MaybeVis = Vis
pub maybe_vis_0 : (l : Language) → Rule l (symbol.maybe_vis l) (Inner (symbol.vis l) ∷ []) action.Group
unfolding grammar_of kerml_table kerml_rules kerml.sign kerml.word sysml_table sysml_rules sysml.sign sysml.word signs words tables kerml_actions sysml_actions
maybe_vis_0 Kerml = record { n = 106; rule = (refl, refl) }
maybe_vis_0 Sysml = record { n = 134; rule = (refl, refl) }

-- MaybeVis = nothing
pub maybe_vis_1 : (l : Language) → Rule l (symbol.maybe_vis l) ([]) action.Group
unfolding grammar_of kerml_table kerml_rules kerml.sign kerml.word sysml_table sysml_rules sysml.sign sysml.word signs words tables kerml_actions sysml_actions
maybe_vis_1 Kerml = record { n = 107; rule = (refl, refl) }
maybe_vis_1 Sysml = record { n = 135; rule = (refl, refl) }

-- MaybeAll = 'all'
pub maybe_all_0 : (l : Language) → Rule l (symbol.maybe_all l) (Terminal (terminal (word l (codes "all")).kind) ∷ []) action.Group
unfolding grammar_of kerml_table kerml_rules kerml.sign kerml.word sysml_table sysml_rules sysml.sign sysml.word signs words tables kerml_actions sysml_actions
maybe_all_0 Kerml = record { n = 108; rule = (refl, refl) }
maybe_all_0 Sysml = record { n = 136; rule = (refl, refl) }

-- MaybeAll = nothing
pub maybe_all_1 : (l : Language) → Rule l (symbol.maybe_all l) ([]) action.Group
unfolding grammar_of kerml_table kerml_rules kerml.sign kerml.word sysml_table sysml_rules sysml.sign sysml.word signs words tables kerml_actions sysml_actions
maybe_all_1 Kerml = record { n = 109; rule = (refl, refl) }
maybe_all_1 Sysml = record { n = 137; rule = (refl, refl) }

-- MaybeDollarColonColon = '$' '::'
pub maybe_dollar_colon_colon_0 : (l : Language) → Rule l (symbol.maybe_dollar_colon_colon l) (Terminal (terminal (sign (codes "$")).kind) ∷ Terminal
    (terminal (sign (codes "::")).kind) ∷ []) action.Group
unfolding grammar_of kerml_table kerml_rules kerml.sign kerml.word sysml_table sysml_rules sysml.sign sysml.word signs words tables kerml_actions sysml_actions
maybe_dollar_colon_colon_0 Kerml = record { n = 110; rule = (refl, refl) }
maybe_dollar_colon_colon_0 Sysml = record { n = 138; rule = (refl, refl) }

-- MaybeDollarColonColon = nothing
pub maybe_dollar_colon_colon_1 : (l : Language) → Rule l (symbol.maybe_dollar_colon_colon l) ([]) action.Group
unfolding grammar_of kerml_table kerml_rules kerml.sign kerml.word sysml_table sysml_rules sysml.sign sysml.word signs words tables kerml_actions sysml_actions
maybe_dollar_colon_colon_1 Kerml = record { n = 111; rule = (refl, refl) }
maybe_dollar_colon_colon_1 Sysml = record { n = 139; rule = (refl, refl) }

-- MaybeColonColonImpNext = '::' ImpNext
pub maybe_colon_colon_imp_next_0 : (l : Language) → Rule l (symbol.maybe_colon_colon_imp_next l) (Terminal (terminal (sign (codes "::")).kind) ∷ Inner
    (symbol.imp_next l) ∷ []) action.Group
unfolding grammar_of kerml_table kerml_rules kerml.sign kerml.word sysml_table sysml_rules sysml.sign sysml.word signs words tables kerml_actions sysml_actions
maybe_colon_colon_imp_next_0 Kerml = record { n = 112; rule = (refl, refl) }
maybe_colon_colon_imp_next_0 Sysml = record { n = 140; rule = (refl, refl) }

-- MaybeColonColonImpNext = nothing
pub maybe_colon_colon_imp_next_1 : (l : Language) → Rule l (symbol.maybe_colon_colon_imp_next l) ([]) action.Group
unfolding grammar_of kerml_table kerml_rules kerml.sign kerml.word sysml_table sysml_rules sysml.sign sysml.word signs words tables kerml_actions sysml_actions
maybe_colon_colon_imp_next_1 Kerml = record { n = 113; rule = (refl, refl) }
maybe_colon_colon_imp_next_1 Sysml = record { n = 141; rule = (refl, refl) }

-- MaybeColonColonStarStar = '::' '**'
pub maybe_colon_colon_star_star_0 : (l : Language) → Rule l (symbol.maybe_colon_colon_star_star l) (Terminal (terminal (sign (codes "::")).kind) ∷
    Terminal (terminal (sign (codes "**")).kind) ∷ []) action.Group
unfolding grammar_of kerml_table kerml_rules kerml.sign kerml.word sysml_table sysml_rules sysml.sign sysml.word signs words tables kerml_actions sysml_actions
maybe_colon_colon_star_star_0 Kerml = record { n = 114; rule = (refl, refl) }
maybe_colon_colon_star_star_0 Sysml = record { n = 142; rule = (refl, refl) }

-- MaybeColonColonStarStar = nothing
pub maybe_colon_colon_star_star_1 : (l : Language) → Rule l (symbol.maybe_colon_colon_star_star l) ([]) action.Group
unfolding grammar_of kerml_table kerml_rules kerml.sign kerml.word sysml_table sysml_rules sysml.sign sysml.word signs words tables kerml_actions sysml_actions
maybe_colon_colon_star_star_1 Kerml = record { n = 115; rule = (refl, refl) }
maybe_colon_colon_star_star_1 Sysml = record { n = 143; rule = (refl, refl) }

-- MaybeLessNameGreater = '<' NAME '>'
pub maybe_less_name_greater_0 : (l : Language) → Rule l (symbol.maybe_less_name_greater l) (Terminal (terminal (sign (codes "<")).kind) ∷ Terminal 0 ∷
    Terminal (terminal (sign (codes ">")).kind) ∷ []) action.Short
unfolding grammar_of kerml_table kerml_rules kerml.sign kerml.word sysml_table sysml_rules sysml.sign sysml.word signs words tables kerml_actions sysml_actions
maybe_less_name_greater_0 Kerml = record { n = 116; rule = (refl, refl) }
maybe_less_name_greater_0 Sysml = record { n = 144; rule = (refl, refl) }

-- MaybeLessNameGreater = nothing
pub maybe_less_name_greater_1 : (l : Language) → Rule l (symbol.maybe_less_name_greater l) ([]) action.Group
unfolding grammar_of kerml_table kerml_rules kerml.sign kerml.word sysml_table sysml_rules sysml.sign sysml.word signs words tables kerml_actions sysml_actions
maybe_less_name_greater_1 Kerml = record { n = 117; rule = (refl, refl) }
maybe_less_name_greater_1 Sysml = record { n = 145; rule = (refl, refl) }

-- MaybeName = NAME
pub maybe_name_0 : (l : Language) → Rule l (symbol.maybe_name l) (Terminal 0 ∷ []) action.Name
unfolding grammar_of kerml_table kerml_rules kerml.sign kerml.word sysml_table sysml_rules sysml.sign sysml.word signs words tables kerml_actions sysml_actions
maybe_name_0 Kerml = record { n = 118; rule = (refl, refl) }
maybe_name_0 Sysml = record { n = 146; rule = (refl, refl) }

-- MaybeName = nothing
pub maybe_name_1 : (l : Language) → Rule l (symbol.maybe_name l) ([]) action.Group
unfolding grammar_of kerml_table kerml_rules kerml.sign kerml.word sysml_table sysml_rules sysml.sign sysml.word signs words tables kerml_actions sysml_actions
maybe_name_1 Kerml = record { n = 119; rule = (refl, refl) }
maybe_name_1 Sysml = record { n = 147; rule = (refl, refl) }

-- MaybeAboutQNameComma = 'about' QName ManyCommaQName
pub maybe_about_qname_comma_0 : (l : Language) → Rule l (symbol.maybe_about_qname_comma l) (Terminal (terminal (word l (codes "about")).kind) ∷ Inner
    (symbol.qname l) ∷ Inner (symbol.many_comma_qname l) ∷ []) action.Group
unfolding grammar_of kerml_table kerml_rules kerml.sign kerml.word sysml_table sysml_rules sysml.sign sysml.word signs words tables kerml_actions sysml_actions
maybe_about_qname_comma_0 Kerml = record { n = 120; rule = (refl, refl) }
maybe_about_qname_comma_0 Sysml = record { n = 148; rule = (refl, refl) }

-- MaybeAboutQNameComma = nothing
pub maybe_about_qname_comma_1 : (l : Language) → Rule l (symbol.maybe_about_qname_comma l) ([]) action.Group
unfolding grammar_of kerml_table kerml_rules kerml.sign kerml.word sysml_table sysml_rules sysml.sign sysml.word signs words tables kerml_actions sysml_actions
maybe_about_qname_comma_1 Kerml = record { n = 121; rule = (refl, refl) }
maybe_about_qname_comma_1 Sysml = record { n = 149; rule = (refl, refl) }

-- ManyCommaQName = ',' QName ManyCommaQName
pub many_comma_qname_0 : (l : Language) → Rule l (symbol.many_comma_qname l) (Terminal (terminal (sign (codes ",")).kind) ∷ Inner (symbol.qname l) ∷
    Inner (symbol.many_comma_qname l) ∷ []) action.Group
unfolding grammar_of kerml_table kerml_rules kerml.sign kerml.word sysml_table sysml_rules sysml.sign sysml.word signs words tables kerml_actions sysml_actions
many_comma_qname_0 Kerml = record { n = 122; rule = (refl, refl) }
many_comma_qname_0 Sysml = record { n = 150; rule = (refl, refl) }

-- ManyCommaQName = nothing
pub many_comma_qname_1 : (l : Language) → Rule l (symbol.many_comma_qname l) ([]) action.Group
unfolding grammar_of kerml_table kerml_rules kerml.sign kerml.word sysml_table sysml_rules sysml.sign sysml.word signs words tables kerml_actions sysml_actions
many_comma_qname_1 Kerml = record { n = 123; rule = (refl, refl) }
many_comma_qname_1 Sysml = record { n = 151; rule = (refl, refl) }

-- MaybeLocaleString = 'locale' STRING
pub maybe_locale_string_0 : (l : Language) → Rule l (symbol.maybe_locale_string l) (Terminal (terminal (word l (codes "locale")).kind) ∷ Terminal 2 ∷
    []) action.Group
unfolding grammar_of kerml_table kerml_rules kerml.sign kerml.word sysml_table sysml_rules sysml.sign sysml.word signs words tables kerml_actions sysml_actions
maybe_locale_string_0 Kerml = record { n = 124; rule = (refl, refl) }
maybe_locale_string_0 Sysml = record { n = 152; rule = (refl, refl) }

-- MaybeLocaleString = nothing
pub maybe_locale_string_1 : (l : Language) → Rule l (symbol.maybe_locale_string l) ([]) action.Group
unfolding grammar_of kerml_table kerml_rules kerml.sign kerml.word sysml_table sysml_rules sysml.sign sysml.word signs words tables kerml_actions sysml_actions
maybe_locale_string_1 Kerml = record { n = 125; rule = (refl, refl) }
maybe_locale_string_1 Sysml = record { n = 153; rule = (refl, refl) }

-- MaybeStandard = 'standard'
pub maybe_standard_0 : (l : Language) → Rule l (symbol.maybe_standard l) (Terminal (terminal (word l (codes "standard")).kind) ∷ []) action.Group
unfolding grammar_of kerml_table kerml_rules kerml.sign kerml.word sysml_table sysml_rules sysml.sign sysml.word signs words tables kerml_actions sysml_actions
maybe_standard_0 Kerml = record { n = 126; rule = (refl, refl) }
maybe_standard_0 Sysml = record { n = 154; rule = (refl, refl) }

-- MaybeStandard = nothing
pub maybe_standard_1 : (l : Language) → Rule l (symbol.maybe_standard l) ([]) action.Group
unfolding grammar_of kerml_table kerml_rules kerml.sign kerml.word sysml_table sysml_rules sysml.sign sysml.word signs words tables kerml_actions sysml_actions
maybe_standard_1 Kerml = record { n = 127; rule = (refl, refl) }
maybe_standard_1 Sysml = record { n = 155; rule = (refl, refl) }

-- MaybeColonGreaterQNameComma = OneColonGreaterSpecializes QName ManyCommaQName
pub maybe_colon_greater_qname_comma_0 : (l : Language) → Rule l (symbol.maybe_colon_greater_qname_comma l) (Inner
    (symbol.one_colon_greater_specializes l) ∷ Inner (symbol.qname l) ∷ Inner (symbol.many_comma_qname l) ∷ []) (action.Take taking.Subclass)
unfolding grammar_of kerml_table kerml_rules kerml.sign kerml.word sysml_table sysml_rules sysml.sign sysml.word signs words tables kerml_actions sysml_actions
maybe_colon_greater_qname_comma_0 Kerml = record { n = 132; rule = (refl, refl) }
maybe_colon_greater_qname_comma_0 Sysml = record { n = 160; rule = (refl, refl) }

-- MaybeColonGreaterQNameComma = nothing
pub maybe_colon_greater_qname_comma_1 : (l : Language) → Rule l (symbol.maybe_colon_greater_qname_comma l) ([]) action.Group
unfolding grammar_of kerml_table kerml_rules kerml.sign kerml.word sysml_table sysml_rules sysml.sign sysml.word signs words tables kerml_actions sysml_actions
maybe_colon_greater_qname_comma_1 Kerml = record { n = 133; rule = (refl, refl) }
maybe_colon_greater_qname_comma_1 Sysml = record { n = 161; rule = (refl, refl) }

-- OneColonGreaterSpecializes = ':>'
pub one_colon_greater_specializes_0 : (l : Language) → Rule l (symbol.one_colon_greater_specializes l) (Terminal (terminal (sign (codes ":>")).kind) ∷
    []) action.Group
unfolding grammar_of kerml_table kerml_rules kerml.sign kerml.word sysml_table sysml_rules sysml.sign sysml.word signs words tables kerml_actions sysml_actions
one_colon_greater_specializes_0 Kerml = record { n = 134; rule = (refl, refl) }
one_colon_greater_specializes_0 Sysml = record { n = 162; rule = (refl, refl) }

-- OneColonGreaterSpecializes = 'specializes'
pub one_colon_greater_specializes_1 : (l : Language) → Rule l (symbol.one_colon_greater_specializes l) (Terminal (terminal (word l (codes
    "specializes")).kind) ∷ []) action.Group
unfolding grammar_of kerml_table kerml_rules kerml.sign kerml.word sysml_table sysml_rules sysml.sign sysml.word signs words tables kerml_actions sysml_actions
one_colon_greater_specializes_1 Kerml = record { n = 135; rule = (refl, refl) }
one_colon_greater_specializes_1 Sysml = record { n = 163; rule = (refl, refl) }

-- ManySpec = Spec ManySpec
pub many_spec_0 : (l : Language) → Rule l (symbol.many_spec l) (Inner (symbol.spec l) ∷ Inner (symbol.many_spec l) ∷ []) action.Group
unfolding grammar_of kerml_table kerml_rules kerml.sign kerml.word sysml_table sysml_rules sysml.sign sysml.word signs words tables kerml_actions sysml_actions
many_spec_0 Kerml = record { n = 136; rule = (refl, refl) }
many_spec_0 Sysml = record { n = 164; rule = (refl, refl) }

-- ManySpec = nothing
pub many_spec_1 : (l : Language) → Rule l (symbol.many_spec l) ([]) action.Group
unfolding grammar_of kerml_table kerml_rules kerml.sign kerml.word sysml_table sysml_rules sysml.sign sysml.word signs words tables kerml_actions sysml_actions
many_spec_1 Kerml = record { n = 137; rule = (refl, refl) }
many_spec_1 Sysml = record { n = 165; rule = (refl, refl) }

-- MaybeMultSpec = Mult ManySpec
pub maybe_mult_spec_0 : (l : Language) → Rule l (symbol.maybe_mult_spec l) (Inner (symbol.mult l) ∷ Inner (symbol.many_spec l) ∷ []) action.Group
unfolding grammar_of kerml_table kerml_rules kerml.sign kerml.word sysml_table sysml_rules sysml.sign sysml.word signs words tables kerml_actions sysml_actions
maybe_mult_spec_0 Kerml = record { n = 138; rule = (refl, refl) }
maybe_mult_spec_0 Sysml = record { n = 166; rule = (refl, refl) }

-- MaybeMultSpec = nothing
pub maybe_mult_spec_1 : (l : Language) → Rule l (symbol.maybe_mult_spec l) ([]) action.Group
unfolding grammar_of kerml_table kerml_rules kerml.sign kerml.word sysml_table sysml_rules sysml.sign sysml.word signs words tables kerml_actions sysml_actions
maybe_mult_spec_1 Kerml = record { n = 139; rule = (refl, refl) }
maybe_mult_spec_1 Sysml = record { n = 167; rule = (refl, refl) }

-- OneColonGreaterSubsets = ':>'
pub one_colon_greater_subsets_0 : (l : Language) → Rule l (symbol.one_colon_greater_subsets l) (Terminal (terminal (sign (codes ":>")).kind) ∷ [])
    action.Group
unfolding grammar_of kerml_table kerml_rules kerml.sign kerml.word sysml_table sysml_rules sysml.sign sysml.word signs words tables kerml_actions sysml_actions
one_colon_greater_subsets_0 Kerml = record { n = 140; rule = (refl, refl) }
one_colon_greater_subsets_0 Sysml = record { n = 168; rule = (refl, refl) }

-- OneColonGreaterSubsets = 'subsets'
pub one_colon_greater_subsets_1 : (l : Language) → Rule l (symbol.one_colon_greater_subsets l) (Terminal (terminal (word l (codes "subsets")).kind) ∷
    []) action.Group
unfolding grammar_of kerml_table kerml_rules kerml.sign kerml.word sysml_table sysml_rules sysml.sign sysml.word signs words tables kerml_actions sysml_actions
one_colon_greater_subsets_1 Kerml = record { n = 141; rule = (refl, refl) }
one_colon_greater_subsets_1 Sysml = record { n = 169; rule = (refl, refl) }

-- ManyCommaChain = ',' Chain ManyCommaChain
pub many_comma_chain_0 : (l : Language) → Rule l (symbol.many_comma_chain l) (Terminal (terminal (sign (codes ",")).kind) ∷ Inner (symbol.chain l) ∷
    Inner (symbol.many_comma_chain l) ∷ []) action.Group
unfolding grammar_of kerml_table kerml_rules kerml.sign kerml.word sysml_table sysml_rules sysml.sign sysml.word signs words tables kerml_actions sysml_actions
many_comma_chain_0 Kerml = record { n = 142; rule = (refl, refl) }
many_comma_chain_0 Sysml = record { n = 170; rule = (refl, refl) }

-- ManyCommaChain = nothing
pub many_comma_chain_1 : (l : Language) → Rule l (symbol.many_comma_chain l) ([]) action.Group
unfolding grammar_of kerml_table kerml_rules kerml.sign kerml.word sysml_table sysml_rules sysml.sign sysml.word signs words tables kerml_actions sysml_actions
many_comma_chain_1 Kerml = record { n = 143; rule = (refl, refl) }
many_comma_chain_1 Sysml = record { n = 171; rule = (refl, refl) }

-- OneColonGreaterGreaterRedefines = ':>>'
pub one_colon_greater_greater_redefines_0 : (l : Language) → Rule l (symbol.one_colon_greater_greater_redefines l) (Terminal (terminal (sign (codes
    ":>>")).kind) ∷ []) action.Group
unfolding grammar_of kerml_table kerml_rules kerml.sign kerml.word sysml_table sysml_rules sysml.sign sysml.word signs words tables kerml_actions sysml_actions
one_colon_greater_greater_redefines_0 Kerml = record { n = 144; rule = (refl, refl) }
one_colon_greater_greater_redefines_0 Sysml = record { n = 172; rule = (refl, refl) }

-- OneColonGreaterGreaterRedefines = 'redefines'
pub one_colon_greater_greater_redefines_1 : (l : Language) → Rule l (symbol.one_colon_greater_greater_redefines l) (Terminal (terminal (word l (codes
    "redefines")).kind) ∷ []) action.Group
unfolding grammar_of kerml_table kerml_rules kerml.sign kerml.word sysml_table sysml_rules sysml.sign sysml.word signs words tables kerml_actions sysml_actions
one_colon_greater_greater_redefines_1 Kerml = record { n = 145; rule = (refl, refl) }
one_colon_greater_greater_redefines_1 Sysml = record { n = 173; rule = (refl, refl) }

-- OneColonColonGreaterReferences = '::>'
pub one_colon_colon_greater_references_0 : (l : Language) → Rule l (symbol.one_colon_colon_greater_references l) (Terminal (terminal (sign (codes
    "::>")).kind) ∷ []) action.Group
unfolding grammar_of kerml_table kerml_rules kerml.sign kerml.word sysml_table sysml_rules sysml.sign sysml.word signs words tables kerml_actions sysml_actions
one_colon_colon_greater_references_0 Kerml = record { n = 146; rule = (refl, refl) }
one_colon_colon_greater_references_0 Sysml = record { n = 174; rule = (refl, refl) }

-- OneColonColonGreaterReferences = 'references'
pub one_colon_colon_greater_references_1 : (l : Language) → Rule l (symbol.one_colon_colon_greater_references l) (Terminal (terminal (word l (codes
    "references")).kind) ∷ []) action.Group
unfolding grammar_of kerml_table kerml_rules kerml.sign kerml.word sysml_table sysml_rules sysml.sign sysml.word signs words tables kerml_actions sysml_actions
one_colon_colon_greater_references_1 Kerml = record { n = 147; rule = (refl, refl) }
one_colon_colon_greater_references_1 Sysml = record { n = 175; rule = (refl, refl) }

-- MaybeOrder = Order
pub maybe_order_0 : (l : Language) → Rule l (symbol.maybe_order l) (Inner (symbol.order l) ∷ []) action.Group
unfolding grammar_of kerml_table kerml_rules kerml.sign kerml.word sysml_table sysml_rules sysml.sign sysml.word signs words tables kerml_actions sysml_actions
maybe_order_0 Kerml = record { n = 148; rule = (refl, refl) }
maybe_order_0 Sysml = record { n = 176; rule = (refl, refl) }

-- MaybeOrder = nothing
pub maybe_order_1 : (l : Language) → Rule l (symbol.maybe_order l) ([]) action.Group
unfolding grammar_of kerml_table kerml_rules kerml.sign kerml.word sysml_table sysml_rules sysml.sign sysml.word signs words tables kerml_actions sysml_actions
maybe_order_1 Kerml = record { n = 149; rule = (refl, refl) }
maybe_order_1 Sysml = record { n = 177; rule = (refl, refl) }

-- MaybeNonunique = 'nonunique'
pub maybe_nonunique_0 : (l : Language) → Rule l (symbol.maybe_nonunique l) (Terminal (terminal (word l (codes "nonunique")).kind) ∷ []) action.Group
unfolding grammar_of kerml_table kerml_rules kerml.sign kerml.word sysml_table sysml_rules sysml.sign sysml.word signs words tables kerml_actions sysml_actions
maybe_nonunique_0 Kerml = record { n = 150; rule = (refl, refl) }
maybe_nonunique_0 Sysml = record { n = 178; rule = (refl, refl) }

-- MaybeNonunique = nothing
pub maybe_nonunique_1 : (l : Language) → Rule l (symbol.maybe_nonunique l) ([]) action.Group
unfolding grammar_of kerml_table kerml_rules kerml.sign kerml.word sysml_table sysml_rules sysml.sign sysml.word signs words tables kerml_actions sysml_actions
maybe_nonunique_1 Kerml = record { n = 151; rule = (refl, refl) }
maybe_nonunique_1 Sysml = record { n = 179; rule = (refl, refl) }

-- MaybeOrdered = 'ordered'
pub maybe_ordered_0 : (l : Language) → Rule l (symbol.maybe_ordered l) (Terminal (terminal (word l (codes "ordered")).kind) ∷ []) action.Group
unfolding grammar_of kerml_table kerml_rules kerml.sign kerml.word sysml_table sysml_rules sysml.sign sysml.word signs words tables kerml_actions sysml_actions
maybe_ordered_0 Kerml = record { n = 152; rule = (refl, refl) }
maybe_ordered_0 Sysml = record { n = 180; rule = (refl, refl) }

-- MaybeOrdered = nothing
pub maybe_ordered_1 : (l : Language) → Rule l (symbol.maybe_ordered l) ([]) action.Group
unfolding grammar_of kerml_table kerml_rules kerml.sign kerml.word sysml_table sysml_rules sysml.sign sysml.word signs words tables kerml_actions sysml_actions
maybe_ordered_1 Kerml = record { n = 153; rule = (refl, refl) }
maybe_ordered_1 Sysml = record { n = 181; rule = (refl, refl) }

-- MaybeDotDotStar = '..' OneStarBound
pub maybe_dot_dot_star_0 : (l : Language) → Rule l (symbol.maybe_dot_dot_star l) (Terminal (terminal (sign (codes "..")).kind) ∷ Inner
    (symbol.one_star_bound l) ∷ []) action.Group
unfolding grammar_of kerml_table kerml_rules kerml.sign kerml.word sysml_table sysml_rules sysml.sign sysml.word signs words tables kerml_actions sysml_actions
maybe_dot_dot_star_0 Kerml = record { n = 154; rule = (refl, refl) }
maybe_dot_dot_star_0 Sysml = record { n = 182; rule = (refl, refl) }

-- MaybeDotDotStar = nothing
pub maybe_dot_dot_star_1 : (l : Language) → Rule l (symbol.maybe_dot_dot_star l) ([]) action.Group
unfolding grammar_of kerml_table kerml_rules kerml.sign kerml.word sysml_table sysml_rules sysml.sign sysml.word signs words tables kerml_actions sysml_actions
maybe_dot_dot_star_1 Kerml = record { n = 155; rule = (refl, refl) }
maybe_dot_dot_star_1 Sysml = record { n = 183; rule = (refl, refl) }

-- OneStarBound = '*'
pub one_star_bound_0 : (l : Language) → Rule l (symbol.one_star_bound l) (Terminal (terminal (sign (codes "*")).kind) ∷ []) action.Star
unfolding grammar_of kerml_table kerml_rules kerml.sign kerml.word sysml_table sysml_rules sysml.sign sysml.word signs words tables kerml_actions sysml_actions
one_star_bound_0 Kerml = record { n = 156; rule = (refl, refl) }
one_star_bound_0 Sysml = record { n = 184; rule = (refl, refl) }

-- OneStarBound = Bound
pub one_star_bound_1 : (l : Language) → Rule l (symbol.one_star_bound l) (Inner (symbol.bound l) ∷ []) action.Group
unfolding grammar_of kerml_table kerml_rules kerml.sign kerml.word sysml_table sysml_rules sysml.sign sysml.word signs words tables kerml_actions sysml_actions
one_star_bound_1 Kerml = record { n = 157; rule = (refl, refl) }
one_star_bound_1 Sysml = record { n = 185; rule = (refl, refl) }

-- MaybeEqualsExprDefault = OneEqualsExprDefault
pub maybe_equals_expr_default_0 : (l : Language) → Rule l (symbol.maybe_equals_expr_default l) (Inner (symbol.one_equals_expr_default l) ∷ [])
    action.Group
unfolding grammar_of kerml_table kerml_rules kerml.sign kerml.word sysml_table sysml_rules sysml.sign sysml.word signs words tables kerml_actions sysml_actions
maybe_equals_expr_default_0 Kerml = record { n = 158; rule = (refl, refl) }
maybe_equals_expr_default_0 Sysml = record { n = 186; rule = (refl, refl) }

-- MaybeEqualsExprDefault = nothing
pub maybe_equals_expr_default_1 : (l : Language) → Rule l (symbol.maybe_equals_expr_default l) ([]) action.Group
unfolding grammar_of kerml_table kerml_rules kerml.sign kerml.word sysml_table sysml_rules sysml.sign sysml.word signs words tables kerml_actions sysml_actions
maybe_equals_expr_default_1 Kerml = record { n = 159; rule = (refl, refl) }
maybe_equals_expr_default_1 Sysml = record { n = 187; rule = (refl, refl) }

-- OneEqualsExprDefault = '=' Expr
pub one_equals_expr_default_0 : (l : Language) → Rule l (symbol.one_equals_expr_default l) (Terminal (terminal (sign (codes "=")).kind) ∷ Inner
    (symbol.expr l) ∷ []) (action.Take taking.Value)
unfolding grammar_of kerml_table kerml_rules kerml.sign kerml.word sysml_table sysml_rules sysml.sign sysml.word signs words tables kerml_actions sysml_actions
one_equals_expr_default_0 Kerml = record { n = 160; rule = (refl, refl) }
one_equals_expr_default_0 Sysml = record { n = 188; rule = (refl, refl) }

-- OneEqualsExprDefault = 'default' MaybeEquals Expr
pub one_equals_expr_default_1 : (l : Language) → Rule l (symbol.one_equals_expr_default l) (Terminal (terminal (word l (codes "default")).kind) ∷
    Inner (symbol.maybe_equals l) ∷ Inner (symbol.expr l) ∷ []) (action.Take taking.Value)
unfolding grammar_of kerml_table kerml_rules kerml.sign kerml.word sysml_table sysml_rules sysml.sign sysml.word signs words tables kerml_actions sysml_actions
one_equals_expr_default_1 Kerml = record { n = 161; rule = (refl, refl) }
one_equals_expr_default_1 Sysml = record { n = 189; rule = (refl, refl) }

-- MaybeEquals = '='
pub maybe_equals_0 : (l : Language) → Rule l (symbol.maybe_equals l) (Terminal (terminal (sign (codes "=")).kind) ∷ []) action.Group
unfolding grammar_of kerml_table kerml_rules kerml.sign kerml.word sysml_table sysml_rules sysml.sign sysml.word signs words tables kerml_actions sysml_actions
maybe_equals_0 Kerml = record { n = 162; rule = (refl, refl) }
maybe_equals_0 Sysml = record { n = 190; rule = (refl, refl) }

-- MaybeEquals = nothing
pub maybe_equals_1 : (l : Language) → Rule l (symbol.maybe_equals l) ([]) action.Group
unfolding grammar_of kerml_table kerml_rules kerml.sign kerml.word sysml_table sysml_rules sysml.sign sysml.word signs words tables kerml_actions sysml_actions
maybe_equals_1 Kerml = record { n = 163; rule = (refl, refl) }
maybe_equals_1 Sysml = record { n = 191; rule = (refl, refl) }

-- MaybeDerived = 'derived'
pub maybe_derived_0 : (l : Language) → Rule l (symbol.maybe_derived l) (Terminal (terminal (word l (codes "derived")).kind) ∷ []) action.Group
unfolding grammar_of kerml_table kerml_rules kerml.sign kerml.word sysml_table sysml_rules sysml.sign sysml.word signs words tables kerml_actions sysml_actions
maybe_derived_0 Kerml = record { n = 198; rule = (refl, refl) }
maybe_derived_0 Sysml = record { n = 228; rule = (refl, refl) }

-- MaybeDerived = nothing
pub maybe_derived_1 : (l : Language) → Rule l (symbol.maybe_derived l) ([]) action.Group
unfolding grammar_of kerml_table kerml_rules kerml.sign kerml.word sysml_table sysml_rules sysml.sign sysml.word signs words tables kerml_actions sysml_actions
maybe_derived_1 Kerml = record { n = 199; rule = (refl, refl) }
maybe_derived_1 Sysml = record { n = 229; rule = (refl, refl) }

-- MaybeAbstract = 'abstract'
pub maybe_abstract_0 : (l : Language) → Rule l (symbol.maybe_abstract l) (Terminal (terminal (word l (codes "abstract")).kind) ∷ []) action.Group
unfolding grammar_of kerml_table kerml_rules kerml.sign kerml.word sysml_table sysml_rules sysml.sign sysml.word signs words tables kerml_actions sysml_actions
maybe_abstract_0 Kerml = record { n = 200; rule = (refl, refl) }
maybe_abstract_0 Sysml = record { n = 230; rule = (refl, refl) }

-- MaybeAbstract = nothing
pub maybe_abstract_1 : (l : Language) → Rule l (symbol.maybe_abstract l) ([]) action.Group
unfolding grammar_of kerml_table kerml_rules kerml.sign kerml.word sysml_table sysml_rules sysml.sign sysml.word signs words tables kerml_actions sysml_actions
maybe_abstract_1 Kerml = record { n = 201; rule = (refl, refl) }
maybe_abstract_1 Sysml = record { n = 231; rule = (refl, refl) }

-- MaybeExpr = Expr
pub maybe_expr_0 : (l : Language) → Rule l (symbol.maybe_expr l) (Inner (symbol.expr l) ∷ []) (action.Take taking.Result)
unfolding grammar_of kerml_table kerml_rules kerml.sign kerml.word sysml_table sysml_rules sysml.sign sysml.word signs words tables kerml_actions sysml_actions
maybe_expr_0 Kerml = record { n = 210; rule = (refl, refl) }
maybe_expr_0 Sysml = record { n = 259; rule = (refl, refl) }

-- MaybeExpr = nothing
pub maybe_expr_1 : (l : Language) → Rule l (symbol.maybe_expr l) ([]) action.Group
unfolding grammar_of kerml_table kerml_rules kerml.sign kerml.word sysml_table sysml_rules sysml.sign sysml.word signs words tables kerml_actions sysml_actions
maybe_expr_1 Kerml = record { n = 211; rule = (refl, refl) }
maybe_expr_1 Sysml = record { n = 260; rule = (refl, refl) }

-- OneImportAliasNote = Import
pub one_import_alias_note_0 : (l : Language) → Rule l (symbol.one_import_alias_note l) (Inner (symbol.import l) ∷ []) action.Group
unfolding grammar_of kerml_table kerml_rules kerml.sign kerml.word sysml_table sysml_rules sysml.sign sysml.word signs words tables kerml_actions sysml_actions
one_import_alias_note_0 Kerml = record { n = 212; rule = (refl, refl) }
one_import_alias_note_0 Sysml = record { n = 261; rule = (refl, refl) }

-- OneImportAliasNote = Alias
pub one_import_alias_note_1 : (l : Language) → Rule l (symbol.one_import_alias_note l) (Inner (symbol.alias l) ∷ []) action.Group
unfolding grammar_of kerml_table kerml_rules kerml.sign kerml.word sysml_table sysml_rules sysml.sign sysml.word signs words tables kerml_actions sysml_actions
one_import_alias_note_1 Kerml = record { n = 213; rule = (refl, refl) }
one_import_alias_note_1 Sysml = record { n = 262; rule = (refl, refl) }

-- OneImportAliasNote = Note
pub one_import_alias_note_2 : (l : Language) → Rule l (symbol.one_import_alias_note l) (Inner (symbol.note l) ∷ []) action.Group
unfolding grammar_of kerml_table kerml_rules kerml.sign kerml.word sysml_table sysml_rules sysml.sign sysml.word signs words tables kerml_actions sysml_actions
one_import_alias_note_2 Kerml = record { n = 214; rule = (refl, refl) }
one_import_alias_note_2 Sysml = record { n = 263; rule = (refl, refl) }

-- OneImportAliasNote = Pack
pub one_import_alias_note_3 : (l : Language) → Rule l (symbol.one_import_alias_note l) (Inner (symbol.pack l) ∷ []) action.Group
unfolding grammar_of kerml_table kerml_rules kerml.sign kerml.word sysml_table sysml_rules sysml.sign sysml.word signs words tables kerml_actions sysml_actions
one_import_alias_note_3 Kerml = record { n = 215; rule = (refl, refl) }
one_import_alias_note_3 Sysml = record { n = 264; rule = (refl, refl) }
