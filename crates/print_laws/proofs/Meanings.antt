-- Made by `tools/make_print_rules.py`: what signs and words mean, by evaluation.
use Rattle.std.proofs.Common.{◌≡◌, refl}
use Rattle.std.specs.Prelude.{codes, true, false}
use Rattle.element_store.specs.declared.kind.Kind.TheVariants as kind
use Rattle.element_store.specs.declared.kind.Visibility.TheVariants as visibility
use Rattle.element_store.specs.declared.kind.Direction.TheVariants as direction
use Rattle.element_store.specs.declared.kind.PartOf.TheVariants as part
use Rattle.element_store.specs.declared.expression.BinaryOp.TheVariants as binary
use Rattle.element_store.specs.declared.outcome.Language.{Language}
use Rattle.element_store.specs.declared.outcome.Language.TheVariants.{Kerml, Sysml}
use Rattle.token_core.specs.Words.{signs, words}
use Rattle.text_model.specs.declared.action.Leaf.TheVariants as leaf
use Rattle.text_model.specs.declared.action.Mark.TheVariants as mark
use Rattle.text_model.specs.declared.action.Operator.TheVariants as operator
use Rattle.text_model.specs.declared.action.Meaning.TheVariants as meaning
use Rattle.text_model.specs.SignMeanings.{sign_meanings}
use Rattle.text_model.specs.KermlMeanings.{kerml_meanings}
use Rattle.text_model.specs.SysmlMeanings.{sysml_meanings}
use Rattle.text_model.specs.Tables.{tables, meaning_of}
use Rattle.print_model.specs.Printed.{sign, word}

pub sign_open_brace : (l : Language) → meaning_of (tables l) (sign (codes "{")).kind ≡ meaning.Nothing
unfolding signs words tables sign_meanings kerml_meanings sysml_meanings
sign_open_brace Kerml = refl
sign_open_brace Sysml = refl

pub sign_close_brace : (l : Language) → meaning_of (tables l) (sign (codes "}")).kind ≡ meaning.Nothing
unfolding signs words tables sign_meanings kerml_meanings sysml_meanings
sign_close_brace Kerml = refl
sign_close_brace Sysml = refl

pub sign_open_bracket : (l : Language) → meaning_of (tables l) (sign (codes "[")).kind ≡ meaning.Nothing
unfolding signs words tables sign_meanings kerml_meanings sysml_meanings
sign_open_bracket Kerml = refl
sign_open_bracket Sysml = refl

pub sign_close_bracket : (l : Language) → meaning_of (tables l) (sign (codes "]")).kind ≡ meaning.Nothing
unfolding signs words tables sign_meanings kerml_meanings sysml_meanings
sign_close_bracket Kerml = refl
sign_close_bracket Sysml = refl

pub sign_open_round : (l : Language) → meaning_of (tables l) (sign (codes "(")).kind ≡ meaning.Nothing
unfolding signs words tables sign_meanings kerml_meanings sysml_meanings
sign_open_round Kerml = refl
sign_open_round Sysml = refl

pub sign_close_round : (l : Language) → meaning_of (tables l) (sign (codes ")")).kind ≡ meaning.Nothing
unfolding signs words tables sign_meanings kerml_meanings sysml_meanings
sign_close_round Kerml = refl
sign_close_round Sysml = refl

pub sign_less : (l : Language) → meaning_of (tables l) (sign (codes "<")).kind ≡ meaning.Operator (operator.Binary binary.Less)
unfolding signs words tables sign_meanings kerml_meanings sysml_meanings
sign_less Kerml = refl
sign_less Sysml = refl

pub sign_greater : (l : Language) → meaning_of (tables l) (sign (codes ">")).kind ≡ meaning.Operator (operator.Binary binary.Greater)
unfolding signs words tables sign_meanings kerml_meanings sysml_meanings
sign_greater Kerml = refl
sign_greater Sysml = refl

pub sign_semicolon : (l : Language) → meaning_of (tables l) (sign (codes ";")).kind ≡ meaning.Nothing
unfolding signs words tables sign_meanings kerml_meanings sysml_meanings
sign_semicolon Kerml = refl
sign_semicolon Sysml = refl

pub sign_comma : (l : Language) → meaning_of (tables l) (sign (codes ",")).kind ≡ meaning.Nothing
unfolding signs words tables sign_meanings kerml_meanings sysml_meanings
sign_comma Kerml = refl
sign_comma Sysml = refl

pub sign_dot : (l : Language) → meaning_of (tables l) (sign (codes ".")).kind ≡ meaning.Nothing
unfolding signs words tables sign_meanings kerml_meanings sysml_meanings
sign_dot Kerml = refl
sign_dot Sysml = refl

pub sign_dot_dot : (l : Language) → meaning_of (tables l) (sign (codes "..")).kind ≡ meaning.Nothing
unfolding signs words tables sign_meanings kerml_meanings sysml_meanings
sign_dot_dot Kerml = refl
sign_dot_dot Sysml = refl

pub sign_colon : (l : Language) → meaning_of (tables l) (sign (codes ":")).kind ≡ meaning.Nothing
unfolding signs words tables sign_meanings kerml_meanings sysml_meanings
sign_colon Kerml = refl
sign_colon Sysml = refl

pub sign_colon_colon : (l : Language) → meaning_of (tables l) (sign (codes "::")).kind ≡ meaning.Nothing
unfolding signs words tables sign_meanings kerml_meanings sysml_meanings
sign_colon_colon Kerml = refl
sign_colon_colon Sysml = refl

pub sign_colon_greater : (l : Language) → meaning_of (tables l) (sign (codes ":>")).kind ≡ meaning.Nothing
unfolding signs words tables sign_meanings kerml_meanings sysml_meanings
sign_colon_greater Kerml = refl
sign_colon_greater Sysml = refl

pub sign_colon_greater_greater : (l : Language) → meaning_of (tables l) (sign (codes ":>>")).kind ≡ meaning.Nothing
unfolding signs words tables sign_meanings kerml_meanings sysml_meanings
sign_colon_greater_greater Kerml = refl
sign_colon_greater_greater Sysml = refl

pub sign_colon_colon_greater : (l : Language) → meaning_of (tables l) (sign (codes "::>")).kind ≡ meaning.Nothing
unfolding signs words tables sign_meanings kerml_meanings sysml_meanings
sign_colon_colon_greater Kerml = refl
sign_colon_colon_greater Sysml = refl

pub sign_equals : (l : Language) → meaning_of (tables l) (sign (codes "=")).kind ≡ meaning.Nothing
unfolding signs words tables sign_meanings kerml_meanings sysml_meanings
sign_equals Kerml = refl
sign_equals Sysml = refl

pub sign_equals_equals : (l : Language) → meaning_of (tables l) (sign (codes "==")).kind ≡ meaning.Operator (operator.Binary binary.Equal)
unfolding signs words tables sign_meanings kerml_meanings sysml_meanings
sign_equals_equals Kerml = refl
sign_equals_equals Sysml = refl

pub sign_not_equals : (l : Language) → meaning_of (tables l) (sign (codes "!=")).kind ≡ meaning.Operator (operator.Binary binary.NotEqual)
unfolding signs words tables sign_meanings kerml_meanings sysml_meanings
sign_not_equals Kerml = refl
sign_not_equals Sysml = refl

pub sign_less_equals : (l : Language) → meaning_of (tables l) (sign (codes "<=")).kind ≡ meaning.Operator (operator.Binary binary.AtMost)
unfolding signs words tables sign_meanings kerml_meanings sysml_meanings
sign_less_equals Kerml = refl
sign_less_equals Sysml = refl

pub sign_greater_equals : (l : Language) → meaning_of (tables l) (sign (codes ">=")).kind ≡ meaning.Operator (operator.Binary binary.AtLeast)
unfolding signs words tables sign_meanings kerml_meanings sysml_meanings
sign_greater_equals Kerml = refl
sign_greater_equals Sysml = refl

pub sign_plus : (l : Language) → meaning_of (tables l) (sign (codes "+")).kind ≡ meaning.Operator (operator.Binary binary.Add)
unfolding signs words tables sign_meanings kerml_meanings sysml_meanings
sign_plus Kerml = refl
sign_plus Sysml = refl

pub sign_minus : (l : Language) → meaning_of (tables l) (sign (codes "-")).kind ≡ meaning.Operator (operator.Binary binary.Subtract)
unfolding signs words tables sign_meanings kerml_meanings sysml_meanings
sign_minus Kerml = refl
sign_minus Sysml = refl

pub sign_star : (l : Language) → meaning_of (tables l) (sign (codes "*")).kind ≡ meaning.Operator (operator.Binary binary.Multiply)
unfolding signs words tables sign_meanings kerml_meanings sysml_meanings
sign_star Kerml = refl
sign_star Sysml = refl

pub sign_star_star : (l : Language) → meaning_of (tables l) (sign (codes "**")).kind ≡ meaning.Leaf leaf.Deep
unfolding signs words tables sign_meanings kerml_meanings sysml_meanings
sign_star_star Kerml = refl
sign_star_star Sysml = refl

pub sign_slash : (l : Language) → meaning_of (tables l) (sign (codes "/")).kind ≡ meaning.Operator (operator.Binary binary.Divide)
unfolding signs words tables sign_meanings kerml_meanings sysml_meanings
sign_slash Kerml = refl
sign_slash Sysml = refl

pub sign_percent : (l : Language) → meaning_of (tables l) (sign (codes "%")).kind ≡ meaning.Operator (operator.Binary binary.Remainder)
unfolding signs words tables sign_meanings kerml_meanings sysml_meanings
sign_percent Kerml = refl
sign_percent Sysml = refl

pub sign_and : (l : Language) → meaning_of (tables l) (sign (codes "&")).kind ≡ meaning.Operator (operator.Binary binary.Amp)
unfolding signs words tables sign_meanings kerml_meanings sysml_meanings
sign_and Kerml = refl
sign_and Sysml = refl

pub sign_bar : (l : Language) → meaning_of (tables l) (sign (codes "|")).kind ≡ meaning.Operator (operator.Binary binary.Bar)
unfolding signs words tables sign_meanings kerml_meanings sysml_meanings
sign_bar Kerml = refl
sign_bar Sysml = refl

pub sign_dollar : (l : Language) → meaning_of (tables l) (sign (codes "$")).kind ≡ meaning.Absolute
unfolding signs words tables sign_meanings kerml_meanings sysml_meanings
sign_dollar Kerml = refl
sign_dollar Sysml = refl

pub sign_question : (l : Language) → meaning_of (tables l) (sign (codes "?")).kind ≡ meaning.Nothing
unfolding signs words tables sign_meanings kerml_meanings sysml_meanings
sign_question Kerml = refl
sign_question Sysml = refl

pub word_about : (l : Language) → meaning_of (tables l) (word l (codes "about")).kind ≡ meaning.Nothing
unfolding signs words tables sign_meanings kerml_meanings sysml_meanings
word_about Kerml = refl
word_about Sysml = refl

pub word_abstract : (l : Language) → meaning_of (tables l) (word l (codes "abstract")).kind ≡ meaning.Mark mark.Abstract
unfolding signs words tables sign_meanings kerml_meanings sysml_meanings
word_abstract Kerml = refl
word_abstract Sysml = refl

pub word_action : meaning_of (tables Sysml) (word Sysml (codes "action")).kind ≡ meaning.Kind kind.Action
unfolding signs words tables sign_meanings kerml_meanings sysml_meanings
word_action = refl

pub word_alias : (l : Language) → meaning_of (tables l) (word l (codes "alias")).kind ≡ meaning.Nothing
unfolding signs words tables sign_meanings kerml_meanings sysml_meanings
word_alias Kerml = refl
word_alias Sysml = refl

pub word_all : (l : Language) → meaning_of (tables l) (word l (codes "all")).kind ≡ meaning.Leaf leaf.All
unfolding signs words tables sign_meanings kerml_meanings sysml_meanings
word_all Kerml = refl
word_all Sysml = refl

pub word_and : (l : Language) → meaning_of (tables l) (word l (codes "and")).kind ≡ meaning.Operator (operator.Binary binary.And)
unfolding signs words tables sign_meanings kerml_meanings sysml_meanings
word_and Kerml = refl
word_and Sysml = refl

pub word_assoc : meaning_of (tables Kerml) (word Kerml (codes "assoc")).kind ≡ meaning.Kind kind.Assoc
unfolding signs words tables sign_meanings kerml_meanings sysml_meanings
word_assoc = refl

pub word_assume : meaning_of (tables Sysml) (word Sysml (codes "assume")).kind ≡ meaning.PartOf part.Assume
unfolding signs words tables sign_meanings kerml_meanings sysml_meanings
word_assume = refl

pub word_attribute : meaning_of (tables Sysml) (word Sysml (codes "attribute")).kind ≡ meaning.Kind kind.Attribute
unfolding signs words tables sign_meanings kerml_meanings sysml_meanings
word_attribute = refl

pub word_behavior : meaning_of (tables Kerml) (word Kerml (codes "behavior")).kind ≡ meaning.Kind kind.Behavior
unfolding signs words tables sign_meanings kerml_meanings sysml_meanings
word_behavior = refl

pub word_bind : meaning_of (tables Sysml) (word Sysml (codes "bind")).kind ≡ meaning.Nothing
unfolding signs words tables sign_meanings kerml_meanings sysml_meanings
word_bind = refl

pub word_binding : meaning_of (tables Sysml) (word Sysml (codes "binding")).kind ≡ meaning.Nothing
unfolding signs words tables sign_meanings kerml_meanings sysml_meanings
word_binding = refl

pub word_by : (l : Language) → meaning_of (tables l) (word l (codes "by")).kind ≡ meaning.Nothing
unfolding signs words tables sign_meanings kerml_meanings sysml_meanings
word_by Kerml = refl
word_by Sysml = refl

pub word_calc : meaning_of (tables Sysml) (word Sysml (codes "calc")).kind ≡ meaning.Kind kind.Calc
unfolding signs words tables sign_meanings kerml_meanings sysml_meanings
word_calc = refl

pub word_class : meaning_of (tables Kerml) (word Kerml (codes "class")).kind ≡ meaning.Kind kind.Class
unfolding signs words tables sign_meanings kerml_meanings sysml_meanings
word_class = refl

pub word_classifier : meaning_of (tables Kerml) (word Kerml (codes "classifier")).kind ≡ meaning.Kind kind.Classifier
unfolding signs words tables sign_meanings kerml_meanings sysml_meanings
word_classifier = refl

pub word_comment : (l : Language) → meaning_of (tables l) (word l (codes "comment")).kind ≡ meaning.Nothing
unfolding signs words tables sign_meanings kerml_meanings sysml_meanings
word_comment Kerml = refl
word_comment Sysml = refl

pub word_composite : meaning_of (tables Kerml) (word Kerml (codes "composite")).kind ≡ meaning.Mark mark.Composite
unfolding signs words tables sign_meanings kerml_meanings sysml_meanings
word_composite = refl

pub word_connect : meaning_of (tables Sysml) (word Sysml (codes "connect")).kind ≡ meaning.Nothing
unfolding signs words tables sign_meanings kerml_meanings sysml_meanings
word_connect = refl

pub word_connection : meaning_of (tables Sysml) (word Sysml (codes "connection")).kind ≡ meaning.Kind kind.Connection
unfolding signs words tables sign_meanings kerml_meanings sysml_meanings
word_connection = refl

pub word_const : meaning_of (tables Kerml) (word Kerml (codes "const")).kind ≡ meaning.Mark mark.Constant
unfolding signs words tables sign_meanings kerml_meanings sysml_meanings
word_const = refl

pub word_constant : meaning_of (tables Sysml) (word Sysml (codes "constant")).kind ≡ meaning.Mark mark.Constant
unfolding signs words tables sign_meanings kerml_meanings sysml_meanings
word_constant = refl

pub word_constraint : meaning_of (tables Sysml) (word Sysml (codes "constraint")).kind ≡ meaning.Kind kind.Constraint
unfolding signs words tables sign_meanings kerml_meanings sysml_meanings
word_constraint = refl

pub word_datatype : meaning_of (tables Kerml) (word Kerml (codes "datatype")).kind ≡ meaning.Kind kind.Datatype
unfolding signs words tables sign_meanings kerml_meanings sysml_meanings
word_datatype = refl

pub word_def : meaning_of (tables Sysml) (word Sysml (codes "def")).kind ≡ meaning.Def
unfolding signs words tables sign_meanings kerml_meanings sysml_meanings
word_def = refl

pub word_default : (l : Language) → meaning_of (tables l) (word l (codes "default")).kind ≡ meaning.Mark mark.Default
unfolding signs words tables sign_meanings kerml_meanings sysml_meanings
word_default Kerml = refl
word_default Sysml = refl

pub word_defined : meaning_of (tables Sysml) (word Sysml (codes "defined")).kind ≡ meaning.Nothing
unfolding signs words tables sign_meanings kerml_meanings sysml_meanings
word_defined = refl

pub word_derived : (l : Language) → meaning_of (tables l) (word l (codes "derived")).kind ≡ meaning.Mark mark.Derived
unfolding signs words tables sign_meanings kerml_meanings sysml_meanings
word_derived Kerml = refl
word_derived Sysml = refl

pub word_doc : (l : Language) → meaning_of (tables l) (word l (codes "doc")).kind ≡ meaning.Nothing
unfolding signs words tables sign_meanings kerml_meanings sysml_meanings
word_doc Kerml = refl
word_doc Sysml = refl

pub word_else : (l : Language) → meaning_of (tables l) (word l (codes "else")).kind ≡ meaning.Nothing
unfolding signs words tables sign_meanings kerml_meanings sysml_meanings
word_else Kerml = refl
word_else Sysml = refl

pub word_end : (l : Language) → meaning_of (tables l) (word l (codes "end")).kind ≡ meaning.Mark mark.End
unfolding signs words tables sign_meanings kerml_meanings sysml_meanings
word_end Kerml = refl
word_end Sysml = refl

pub word_enum : meaning_of (tables Sysml) (word Sysml (codes "enum")).kind ≡ meaning.Kind kind.Enumeration
unfolding signs words tables sign_meanings kerml_meanings sysml_meanings
word_enum = refl

pub word_false : (l : Language) → meaning_of (tables l) (word l (codes "false")).kind ≡ meaning.Leaf (leaf.Boolean false)
unfolding signs words tables sign_meanings kerml_meanings sysml_meanings
word_false Kerml = refl
word_false Sysml = refl

pub word_feature : meaning_of (tables Kerml) (word Kerml (codes "feature")).kind ≡ meaning.Kind kind.Feature
unfolding signs words tables sign_meanings kerml_meanings sysml_meanings
word_feature = refl

pub word_for : (l : Language) → meaning_of (tables l) (word l (codes "for")).kind ≡ meaning.Nothing
unfolding signs words tables sign_meanings kerml_meanings sysml_meanings
word_for Kerml = refl
word_for Sysml = refl

pub word_function : meaning_of (tables Kerml) (word Kerml (codes "function")).kind ≡ meaning.Kind kind.Function
unfolding signs words tables sign_meanings kerml_meanings sysml_meanings
word_function = refl

pub word_if : (l : Language) → meaning_of (tables l) (word l (codes "if")).kind ≡ meaning.Operator operator.If
unfolding signs words tables sign_meanings kerml_meanings sysml_meanings
word_if Kerml = refl
word_if Sysml = refl

pub word_implies : (l : Language) → meaning_of (tables l) (word l (codes "implies")).kind ≡ meaning.Operator (operator.Binary binary.Implies)
unfolding signs words tables sign_meanings kerml_meanings sysml_meanings
word_implies Kerml = refl
word_implies Sysml = refl

pub word_import : (l : Language) → meaning_of (tables l) (word l (codes "import")).kind ≡ meaning.Nothing
unfolding signs words tables sign_meanings kerml_meanings sysml_meanings
word_import Kerml = refl
word_import Sysml = refl

pub word_in : (l : Language) → meaning_of (tables l) (word l (codes "in")).kind ≡ meaning.Direction direction.In
unfolding signs words tables sign_meanings kerml_meanings sysml_meanings
word_in Kerml = refl
word_in Sysml = refl

pub word_inout : (l : Language) → meaning_of (tables l) (word l (codes "inout")).kind ≡ meaning.Direction direction.InOut
unfolding signs words tables sign_meanings kerml_meanings sysml_meanings
word_inout Kerml = refl
word_inout Sysml = refl

pub word_interface : meaning_of (tables Sysml) (word Sysml (codes "interface")).kind ≡ meaning.Kind kind.Interface
unfolding signs words tables sign_meanings kerml_meanings sysml_meanings
word_interface = refl

pub word_item : meaning_of (tables Sysml) (word Sysml (codes "item")).kind ≡ meaning.Kind kind.Item
unfolding signs words tables sign_meanings kerml_meanings sysml_meanings
word_item = refl

pub word_library : (l : Language) → meaning_of (tables l) (word l (codes "library")).kind ≡ meaning.Mark mark.Library
unfolding signs words tables sign_meanings kerml_meanings sysml_meanings
word_library Kerml = refl
word_library Sysml = refl

pub word_locale : (l : Language) → meaning_of (tables l) (word l (codes "locale")).kind ≡ meaning.Nothing
unfolding signs words tables sign_meanings kerml_meanings sysml_meanings
word_locale Kerml = refl
word_locale Sysml = refl

pub word_namespace : meaning_of (tables Kerml) (word Kerml (codes "namespace")).kind ≡ meaning.Nothing
unfolding signs words tables sign_meanings kerml_meanings sysml_meanings
word_namespace = refl

pub word_nonunique : (l : Language) → meaning_of (tables l) (word l (codes "nonunique")).kind ≡ meaning.Mark mark.Nonunique
unfolding signs words tables sign_meanings kerml_meanings sysml_meanings
word_nonunique Kerml = refl
word_nonunique Sysml = refl

pub word_not : (l : Language) → meaning_of (tables l) (word l (codes "not")).kind ≡ meaning.Operator operator.Not
unfolding signs words tables sign_meanings kerml_meanings sysml_meanings
word_not Kerml = refl
word_not Sysml = refl

pub word_null : (l : Language) → meaning_of (tables l) (word l (codes "null")).kind ≡ meaning.Leaf leaf.Null
unfolding signs words tables sign_meanings kerml_meanings sysml_meanings
word_null Kerml = refl
word_null Sysml = refl

pub word_occurrence : meaning_of (tables Sysml) (word Sysml (codes "occurrence")).kind ≡ meaning.Kind kind.Occurrence
unfolding signs words tables sign_meanings kerml_meanings sysml_meanings
word_occurrence = refl

pub word_or : (l : Language) → meaning_of (tables l) (word l (codes "or")).kind ≡ meaning.Operator (operator.Binary binary.Or)
unfolding signs words tables sign_meanings kerml_meanings sysml_meanings
word_or Kerml = refl
word_or Sysml = refl

pub word_ordered : (l : Language) → meaning_of (tables l) (word l (codes "ordered")).kind ≡ meaning.Mark mark.Ordered
unfolding signs words tables sign_meanings kerml_meanings sysml_meanings
word_ordered Kerml = refl
word_ordered Sysml = refl

pub word_out : (l : Language) → meaning_of (tables l) (word l (codes "out")).kind ≡ meaning.Direction direction.Out
unfolding signs words tables sign_meanings kerml_meanings sysml_meanings
word_out Kerml = refl
word_out Sysml = refl

pub word_package : (l : Language) → meaning_of (tables l) (word l (codes "package")).kind ≡ meaning.Nothing
unfolding signs words tables sign_meanings kerml_meanings sysml_meanings
word_package Kerml = refl
word_package Sysml = refl

pub word_part : meaning_of (tables Sysml) (word Sysml (codes "part")).kind ≡ meaning.Kind kind.Part
unfolding signs words tables sign_meanings kerml_meanings sysml_meanings
word_part = refl

pub word_port : meaning_of (tables Sysml) (word Sysml (codes "port")).kind ≡ meaning.Kind kind.Port
unfolding signs words tables sign_meanings kerml_meanings sysml_meanings
word_port = refl

pub word_private : (l : Language) → meaning_of (tables l) (word l (codes "private")).kind ≡ meaning.Visibility visibility.Private
unfolding signs words tables sign_meanings kerml_meanings sysml_meanings
word_private Kerml = refl
word_private Sysml = refl

pub word_protected : (l : Language) → meaning_of (tables l) (word l (codes "protected")).kind ≡ meaning.Visibility visibility.Protected
unfolding signs words tables sign_meanings kerml_meanings sysml_meanings
word_protected Kerml = refl
word_protected Sysml = refl

pub word_public : (l : Language) → meaning_of (tables l) (word l (codes "public")).kind ≡ meaning.Visibility visibility.Public
unfolding signs words tables sign_meanings kerml_meanings sysml_meanings
word_public Kerml = refl
word_public Sysml = refl

pub word_redefines : (l : Language) → meaning_of (tables l) (word l (codes "redefines")).kind ≡ meaning.Nothing
unfolding signs words tables sign_meanings kerml_meanings sysml_meanings
word_redefines Kerml = refl
word_redefines Sysml = refl

pub word_ref : meaning_of (tables Sysml) (word Sysml (codes "ref")).kind ≡ meaning.Mark mark.Reference
unfolding signs words tables sign_meanings kerml_meanings sysml_meanings
word_ref = refl

pub word_references : (l : Language) → meaning_of (tables l) (word l (codes "references")).kind ≡ meaning.Nothing
unfolding signs words tables sign_meanings kerml_meanings sysml_meanings
word_references Kerml = refl
word_references Sysml = refl

pub word_require : meaning_of (tables Sysml) (word Sysml (codes "require")).kind ≡ meaning.PartOf part.Require
unfolding signs words tables sign_meanings kerml_meanings sysml_meanings
word_require = refl

pub word_requirement : meaning_of (tables Sysml) (word Sysml (codes "requirement")).kind ≡ meaning.Kind kind.Requirement
unfolding signs words tables sign_meanings kerml_meanings sysml_meanings
word_requirement = refl

pub word_return : (l : Language) → meaning_of (tables l) (word l (codes "return")).kind ≡ meaning.PartOf part.Return
unfolding signs words tables sign_meanings kerml_meanings sysml_meanings
word_return Kerml = refl
word_return Sysml = refl

pub word_specializes : (l : Language) → meaning_of (tables l) (word l (codes "specializes")).kind ≡ meaning.Nothing
unfolding signs words tables sign_meanings kerml_meanings sysml_meanings
word_specializes Kerml = refl
word_specializes Sysml = refl

pub word_standard : (l : Language) → meaning_of (tables l) (word l (codes "standard")).kind ≡ meaning.Mark mark.Standard
unfolding signs words tables sign_meanings kerml_meanings sysml_meanings
word_standard Kerml = refl
word_standard Sysml = refl

pub word_step : meaning_of (tables Kerml) (word Kerml (codes "step")).kind ≡ meaning.Kind kind.Step
unfolding signs words tables sign_meanings kerml_meanings sysml_meanings
word_step = refl

pub word_struct : meaning_of (tables Kerml) (word Kerml (codes "struct")).kind ≡ meaning.Kind kind.Struct
unfolding signs words tables sign_meanings kerml_meanings sysml_meanings
word_struct = refl

pub word_subject : meaning_of (tables Sysml) (word Sysml (codes "subject")).kind ≡ meaning.PartOf part.Subject
unfolding signs words tables sign_meanings kerml_meanings sysml_meanings
word_subject = refl

pub word_subsets : (l : Language) → meaning_of (tables l) (word l (codes "subsets")).kind ≡ meaning.Nothing
unfolding signs words tables sign_meanings kerml_meanings sysml_meanings
word_subsets Kerml = refl
word_subsets Sysml = refl

pub word_to : meaning_of (tables Sysml) (word Sysml (codes "to")).kind ≡ meaning.Nothing
unfolding signs words tables sign_meanings kerml_meanings sysml_meanings
word_to = refl

pub word_true : (l : Language) → meaning_of (tables l) (word l (codes "true")).kind ≡ meaning.Leaf (leaf.Boolean true)
unfolding signs words tables sign_meanings kerml_meanings sysml_meanings
word_true Kerml = refl
word_true Sysml = refl

pub word_type : meaning_of (tables Kerml) (word Kerml (codes "type")).kind ≡ meaning.Kind kind.AnyType
unfolding signs words tables sign_meanings kerml_meanings sysml_meanings
word_type = refl

pub word_typed : meaning_of (tables Kerml) (word Kerml (codes "typed")).kind ≡ meaning.Nothing
unfolding signs words tables sign_meanings kerml_meanings sysml_meanings
word_typed = refl

pub word_xor : (l : Language) → meaning_of (tables l) (word l (codes "xor")).kind ≡ meaning.Operator (operator.Binary binary.Xor)
unfolding signs words tables sign_meanings kerml_meanings sysml_meanings
word_xor Kerml = refl
word_xor Sysml = refl
