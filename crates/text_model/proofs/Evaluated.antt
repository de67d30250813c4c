-- The claims hold of both grammars, by evaluation.
use Rattle.std.proofs.Common.{◌≡◌, refl}
use Rattle.std.specs.Prelude.{true}
use Rattle.element_store.specs.declared.outcome.Language.{Language}
use Rattle.element_store.specs.declared.outcome.Language.TheVariants.{Kerml, Sysml}
use Rattle.token_core.specs.Words.{signs, words}
use Rattle.kerml_grammar.specs.Terms as kerml
use Rattle.kerml_grammar.specs.Rules.{kerml_rules}
use Rattle.kerml_grammar.specs.Grammar.{kerml_table}
use Rattle.sysml_grammar.specs.Terms as sysml
use Rattle.sysml_grammar.specs.Rules.{sysml_rules}
use Rattle.sysml_grammar.specs.Grammar.{sysml_table}
use Rattle.text_model.specs.KermlActions.{kerml_actions}
use Rattle.text_model.specs.SysmlActions.{sysml_actions}
use Rattle.text_model.specs.SignMeanings.{sign_meanings}
use Rattle.text_model.specs.KermlMeanings.{kerml_meanings}
use Rattle.text_model.specs.SysmlMeanings.{sysml_meanings}
use Rattle.text_model.specs.Languages.{grammar_of}
use Rattle.text_model.specs.Tables.{tables}
use Rattle.text_model.specs.Wholes.{are_wholes}
use Rattle.text_model.specs.KermlWholes.{kerml_wholes}
use Rattle.text_model.specs.SysmlWholes.{sysml_wholes}
use Rattle.text_model.specs.Roles.{are_roles}
use Rattle.text_model.specs.KermlRoles.{kerml_roles}
use Rattle.text_model.specs.SysmlRoles.{sysml_roles}
use Rattle.text_model.specs.Slacks.{are_slacks}
use Rattle.text_model.specs.KermlSlacks.{kerml_slacks}
use Rattle.text_model.specs.SysmlSlacks.{sysml_slacks}
use Rattle.text_model.specs.Modes.{are_modes}
use Rattle.text_model.specs.KermlModes.{kerml_modes}
use Rattle.text_model.specs.SysmlModes.{sysml_modes}
use Rattle.text_model.specs.ClaimLists.{wholes_of, roles_of, slacks_of, modes_of}

pub wholes_hold : (l : Language) → are_wholes (tables l) (wholes_of l) (grammar_of l) ≡ true
unfolding grammar_of kerml_table kerml_rules kerml.sign kerml.word sysml_table sysml_rules sysml.sign sysml.word signs words tables kerml_actions
    sysml_actions sign_meanings kerml_meanings sysml_meanings wholes_of kerml_wholes sysml_wholes
wholes_hold Kerml = refl
wholes_hold Sysml = refl

pub roles_hold : (l : Language) → are_roles (tables l) (roles_of l) (grammar_of l) ≡ true
unfolding grammar_of kerml_table kerml_rules kerml.sign kerml.word sysml_table sysml_rules sysml.sign sysml.word signs words tables kerml_actions
    sysml_actions sign_meanings kerml_meanings sysml_meanings roles_of kerml_roles sysml_roles
roles_hold Kerml = refl
roles_hold Sysml = refl

pub slacks_hold : (l : Language) → are_slacks (tables l) (slacks_of l) (grammar_of l) ≡ true
unfolding grammar_of kerml_table kerml_rules kerml.sign kerml.word sysml_table sysml_rules sysml.sign sysml.word signs words tables kerml_actions
    sysml_actions slacks_of kerml_slacks sysml_slacks
slacks_hold Kerml = refl
slacks_hold Sysml = refl

pub modes_hold : (l : Language) → are_modes (tables l) (modes_of l) (grammar_of l) ≡ true
unfolding grammar_of kerml_table kerml_rules kerml.sign kerml.word sysml_table sysml_rules sysml.sign sysml.word signs words tables kerml_actions
    sysml_actions sign_meanings kerml_meanings sysml_meanings modes_of kerml_modes sysml_modes
modes_hold Kerml = refl
modes_hold Sysml = refl
