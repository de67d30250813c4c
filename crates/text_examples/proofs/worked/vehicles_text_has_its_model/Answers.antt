use Rattle.std.proofs.Common.{◌≡◌, [], ◌∷◌, refl}
use Rattle.std.specs.Prelude.{Some, None}
use Rattle.element_store.specs.declared.outcome.Language.TheVariants.{Sysml}
use Rattle.token_core.specs.Words.{signs, words}
use Rattle.token_core.specs.Lex.{too_deep}
use Rattle.ll_core.specs.declared.grammar.Symbol.TheVariants.{Inner}
use Rattle.ll_core.specs.Derives.{IsTree}
use Rattle.sysml_grammar.specs.Terms.{sign, word}
use Rattle.sysml_grammar.specs.Rules.{sysml_rules}
use Rattle.sysml_grammar.specs.Grammar.{sysml_table}
use Rattle.text_model.specs.SysmlActions.{sysml_actions}
use Rattle.text_model.specs.SignMeanings.{sign_meanings}
use Rattle.text_model.specs.SysmlMeanings.{sysml_meanings}
use Rattle.text_model.specs.Languages.{grammar_of}
use Rattle.text_model.specs.Tables.{tables}
use Rattle.text_model.specs.Numbering.{limits}
use Rattle.text_model.specs.Profile.{kinds_of, drafts_of}
use Rattle.text_examples.specs.Worked.{vehicles_text}
use Rattle.text_examples.proofs.Evaluation.{utf8_from, all_tokens, lexed, derived_from}
use Rattle.text_examples.proofs.VehicleTree.{vehicles_tokens, vehicles_tree}
use Rattle.text_examples.proofs.worked.vehicles_text_has_its_model.Goals as goal

-- its tokens, piece by piece
tokens_are : all_tokens Sysml vehicles_text 500 0 [] ≡ Some vehicles_tokens
unfolding vehicles_text vehicles_tokens signs words
tokens_are = refl

-- its brackets
no_deeper : too_deep 0 vehicles_tokens ≡ None
unfolding vehicles_tokens signs
no_deeper = refl

-- its tree
tree_is : IsTree (grammar_of Sysml) (kinds_of vehicles_tokens) vehicles_tree
unfolding vehicles_tokens vehicles_tree grammar_of sysml_table sysml_rules sign word signs words
tree_is = (derived_from (grammar_of Sysml) vehicles_tree (Inner (grammar_of Sysml).start ∷ []) refl, refl)

none_passed : limits (drafts_of Sysml vehicles_text vehicles_tokens vehicles_tree) ≡ []
unfolding vehicles_text vehicles_tokens vehicles_tree tables sysml_actions sign_meanings sysml_meanings
none_passed = refl

pub returns : goal.returns
unfolding vehicles_text vehicles_tokens vehicles_tree tables sysml_actions sign_meanings sysml_meanings
returns c = λ file. record {
  tokens = vehicles_tokens;
  tree = vehicles_tree;
  read = record { lexed = (utf8_from vehicles_text refl, lexed Sysml vehicles_text 500 vehicles_tokens tokens_are, no_deeper); derived = tree_is };
  within = none_passed;
  model = refl;
}
