-- What the productions and the tokens of a language mean.
use Rattle.std.specs.Prelude.{ℕ, List, slice_index_or}
use Rattle.element_store.specs.declared.outcome.Language.{Language}
use Rattle.element_store.specs.declared.outcome.Language.TheVariants.{Kerml, Sysml}
use Rattle.token_core.specs.declared.token.TokenKind.{TokenKind}
use Rattle.token_core.specs.declared.token.TokenKind.TheVariants as kind
use Rattle.text_model.specs.declared.action.Action.{Action}
use Rattle.text_model.specs.declared.action.Action.TheVariants as action
use Rattle.text_model.specs.declared.action.Meaning.{Meaning}
use Rattle.text_model.specs.declared.action.Meaning.TheVariants as meaning
use Rattle.text_model.specs.KermlActions.{kerml_actions}
use Rattle.text_model.specs.SysmlActions.{sysml_actions}
use Rattle.text_model.specs.SignMeanings.{sign_meanings}
use Rattle.text_model.specs.KermlMeanings.{kerml_meanings}
use Rattle.text_model.specs.SysmlMeanings.{sysml_meanings}

-- by production, by sign and by reserved word
pub record Tables : Type 0 where
  pub actions : List Action
  pub signs : List Meaning
  pub words : List Meaning

unfoldable pub tables : Language → Tables
tables Kerml = record { actions = kerml_actions; signs = sign_meanings; words = kerml_meanings }
tables Sysml = record { actions = sysml_actions; signs = sign_meanings; words = sysml_meanings }

-- what a production means
abbrev pub action_at : Tables → ℕ → Action
action_at t p = slice_index_or t.actions p action.Group

-- what a token of a kind means
abbrev pub meaning_of : Tables → TokenKind → Meaning
meaning_of t kind.Name = meaning.Name
meaning_of t kind.Integer = meaning.Integer
meaning_of t kind.Quote = meaning.Text
meaning_of t kind.Comment = meaning.Comment
meaning_of t (kind.Sign n) = slice_index_or t.signs n meaning.Nothing
meaning_of t (kind.Word n) = slice_index_or t.words n meaning.Nothing
