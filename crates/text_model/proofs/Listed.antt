-- The statics are the definitions.
use Rattle.std.proofs.Common.{◌≡◌, refl}
use Rattle.text_model.specs.declared.kerml_actions.TheConstants.{KERML_ACTIONS}
use Rattle.text_model.specs.declared.sysml_actions.TheConstants.{SYSML_ACTIONS}
use Rattle.text_model.specs.declared.kerml_meanings.TheConstants.{KERML_MEANINGS}
use Rattle.text_model.specs.declared.sysml_meanings.TheConstants.{SYSML_MEANINGS}
use Rattle.text_model.specs.declared.sign_meanings.TheConstants.{SIGN_MEANINGS}
use Rattle.text_model.specs.KermlActions.{kerml_actions}
use Rattle.text_model.specs.SysmlActions.{sysml_actions}
use Rattle.text_model.specs.SignMeanings.{sign_meanings}
use Rattle.text_model.specs.KermlMeanings.{kerml_meanings}
use Rattle.text_model.specs.SysmlMeanings.{sysml_meanings}

pub kerml_actions_listed : KERML_ACTIONS ≡ kerml_actions
unfolding kerml_actions
kerml_actions_listed = refl

pub sysml_actions_listed : SYSML_ACTIONS ≡ sysml_actions
unfolding sysml_actions
sysml_actions_listed = refl

pub sign_meanings_listed : SIGN_MEANINGS ≡ sign_meanings
unfolding sign_meanings
sign_meanings_listed = refl

pub kerml_meanings_listed : KERML_MEANINGS ≡ kerml_meanings
unfolding kerml_meanings
kerml_meanings_listed = refl

pub sysml_meanings_listed : SYSML_MEANINGS ≡ sysml_meanings
unfolding sysml_meanings
sysml_meanings_listed = refl
