-- The claims about the inner symbols of each language's grammar.
use Rattle.std.specs.Prelude.{ℕ, List}
use Rattle.element_store.specs.declared.outcome.Language.{Language}
use Rattle.element_store.specs.declared.outcome.Language.TheVariants.{Kerml, Sysml}
use Rattle.text_model.specs.Wholes.{Claim}
use Rattle.text_model.specs.KermlWholes.{kerml_wholes}
use Rattle.text_model.specs.SysmlWholes.{sysml_wholes}
use Rattle.text_model.specs.Roles.{RoleClaim}
use Rattle.text_model.specs.KermlRoles.{kerml_roles}
use Rattle.text_model.specs.SysmlRoles.{sysml_roles}
use Rattle.text_model.specs.KermlSlacks.{kerml_slacks}
use Rattle.text_model.specs.SysmlSlacks.{sysml_slacks}
use Rattle.text_model.specs.Modes.{ModeClaim}
use Rattle.text_model.specs.KermlModes.{kerml_modes}
use Rattle.text_model.specs.SysmlModes.{sysml_modes}

unfoldable pub wholes_of : Language → List Claim
wholes_of Kerml = kerml_wholes
wholes_of Sysml = sysml_wholes

unfoldable pub roles_of : Language → List RoleClaim
roles_of Kerml = kerml_roles
roles_of Sysml = sysml_roles

unfoldable pub slacks_of : Language → List ℕ
slacks_of Kerml = kerml_slacks
slacks_of Sysml = sysml_slacks

unfoldable pub modes_of : Language → List ModeClaim
modes_of Kerml = kerml_modes
modes_of Sysml = sysml_modes
