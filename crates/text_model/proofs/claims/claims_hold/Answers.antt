use Rattle.text_model.proofs.Evaluated as laws
use Rattle.text_model.proofs.claims.claims_hold.Goals as goal

pub returns-clause-wholes : goal.returns-clause-wholes
returns-clause-wholes c = laws.wholes_hold

pub returns-clause-roles : goal.returns-clause-roles
returns-clause-roles c = laws.roles_hold

pub returns-clause-slacks : goal.returns-clause-slacks
returns-clause-slacks c = laws.slacks_hold

pub returns-clause-modes : goal.returns-clause-modes
returns-clause-modes c = laws.modes_hold
