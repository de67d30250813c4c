use Rattle.ll_core.proofs.Places as laws
use Rattle.ll_core.proofs.whole.one_place.Goals as goal

pub returns-clause-one : goal.returns-clause-one
returns-clause-one c = laws.one_place

pub returns-clause-none : goal.returns-clause-none
returns-clause-none c = laws.derived_goes_on
