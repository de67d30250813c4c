use Rattle.text_laws.proofs.OutcomeLaws as laws
use Rattle.text_laws.proofs.SomeOutcome.{some_outcome}
use Rattle.text_laws.proofs.laws.one_outcome.Goals as goal

pub returns-clause-model : goal.returns-clause-model
returns-clause-model c = laws.one_model

pub returns-clause-either : goal.returns-clause-either
returns-clause-either c = laws.model_or_fault

pub returns-clause-fault : goal.returns-clause-fault
returns-clause-fault c = laws.one_fault

pub returns-clause-some : goal.returns-clause-some
returns-clause-some c = some_outcome
