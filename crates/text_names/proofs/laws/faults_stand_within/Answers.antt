use Rattle.text_names.proofs.PlaceLaws.{fault_within}
use Rattle.text_names.proofs.laws.faults_stand_within.Goals as goal

pub returns : goal.returns
returns c = fault_within
