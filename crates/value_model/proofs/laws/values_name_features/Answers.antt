use Rattle.value_model.proofs.StandLaws.{value_names}
use Rattle.value_model.proofs.laws.values_name_features.Goals as goal

pub returns : goal.returns
returns c = value_names
