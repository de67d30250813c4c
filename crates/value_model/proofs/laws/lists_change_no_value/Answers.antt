use Rattle.value_model.proofs.ValueLaws.{same_values}
use Rattle.value_model.proofs.laws.lists_change_no_value.Goals as goal

pub returns : goal.returns
returns c = same_values
