use Rattle.value_model.proofs.ValueLaws.{reachable_keys, value_lawful, ordered_values}
use Rattle.value_model.proofs.laws.values_are_lawful.Goals as goal

pub returns : goal.returns
returns c = record { lawful = value_lawful; ordered = ordered_values; reachable = reachable_keys }
