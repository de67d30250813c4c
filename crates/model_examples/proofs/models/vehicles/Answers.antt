use Rattle.model_examples.specs.Worked.{vehicles_are_models}
use Rattle.model_examples.proofs.models.vehicles.Goals as goal

pub model-requires : goal.model-requires
model-requires c = vehicles_are_models c.args.file
