use Rattle.model_examples.specs.Worked.{redefinings_are_models}
use Rattle.model_examples.proofs.models.redefinings.Goals as goal

pub model-requires : goal.model-requires
model-requires c = redefinings_are_models c.args.file
