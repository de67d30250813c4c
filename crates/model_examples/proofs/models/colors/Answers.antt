use Rattle.model_examples.specs.Worked.{colors_are_models}
use Rattle.model_examples.proofs.models.colors.Goals as goal

pub model-requires : goal.model-requires
model-requires c = colors_are_models c.args.file
