use Rattle.model_examples.specs.Worked.{libraries_are_models}
use Rattle.model_examples.proofs.models.library.Goals as goal

pub model-requires : goal.model-requires
model-requires c = libraries_are_models c.args.file
