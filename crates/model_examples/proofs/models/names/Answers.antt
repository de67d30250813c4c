use Rattle.model_examples.specs.Worked.{names_are_models}
use Rattle.model_examples.proofs.models.names.Goals as goal

pub model-requires : goal.model-requires
model-requires c = names_are_models c.args.file
