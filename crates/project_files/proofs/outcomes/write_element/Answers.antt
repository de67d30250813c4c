use Rattle.project_files.proofs.KeptLaws.{live_within}
use Rattle.project_files.proofs.outcomes.write_element.Goals as goal

pub name-requires : goal.name-requires
name-requires c = live_within c.args.files.now c.args.element.file c.requires.0 c.requires.1
