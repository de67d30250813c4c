use Rattle.project_answers.proofs.RowLaws.{file_live}
use Rattle.project_core.proofs.tests.is_row.Goals as goal

pub file_text-requires : goal.file_text-requires
file_text-requires c = file_live c.args.project.now.files c.args.row.now.reference c.requires.0
