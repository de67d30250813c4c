use Rattle.project_answers.proofs.RowLaws.{file_live}
use Rattle.project_answers.proofs.rows.line.Goals as goal

pub write_before-requires : goal.write_before-requires
write_before-requires c = file_live c.args.files.now c.args.row.now.reference c.requires.stands
