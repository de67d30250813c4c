use Rattle.project_files.proofs.KeptLaws.{live_within}
use Rattle.edit_rows.proofs.outcomes.write_member.Goals as goal

pub file_text-requires : goal.file_text-requires
file_text-requires c =
    live_within c.args.project.now.files c.args.member.file c.requires.0 c.requires.1
