use Rattle.project_files.proofs.KeptLaws.{live_within}
use Rattle.project_files.proofs.outcomes.write_member.Goals as goal

pub write_spot-requires : goal.write_spot-requires
write_spot-requires c = live_within c.args.files.now c.args.member.file c.requires.0 c.requires.1
