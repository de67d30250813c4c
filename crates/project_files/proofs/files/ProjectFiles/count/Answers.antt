use Rattle.std.proofs.Common.{◌∙◌, length, ap, sym}
use Rattle.project_files.proofs.KeptLaws.{files_long}
use Rattle.project_files.proofs.files.ProjectFiles.count.Goals as goal

pub returns : goal.returns
returns c = c.files.ensures.count ∙ sym (files_long 0 c.self.inside.models c.self.inside.contents.items c.self.invariant) ∙ ap length c.self.view_is
