use Rattle.std.proofs.Common.{◌∙◌, sym, ap}
use Rattle.book_model.specs.Files.{stored}
use Rattle.project_files.proofs.KeptLaws.{stored_kept}
use Rattle.project_files.proofs.files.ProjectFiles.models.Goals as goal

pub returns : goal.returns
returns c = sym (stored_kept c.self.inside.models c.self.inside.contents.items c.self.invariant) ∙ ap stored c.self.view_is
