use Rattle.std.proofs.Common.{◌∙◌, length, ap, arith}
use Rattle.book_model.specs.Files.{name_at}
use Rattle.project_files.proofs.KeptLaws.{files_long, name_kept, stored_at}
use Rattle.project_files.proofs.files.ProjectFiles.name.Goals as goal

pub name-requires : goal.name-requires
name-requires c =
    let long = files_long 0 c.self.inside.models c.self.inside.contents.items c.self.invariant in
    let same = ap length c.self.view_is in
    omega (arith, c.requires, long, same)

pub returns : goal.returns
returns c =
    let xs = c.self.inside.models in
    let long = files_long 0 xs c.self.inside.contents.items c.self.invariant in
    let same = ap length c.self.view_is in
    let found = stored_at xs c.args.file.0 (omega (arith, c.requires, long, same)) in
    c.name.ensures found.0 found.1 ∙ name_kept xs c.self.inside.contents.items c.self.invariant c.args.file found.0 found.1
    ∙ ap (λ files. name_at files c.args.file) c.self.view_is
