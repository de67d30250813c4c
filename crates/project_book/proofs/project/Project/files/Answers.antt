use Rattle.std.proofs.Common.{◌∙◌, ap, subst}
use Rattle.book_model.specs.Files.{AreFilesOf}
use Rattle.project_book.specs.Named.{AreRead, book_of}
use Rattle.project_book.proofs.NamedLaws.{files_of_book}
use Rattle.project_book.proofs.project.Project.files.Goals as goal

pub returns-clause-are : goal.returns-clause-are
returns-clause-are c =
    let view = ap (λ held. held.files) c.self.view_is in
    files_of_book 0 c.args.self.now.files (subst AreRead view c.files.ensures.read)
