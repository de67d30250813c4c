-- the first files were added
use Rattle.project_book.proofs.LibraryLaws.{AreAdded}
use Rattle.project_book.proofs.project.Project.open.Given as goal

abbrev pub invariant-loop-file : goal.invariant-loop-file
invariant-loop-file l = AreAdded l.named l.library l.file-index
