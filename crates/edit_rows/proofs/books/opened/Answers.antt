use Rattle.std.proofs.Common.{sym, subst}
use Rattle.book_model.specs.Proper.{IsProperLibrary}
use Rattle.project_answers.proofs.ShippedLibrary.{library_proper}
use Rattle.edit_rows.proofs.books.opened.Goals as goal

pub open-requires : goal.open-requires
open-requires c = subst IsProperLibrary (sym c.library.ensures) library_proper
