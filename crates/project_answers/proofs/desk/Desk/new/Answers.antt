use Rattle.std.proofs.Common.{sym, subst}
use Rattle.library_texts.specs.Texts as texts
use Rattle.book_model.specs.Proper.{IsProperLibrary}
use Rattle.project_book.specs.Held.{IsOpenedOver}
use Rattle.project_answers.proofs.ShippedLibrary.{library_proper}
use Rattle.project_answers.proofs.desk.Desk.new.Goals as goal

pub open-requires : goal.open-requires
open-requires g c = subst IsProperLibrary (sym c.library.ensures) library_proper

pub returns : goal.returns
returns g c = subst (λ ts. IsOpenedOver ts c.in_ok-project.project) c.library.ensures c.in_ok-project.ensures
