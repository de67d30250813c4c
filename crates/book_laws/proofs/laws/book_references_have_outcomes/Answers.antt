use Rattle.book_laws.proofs.ExactlyLaws.{book_outcome}
use Rattle.book_laws.proofs.laws.book_references_have_outcomes.Goals as goal

pub returns : goal.returns
returns c = λ book library files r both. book_outcome book library files r both.0 both.1
