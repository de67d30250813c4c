use Rattle.book_model.proofs.ProperLaws.{empty_proper, edit_proper, proper_small}
use Rattle.book_model.proofs.laws.edited_books_are_proper.Goals as goal

pub returns : goal.returns
returns c = record { empty = empty_proper; kept = edit_proper; small = proper_small }
