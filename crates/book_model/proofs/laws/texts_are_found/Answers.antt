use Rattle.book_model.proofs.FileLaws.{texts_found}
use Rattle.book_model.proofs.laws.texts_are_found.Goals as goal

pub returns : goal.returns
returns c = texts_found
