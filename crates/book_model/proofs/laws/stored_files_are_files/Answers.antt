use Rattle.book_model.proofs.StoredLaws.{stored_are_files}
use Rattle.book_model.proofs.laws.stored_files_are_files.Goals as goal

pub returns : goal.returns
returns c = λ h book library files both. stored_are_files h book library files both.0 both.1
