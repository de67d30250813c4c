use Rattle.book_model.proofs.FileLaws.{one_reading, one_files}
use Rattle.book_model.proofs.laws.one_list_of_files.Goals as goal

pub returns : goal.returns
returns c = record { reading = one_reading; files = λ h book library a b both. one_files h book library a b both.0 both.1 }
