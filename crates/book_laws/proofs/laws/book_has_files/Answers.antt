use Rattle.book_laws.proofs.ExactlyLaws.{files_once, book_files}
use Rattle.book_laws.proofs.laws.book_has_files.Goals as goal

pub returns : goal.returns
returns c = record { one = files_once; files = book_files }
