use Rattle.book_model.proofs.ChangeLaws.{files_changed, found_changed, stored_changed}
use Rattle.book_model.proofs.laws.edits_change_one_file.Goals as goal

pub returns : goal.returns
returns c = record {
  files = λ book library files name are text c is. files_changed book library files name text c are is;
  found = found_changed;
  stored = stored_changed;
}
