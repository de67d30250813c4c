use Rattle.std.proofs.Common.{◌≡◌, ◌++◌, take}
use Rattle.book_model.specs.Spelling.{spelt_path}
use Rattle.written_names.proofs.names.write_path.Given as goal

abbrev pub invariant-loop-index : goal.invariant-loop-index
invariant-loop-index l = l.answer.items ≡ l.fn.answer.items ++ spelt_path l.language (take l.index l.path)
