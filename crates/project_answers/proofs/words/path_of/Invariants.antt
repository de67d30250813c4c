-- the whole path is that of the names that were read, and of what follows
use Rattle.std.proofs.Common.{◌≡◌, drop}
use Rattle.std.specs.Prelude.{false}
use Rattle.book_model.specs.AskedNames.{path_from}
use Rattle.project_answers.specs.Words.{path_behind}
use Rattle.project_answers.proofs.words.path_of.Given as goal

abbrev pub invariant-loop-token : goal.invariant-loop-token
invariant-loop-token l = path_from false l.words l.tokens ≡ path_behind l.path l.named l.words (drop l.token-index l.tokens)
