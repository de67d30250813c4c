use Rattle.book_laws.proofs.ExactlyLaws.{answers_once}
use Rattle.book_laws.proofs.laws.commands_have_answers.Goals as goal

pub returns : goal.returns
returns c = answers_once
