use Rattle.book_model.proofs.LabelLaws.{parts_are}
use Rattle.book_model.proofs.laws.labels_have_steps.Goals as goal

pub returns : goal.returns
returns c = parts_are
