use Rattle.library_texts.specs.Texts as texts
use Rattle.project_answers.proofs.AnswerLaws.{opened_over}
use Rattle.project_answers.proofs.desk.DeskOpening.open.Goals as goal

pub returns : goal.returns
returns g c = opened_over texts.library c.new.result c.new.ensures
