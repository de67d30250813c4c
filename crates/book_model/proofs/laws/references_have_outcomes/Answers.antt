use Rattle.book_model.proofs.OutcomeLaws.{outcome_is}
use Rattle.book_model.proofs.laws.references_have_outcomes.Goals as goal

pub returns : goal.returns
returns c = outcome_is
