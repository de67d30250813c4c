use Rattle.std.proofs.Common.{◌∙◌, sym, ap}
use Rattle.std.specs.Prelude.{codes}
use Rattle.book_model.specs.AskedNames.{is_sign}
use Rattle.project_answers.proofs.NameLaws.{dollar_number}
use Rattle.project_answers.proofs.words.is_dollar.Goals as goal

pub returns-in-Sign : goal.returns-in-Sign
returns-in-Sign c = sym (ap (is_sign (codes "$")) c.in-Sign.is ∙ dollar_number c.in-Sign.number)
