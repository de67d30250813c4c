-- What printing asks of a model holds of the model of each text.
use Rattle.print_model.proofs.TreeLaws.{expressions_have_trees}
use Rattle.model_printer.specs.Conditions.{ProfileHasExpressions}

-- each value and each result of the model of a text spells an expression
pub profile_has_expressions : ProfileHasExpressions
profile_has_expressions file language text d few within = λ n e ns at is. expressions_have_trees file language text d n e ns few within at is
