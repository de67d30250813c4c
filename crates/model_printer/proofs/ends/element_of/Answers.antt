use Rattle.model_printer.proofs.EndLaws.{names_stand}
use Rattle.model_printer.proofs.ends.element_of.Goals as goal

pub returns-clause-names : goal.returns-clause-names
returns-clause-names c =
    names_stand c.args.model.now c.elements.ensures.model c.args.element c.element.result.now c.element.ensures.lent
