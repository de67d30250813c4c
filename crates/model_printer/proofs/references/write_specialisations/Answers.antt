use Rattle.std.proofs.Common.{◌∙◌, ap}
use Rattle.std.specs.Prelude.{None}
use Rattle.print_model.specs.Heads.{is_specialisation, references_in}
use Rattle.model_printer.specs.Sheets.{puts}
use Rattle.model_printer.proofs.ListLaws.{specialised_is}
use Rattle.model_printer.proofs.references.write_specialisations.Goals as goal

pub returns : goal.returns
returns c =
    c.in_ok-write_list.ensures
    ∙ ap (puts c.args.writer.now) (specialised_is c.args.model.now.language None (references_in c.args.model.now is_specialisation c.args.element))
