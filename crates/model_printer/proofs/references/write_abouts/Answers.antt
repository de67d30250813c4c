use Rattle.std.proofs.Common.{◌∙◌, ap}
use Rattle.print_model.specs.Heads.{is_about, references_in}
use Rattle.model_printer.specs.Sheets.{puts}
use Rattle.model_printer.proofs.ListLaws.{abouts_is}
use Rattle.model_printer.proofs.references.write_abouts.Goals as goal

pub returns : goal.returns
returns c =
    c.in_ok-write_list.ensures
    ∙ ap (puts c.args.writer.now) (abouts_is c.args.model.now.language (references_in c.args.model.now is_about c.args.element))
