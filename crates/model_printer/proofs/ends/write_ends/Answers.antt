use Rattle.std.proofs.Common.{◌∙◌, ap, sym}
use Rattle.model_printer.specs.Sheets.{puts}
use Rattle.model_printer.proofs.EndLaws.{many_ends}
use Rattle.model_printer.proofs.ends.write_ends.Goals as goal

pub returns : goal.returns
returns c =
    c.in_ok-write_many_ends.ensures c.args.model.now.language
    ∙ ap (puts c.args.writer.now) (sym (many_ends c.args.model.now c.args.kind c.args.ends.now c.if-ends-eq0.false c.if-ends-eq2.false))
