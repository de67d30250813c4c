use Rattle.std.proofs.Common.{◌∙◌, ap, sym, subst}
use Rattle.print_model.specs.Heads.{expression, result_lines}
use Rattle.model_printer.specs.Bodies.{AreWritten}
use Rattle.model_printer.specs.Conditions.{IsExpression}
use Rattle.model_printer.specs.Sheets.{puts}
use Rattle.model_printer.proofs.EndLaws.{expressions_stand}
use Rattle.model_printer.proofs.LineLaws.{line_written}
use Rattle.model_printer.proofs.lines.write_result_line.Goals as goal

pub write_expression-requires : goal.write_expression-requires
write_expression-requires c =
    subst (IsExpression c.args.model.now) (sym c.as_slice.ensures)
    ((expressions_stand c.args.model.now c.args.element c.element_of-record.result.now c.requires.expressions c.requires.stands
    c.element_of-record.ensures.is c.element_of-record.ensures.names).1 c.in-Some.result c.in-Some.is)

pub returns-in_ok-end_line : goal.returns-in_ok-end_line
returns-in_ok-end_line c =
    let nodes = c.in-Some.result in
    subst (λ o. AreWritten (result_lines c.args.model.now c.args.level o) c.args.writer.now c.end_line.new.self)
    (sym c.in-Some.is ∙ ap (λ e. e.result) c.element_of-record.ensures.is)
    (line_written c.args.writer.now c.begin_line.new.self c.write_expression.new.writer c.end_line.new.self c.args.level (expression c.args.model.now nodes)
    c.in_ok-begin_line.ensures
    (c.in_ok-write_expression.ensures ∙ ap (λ ns. puts c.begin_line.new.self (expression c.args.model.now ns)) c.as_slice.ensures)
    c.in_ok-end_line.ensures)
