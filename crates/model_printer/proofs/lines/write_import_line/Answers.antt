use Rattle.print_model.specs.Heads.{import_tokens}
use Rattle.model_printer.proofs.LineLaws.{line_written}
use Rattle.model_printer.proofs.lines.write_import_line.Goals as goal

pub returns : goal.returns
returns c =
    line_written c.args.writer.now c.begin_line.new.self c.write_import.new.writer c.end_line.new.self c.args.level
    (import_tokens c.args.model.now c.args.import.now)
    c.in_ok-begin_line.ensures c.in_ok-write_import.ensures c.in_ok-end_line.ensures
