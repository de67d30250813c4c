use Rattle.print_model.specs.Heads.{alias_tokens}
use Rattle.model_printer.proofs.LineLaws.{line_written}
use Rattle.model_printer.proofs.lines.write_alias_line.Goals as goal

pub returns : goal.returns
returns c =
    line_written c.args.writer.now c.begin_line.new.self c.write_alias.new.writer c.end_line.new.self c.args.level
    (alias_tokens c.args.model.now c.args.member.now c.args.reference)
    c.in_ok-begin_line.ensures c.in_ok-write_alias.ensures c.in_ok-end_line.ensures
