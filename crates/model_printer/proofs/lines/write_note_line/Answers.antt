use Rattle.print_model.specs.Heads.{note_tokens}
use Rattle.model_printer.proofs.LineLaws.{line_written}
use Rattle.model_printer.proofs.lines.write_note_line.Goals as goal

pub returns : goal.returns
returns c =
    line_written c.args.writer.now c.begin_line.new.self c.write_note.new.writer c.end_line.new.self c.args.level
    (note_tokens c.args.model.now c.args.visibility c.args.element)
    c.in_ok-begin_line.ensures c.in_ok-write_note.ensures c.in_ok-end_line.ensures
