use Rattle.std.proofs.Common.{◌∙◌, ◌++◌, ◌∷◌, [], ap, sym}
use Rattle.print_model.specs.Printed.{sign}
use Rattle.print_model.specs.Heads.{head}
use Rattle.model_printer.specs.Sheets.{puts}
use Rattle.model_printer.specs.Signs.{sign_bytes}
use Rattle.model_printer.proofs.SheetLaws.{puts_append}
use Rattle.model_printer.proofs.LineLaws.{line_written}
use Rattle.model_printer.proofs.lines.write_head_line.Goals as goal

pub returns : goal.returns
returns c =
    let tokens = head c.args.model.now c.args.visibility c.args.element in
    line_written c.args.writer.now c.begin_line.new.self c.sign.new.self c.end_line.new.self c.args.level (tokens ++ sign (sign_bytes c.args.last) ∷ [])
    c.in_ok-begin_line.ensures
    (c.in_ok-sign.ensures ∙ ap (λ s. puts s (sign (sign_bytes c.args.last) ∷ [])) c.in_ok-write_head.ensures
    ∙ sym (puts_append c.begin_line.new.self tokens (sign (sign_bytes c.args.last) ∷ [])))
    c.in_ok-end_line.ensures
