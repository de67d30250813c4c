use Rattle.std.proofs.Common.{◌≡◌, ◌∷◌, [], ◌-◌, suc, subst, arith}
use Rattle.std.specs.Prelude.{codes}
use Rattle.print_model.specs.Printed.{sign}
use Rattle.model_printer.specs.Bodies.{AreWritten, closing}
use Rattle.model_printer.proofs.LineLaws.{line_written}
use Rattle.model_printer.proofs.lines.write_closing.Goals as goal

pub returns-in_ok-end_line : goal.returns-in_ok-end_line
returns-in_ok-end_line c =
    let same : suc (c.args.level - 1) ≡ c.args.level = omega arith in
    subst (λ n. AreWritten (closing n) c.args.writer.now c.end_line.new.self) same
    (line_written c.args.writer.now c.begin_line.new.self c.sign.new.self c.end_line.new.self (c.args.level - 1) (sign (codes "}") ∷ [])
    c.in_ok-begin_line.ensures c.in_ok-sign.ensures c.in_ok-end_line.ensures)
