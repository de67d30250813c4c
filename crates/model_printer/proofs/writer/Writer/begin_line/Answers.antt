use Rattle.std.proofs.Common.{◌≡◌, ◌∙◌, ◌++◌, ap, arith}
use Rattle.print_model.specs.Layout.{indent}
use Rattle.model_printer.specs.Sheets.{Sheet}
use Rattle.model_printer.proofs.SheetLaws.{line_begun, indent_more}
use Rattle.model_printer.proofs.writer.Writer.begin_line.Goals as goal

pub loop-step-preserved : goal.loop-step-preserved
loop-step-preserved c =
    indent_more c.self.inside.bytes.items c.loop-step.self-inside.bytes.items c.extend_from_slice.new.self.items c.loop-step._step
    c.loop-step.invariant c.in_ok-extend_from_slice.ensures.items

pub returns : goal.returns
returns c =
    let all : c.loop-step._step ≡ c.args.level = omega arith in
    line_begun c.args.self.now c.loop-step.self-inside.bytes.items c.args.level
    (c.loop-step.invariant ∙ ap (λ n. c.self.inside.bytes.items ++ indent n) all
    ∙ ap (λ (s : Sheet). s.bytes ++ indent c.args.level) c.self.view_is)
