use Rattle.std.proofs.Common.{◌∙◌, ap}
use Rattle.project_answers.specs.Lines.{print_rest}
use Rattle.project_answers.proofs.PrintLaws.{print_answered}
use Rattle.project_answers.proofs.printing.answer_print.Goals as goal

pub returns-in-Ok-print_line : goal.returns-in-Ok-print_line
returns-in-Ok-print_line g c =
    print_answered c.args.project.now c.args.name.now c.deref.result.now c.text_behind.result.now c.in-Ok.printed _ c.give_both.result c.requires
    c.files.ensures.are c.in-Ok.ensures (c.deref.ensures.value ∙ c.in-Ok-print_line.ensures) c.text_behind.ensures c.give_both.ensures
