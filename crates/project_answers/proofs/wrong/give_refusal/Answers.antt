use Rattle.std.proofs.Common.{◌++◌, ◌∙◌, refl, ap}
use Rattle.std.specs.Prelude.{codes}
use Rattle.book_model.specs.declared.rows.FaultRow.TheVariants.{File}
use Rattle.book_model.specs.Printed.{fault_row_text}
use Rattle.project_answers.proofs.PartLaws.{part_same}
use Rattle.project_answers.proofs.wrong.give_refusal.Goals as goal

pub returns-in-Ok : goal.returns-in-Ok
returns-in-Ok g c =
    let files = c.args.files.now in
    part_same _ _ _ 1 1 c.give_counted.result
    (c.deref.ensures.value ∙ (c.in-Ok.ensures files ∙ ap (λ name. fault_row_text files (File name c.args.fault c.args.place) ++ codes "\n") c.name.ensures))
    refl
    c.give_counted.ensures
