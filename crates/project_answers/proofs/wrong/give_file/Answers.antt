use Rattle.std.proofs.Common.{◌∙◌, ap, subst, sym}
use Rattle.std.specs.Prelude.{Some}
use Rattle.element_store.specs.Stored.{AreFiles}
use Rattle.project_answers.proofs.PartLaws.{part_same}
use Rattle.project_answers.proofs.WrongLaws.{report_model, wrong_read, wrong_refused}
use Rattle.project_answers.proofs.wrong.give_file.Goals as goal

pub give_rows-requires-clause-has : goal.give_rows-requires-clause-has
give_rows-requires-clause-has g c =
    report_model c.args.files.now c.args.file c.in-Some-In.field-0-0 c.in-Some-In.field-0-1
    (ap (λ r. Some r) (sym c.in-Some-In.field-0-is) ∙ c.in-Some-In.ensures)

pub returns-in-Some-Refused-clause-part : goal.returns-in-Some-Refused-clause-part
returns-in-Some-Refused-clause-part g c =
    let wrong = wrong_refused c.args.files.now c.args.file c.in-Some-Refused.fault c.in-Some-Refused.place c.requires.own
    (ap (λ r. Some r) (sym c.in-Some-Refused.field-0-is) ∙ c.in-Some-Refused.ensures) in
    part_same _ _ _ _ _ c.give_refusal.result wrong.0 wrong.1 c.give_refusal.ensures

pub returns-in-Some-In-clause-part : goal.returns-in-Some-In-clause-part
returns-in-Some-In-clause-part g c =
    let wrong = wrong_read c.args.files.now c.args.file c.in-Some-In.field-0-0 c.in-Some-In.field-0-1 c.requires.own
    (subst AreFiles c.models.ensures c.files.ensures.kept) (ap (λ r. Some r) (sym c.in-Some-In.field-0-is) ∙ c.in-Some-In.ensures) in
    part_same _ _ _ _ _ c.give_rows.result wrong.0 wrong.1 c.give_rows.ensures.part
