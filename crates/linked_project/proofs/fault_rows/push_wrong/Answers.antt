use Rattle.std.proofs.Common.{◌≡◌, ◌++◌, ◌∙◌, ap, subst, sym}
use Rattle.std.specs.Prelude.{OnOk, Some}
use Rattle.element_store.specs.Stored.{AreFiles}
use Rattle.project_answers.proofs.WrongLaws.{report_model}
use Rattle.linked_project.proofs.ListedLaws.{fault_wrong, rows_wrong}
use Rattle.linked_project.proofs.fault_rows.push_wrong.Goals as goal

pub push_wrong_rows-requires-clause-has : goal.push_wrong_rows-requires-clause-has
push_wrong_rows-requires-clause-has g c =
    report_model c.args.files.now c.args.file c.in-Some-In.field-0-0 c.in-Some-In.field-0-1
    (ap (λ r. Some r) (sym c.in-Some-In.field-0-is) ∙ c.in-Some-In.ensures)

pub returns-in-Some-Refused : goal.returns-in-Some-Refused
returns-in-Some-Refused g c =
    subst (λ ws. OnOk c.push_fault.result (c.push_fault.new.rows ≡ c.args.rows.now ++ ws))
    (fault_wrong c.args.files.now c.args.file c.in-Some-Refused.fault c.in-Some-Refused.place c.requires.own
    (ap (λ r. Some r) (sym c.in-Some-Refused.field-0-is) ∙ c.in-Some-Refused.ensures)) c.push_fault.ensures

pub returns-in-Some-In : goal.returns-in-Some-In
returns-in-Some-In g c =
    subst (λ ws. OnOk c.push_wrong_rows.result (c.push_wrong_rows.new.rows ≡ c.args.rows.now ++ ws))
    (rows_wrong c.args.files.now c.args.file c.in-Some-In.field-0-0 c.in-Some-In.field-0-1 c.requires.own
    (subst AreFiles c.models.ensures c.files.ensures.kept) (ap (λ r. Some r) (sym c.in-Some-In.field-0-is) ∙ c.in-Some-In.ensures))
    c.push_wrong_rows.ensures
