use Rattle.std.proofs.Common.{◌≡◌, subst}
use Rattle.std.specs.Prelude.{IfOk}
use Rattle.std.specs.List.{flat_map}
use Rattle.element_store.specs.Stored.{AreFiles}
use Rattle.project_answers.specs.Wrong.{wrong_at}
use Rattle.linked_project.proofs.ListedLaws.{faults_listed, faults_live}
use Rattle.linked_project.proofs.fault_rows.fault_rows.Goals as goal

pub returns-clause-rows : goal.returns-clause-rows
returns-clause-rows g c =
    let files = c.args.files.now in
    faults_listed files c.in_ok-order.order.items c.wrong_with.result c.in_ok-order.ensures.ranked
    (subst (λ ns. IfOk c.wrong_with.result (λ rows. rows ≡ flat_map (wrong_at files) ns)) c.deref.ensures.value c.wrong_with.ensures)

pub returns-clause-live : goal.returns-clause-live
returns-clause-live g c =
    let files = c.args.files.now in
    faults_live files c.in_ok-order.order.items c.wrong_with.result c.in_ok-order.ensures.own (subst AreFiles c.models.ensures c.files.ensures.kept)
    (subst (λ ns. IfOk c.wrong_with.result (λ rows. rows ≡ flat_map (wrong_at files) ns)) c.deref.ensures.value c.wrong_with.ensures)
