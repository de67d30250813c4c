use Rattle.std.proofs.Common.{◌≡◌, subst}
use Rattle.std.specs.Prelude.{IfOk}
use Rattle.element_store.specs.Stored.{AreFiles}
use Rattle.book_model.specs.Outcomes.{found_of}
use Rattle.linked_project.proofs.FoundLaws.{found_live}
use Rattle.linked_project.proofs.finding.found.Goals as goal

pub returns-clause-found : goal.returns-clause-found
returns-clause-found g c = subst (λ s. IfOk c.find.result (λ o. o ≡ found_of s c.args.name.path)) c.models-models.ensures c.find.ensures

pub returns-clause-live : goal.returns-clause-live
returns-clause-live g c =
    found_live c.args.files.now c.args.name.path c.find.result (subst AreFiles c.models-models.ensures c.files.ensures.kept)
    (subst (λ s. IfOk c.find.result (λ o. o ≡ found_of s c.args.name.path)) c.models-models.ensures c.find.ensures)
