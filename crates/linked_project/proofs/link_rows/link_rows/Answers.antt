use Rattle.std.proofs.Common.{◌≡◌, ◌∙◌, ap, map, subst, sym}
use Rattle.std.specs.Prelude.{All, IfOk}
use Rattle.element_store.specs.Stored.{AreFiles}
use Rattle.book_model.specs.Live.{IsLiveReference}
use Rattle.project_answers.specs.RowLines.{reference_at}
use Rattle.project_answers.specs.Spots.{rising_spots}
use Rattle.project_answers.proofs.RowLaws.{rising_live}
use Rattle.linked_project.specs.Listed.{spot_row}
use Rattle.linked_project.proofs.ListedLaws.{content_has, rows_listed, rows_live}
use Rattle.linked_project.proofs.link_rows.link_rows.Goals as goal

pub model-requires : goal.model-requires
model-requires g c = content_has c.args.files.now c.args.file c.requires.present

pub rows_of-requires-clause-stand : goal.rows_of-requires-clause-stand
rows_of-requires-clause-stand g c =
    let has = content_has c.args.files.now c.args.file c.requires.present in
    subst (All (λ s. IsLiveReference c.args.files.now (reference_at c.args.file s)))
    (sym (c.deref.ensures.value ∙ (c.in_ok-spots.ensures.spots ∙ ap rising_spots c.model.ensures.model)))
    (rising_live c.args.files.now c.args.file has.0 has.1)

pub returns-clause-rows : goal.returns-clause-rows
returns-clause-rows g c =
    let files = c.args.files.now in
    rows_listed files c.args.file c.rows_of.result (subst AreFiles c.models.ensures c.files.ensures.kept) c.requires.present
    (subst (λ ss. IfOk c.rows_of.result (λ rows. rows ≡ map (spot_row files c.args.file) ss))
    (c.deref.ensures.value ∙ (c.in_ok-spots.ensures.spots ∙ ap rising_spots c.model.ensures.model)) c.rows_of.ensures)

pub returns-clause-live : goal.returns-clause-live
returns-clause-live g c =
    let files = c.args.files.now in
    rows_live files c.args.file c.rows_of.result (subst AreFiles c.models.ensures c.files.ensures.kept)
    (content_has files c.args.file c.requires.present)
    (subst (λ ss. IfOk c.rows_of.result (λ rows. rows ≡ map (spot_row files c.args.file) ss))
    (c.deref.ensures.value ∙ (c.in_ok-spots.ensures.spots ∙ ap rising_spots c.model.ensures.model)) c.rows_of.ensures)
