use Rattle.std.proofs.Common.{◌<◌, get_or, length, subst, sym}
use Rattle.std.proofs.lemmas.List.Elements.{All-get_or}
use Rattle.book_model.specs.declared.rows.LinkRow.{LinkRow}
use Rattle.book_model.specs.Live.{IsLiveReference}
use Rattle.project_answers.specs.declared.spots.Spot.{Spot}
use Rattle.project_answers.specs.RowLines.{reference_at}
use Rattle.project_answers.proofs.RowLaws.{file_live}
use Rattle.linked_project.proofs.fault_rows.push_rows.Goals as goal

pub push_row-requires : goal.push_row-requires
push_row-requires g c =
    let files = c.args.files.now in
    let none : Spot = record { place = 0; number = 0 } in
    subst (λ (row : LinkRow). row.reference.file.0 < length files) (sym c.in_ok-row_of.ensures.row)
    (file_live files (reference_at c.args.file (get_or c.args.spots.now c.loop-spot.spot-index none))
    (All-get_or (λ s. IsLiveReference files (reference_at c.args.file s)) c.args.spots.now c.loop-spot.spot-index none c.loop-spot-test.true c.requires.stand))
