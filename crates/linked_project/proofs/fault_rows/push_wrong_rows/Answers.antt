use Rattle.std.proofs.Common.{◌∙◌, sym, ap, subst}
use Rattle.std.specs.Prelude.{All}
use Rattle.book_model.specs.Live.{IsLiveReference}
use Rattle.project_answers.specs.RowLines.{reference_at}
use Rattle.project_answers.specs.Spots.{rising_spots}
use Rattle.project_answers.proofs.RowLaws.{rising_live}
use Rattle.linked_project.proofs.fault_rows.push_wrong_rows.Goals as goal

pub push_rows-requires-clause-stand : goal.push_rows-requires-clause-stand
push_rows-requires-clause-stand g c =
    subst (All (λ s. IsLiveReference c.args.files.now (reference_at c.args.file s)))
    (sym (c.deref.ensures.value ∙ (c.in_ok-spots.ensures.spots ∙ ap rising_spots c.model.ensures.model)))
    (rising_live c.args.files.now c.args.file c.requires.has.0 c.requires.has.1)
