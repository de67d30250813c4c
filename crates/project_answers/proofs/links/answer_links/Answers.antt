use Rattle.std.proofs.Common.{◌∙◌, sym, subst}
use Rattle.std.specs.Prelude.{Ok, Err}
use Rattle.element_store.specs.Model.{Data}
use Rattle.element_store.specs.Stored.{AreFiles}
use Rattle.book_model.specs.Answers.{Command as Asked}
use Rattle.book_model.specs.Files.{stored}
use Rattle.book_model.specs.Live.{HasModel}
use Rattle.sysml_session.specs.Answered.{IsAnswered, across}
use Rattle.project_answers.specs.declared.rows.Listing.TheVariants.{All as Everything}
use Rattle.project_answers.specs.Holds.{holding_of}
use Rattle.project_answers.specs.Parts.{IsPart}
use Rattle.project_answers.specs.RowLines.{file_lines, file_counts}
use Rattle.project_answers.proofs.ListedLaws.{links_failed, links_given, links_wanted, present_model}
use Rattle.project_answers.proofs.PartLaws.{passed_on}
use Rattle.project_answers.proofs.links.answer_links.Goals as goal

pub give_rows-requires-clause-has : goal.give_rows-requires-clause-has
give_rows-requires-clause-has g c =
    subst (λ fs. (d : Data) × HasModel fs c.args.file d) (sym c.files-files.ensures.lent)
    (present_model c.args.project.now.files c.args.name.now c.args.file c.requires.present)

pub returns-in_err-count : goal.returns-in_err-count
returns-in_err-count g c =
    let held = c.args.project.now in
    let output = across g.K.Sink.given g.K.Sink.faults c.args.output.now c.give_rows.new.output in
    let e = c.in_err-count.field-0.0 in
    let kept = subst (λ fs. AreFiles (stored fs)) c.files-files.ensures.lent (subst AreFiles c.models.ensures c.files.ensures.kept) in
    passed_on c.from_residual.result e (IsAnswered (holding_of held) (holding_of held) (Asked.Links c.args.name.now) output) c.from_residual.ensures.1
    (links_failed held c.args.name.now c.args.file c.requires.whole c.files-files.ensures.are kept c.requires.present _ _ e
    (subst (λ fs. IsPart output (file_lines Everything fs c.args.file) (file_counts Everything fs c.args.file) (Err e)) c.files-files.ensures.lent
    c.in_err-count.ensures.part))

pub returns-in-Ok : goal.returns-in-Ok
returns-in-Ok g c =
    let held = c.args.project.now in
    let output = across g.K.Sink.given g.K.Sink.faults c.args.output.now c.give_rows.new.output in
    let k = c.in_ok-count.count in
    let kept = subst (λ fs. AreFiles (stored fs)) c.files-files.ensures.lent (subst AreFiles c.models.ensures c.files.ensures.kept) in
    links_given held c.args.name.now c.args.file c.requires.whole c.files-files.ensures.are kept c.requires.present _ _ _ k c.deref.result.now
    c.give_piece.result
    (subst (λ fs. IsPart output (file_lines Everything fs c.args.file) (file_counts Everything fs c.args.file) (Ok k)) c.files-files.ensures.lent
    c.in_ok-count.ensures.part)
    (c.deref.ensures.value ∙ c.in-Ok.ensures) c.give_piece.ensures

pub returns-in-Err : goal.returns-in-Err
returns-in-Err g c =
    let held = c.args.project.now in
    let output = across g.K.Sink.given g.K.Sink.faults c.args.output.now c.give_rows.new.output in
    let k = c.in_ok-count.count in
    let kept = subst (λ fs. AreFiles (stored fs)) c.files-files.ensures.lent (subst AreFiles c.models.ensures c.files.ensures.kept) in
    links_wanted held c.args.name.now c.args.file c.requires.whole c.files-files.ensures.are kept c.requires.present _ _ k
    (subst (λ fs. IsPart output (file_lines Everything fs c.args.file) (file_counts Everything fs c.args.file) (Ok k)) c.files-files.ensures.lent
    c.in_ok-count.ensures.part)
