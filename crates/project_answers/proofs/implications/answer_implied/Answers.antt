use Rattle.std.proofs.Common.{◌≡◌, ◌∙◌, map, sym, subst, ap}
use Rattle.std.specs.Prelude.{All, Ok, Err}
use Rattle.book_model.specs.Answers.{Command as Asked}
use Rattle.book_model.specs.Files.{stored}
use Rattle.book_model.specs.Outcomes.{linked_world}
use Rattle.book_model.specs.Queries.{implied_query}
use Rattle.implied_model.specs.Implied.{implications}
use Rattle.implied_rules.specs.Implied.{said_by}
use Rattle.sysml_session.specs.Answered.{IsAnswered, across}
use Rattle.project_answers.specs.Holds.{holding_of}
use Rattle.project_answers.specs.ImpliedLines.{IsLiveImplied}
use Rattle.project_answers.proofs.ImpliedLaws.{implied_failed, implied_given, implied_moved, implied_wanted, rows_live}
use Rattle.project_answers.proofs.PartLaws.{passed_on}
use Rattle.project_answers.proofs.implications.answer_implied.Goals as goal

pub give_rows-requires : goal.give_rows-requires
give_rows-requires g c =
    subst (All (IsLiveImplied c.files-files.result.now)) (sym c.as_slice.ensures)
    (rows_live c.files-files.result.now c.models.result.now c.in-Ok.rows c.models.ensures c.in-Ok.ensures.live)

pub returns-in_err-count : goal.returns-in_err-count
returns-in_err-count g c =
    let held = c.args.project.now in
    let lent = c.files-files.ensures.lent in
    let output = across g.K.Sink.given g.K.Sink.faults c.args.output.now c.give_rows.new.output in
    let e = c.in_err-count.field-0.0 in
    let is = subst (λ all. map said_by c.in-Ok.rows ≡ implications all (linked_world all)) (c.models.ensures ∙ ap stored lent) c.in-Ok.ensures.rows in
    passed_on c.from_residual.result e (IsAnswered (holding_of held) (holding_of held) Asked.Implied output) c.from_residual.ensures.1
    (implied_failed held c.in-Ok.rows c.requires.whole c.files-files.ensures.are is _ _ e
    (implied_moved output _ held.files _ c.in-Ok.rows (Err e) lent c.as_slice.ensures c.in_err-count.ensures))

pub returns-in-Ok-end_line : goal.returns-in-Ok-end_line
returns-in-Ok-end_line g c =
    let held = c.args.project.now in
    let lent = c.files-files.ensures.lent in
    let output = across g.K.Sink.given g.K.Sink.faults c.args.output.now c.give_rows.new.output in
    let k = c.in_ok-count.count in
    let is = subst (λ all. map said_by c.in-Ok.rows ≡ implications all (linked_world all)) (c.models.ensures ∙ ap stored lent) c.in-Ok.ensures.rows in
    implied_given held c.in-Ok.rows c.requires.whole c.files-files.ensures.are is _ _ _ k c.deref.result.now c.give_piece.result
    (implied_moved output _ held.files _ c.in-Ok.rows (Ok k) lent c.as_slice.ensures c.in_ok-count.ensures)
    (c.deref.ensures.value ∙ c.in-Ok-end_line.ensures) c.give_piece.ensures

pub returns : goal.returns
returns g c =
    let held = c.args.project.now in
    let lent = c.files-files.ensures.lent in
    let output = across g.K.Sink.given g.K.Sink.faults c.args.output.now c.give_rows.new.output in
    let k = c.in_ok-count.count in
    let is = subst (λ all. map said_by c.in-Ok.rows ≡ implications all (linked_world all)) (c.models.ensures ∙ ap stored lent) c.in-Ok.ensures.rows in
    implied_wanted held c.in-Ok.rows c.requires.whole c.files-files.ensures.are is _ _ k
    (implied_moved output _ held.files _ c.in-Ok.rows (Ok k) lent c.as_slice.ensures c.in_ok-count.ensures)
