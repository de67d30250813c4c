use Rattle.std.proofs.Common.{◌≡◌, ◌∙◌, length, map, subst}
use Rattle.std.specs.Prelude.{Ok, Err}
use Rattle.book_model.specs.Answers.{Command as Asked, references_in}
use Rattle.book_model.specs.Files.{ranked}
use Rattle.book_model.specs.Rows.{report_of}
use Rattle.sysml_session.specs.Answered.{IsAnswered, across}
use Rattle.project_answers.specs.Holds.{holding_of}
use Rattle.project_answers.specs.Wrong.{presents}
use Rattle.project_answers.proofs.ListedLaws.{check_failed, check_given, check_wanted, part_moved}
use Rattle.project_answers.proofs.PartLaws.{passed_on}
use Rattle.project_answers.proofs.wrong.answer_check.Goals as goal

pub returns-in_err-faults : goal.returns-in_err-faults
returns-in_err-faults g c =
    let held = c.args.project.now in
    let ns = c.in-Ok.order.items in
    let lent = c.files-files.ensures.lent in
    let output = across g.K.Sink.given g.K.Sink.faults c.args.output.now c.give_files.new.output in
    let e = c.in_err-faults.field-0.0 in
    passed_on c.from_residual.result e (IsAnswered (holding_of held) (holding_of held) Asked.Check output) c.from_residual.ensures.1
    (check_failed held ns c.requires.whole c.files-files.ensures.are (subst (λ fs. presents fs ns ≡ ranked fs) lent c.in-Ok.ensures.ranked) _ _ e
    (part_moved output _ held.files _ ns (Err e) lent c.deref.ensures.value c.in_err-faults.ensures))

pub returns-in-Ok-counts_line : goal.returns-in-Ok-counts_line
returns-in-Ok-counts_line g c =
    let held = c.args.project.now in
    let ns = c.in-Ok.order.items in
    let lent = c.files-files.ensures.lent in
    let again = c.deref-2.ensures.value in
    let output = across g.K.Sink.given g.K.Sink.faults c.args.output.now c.give_files.new.output in
    let k = c.in_ok-faults.faults in
    check_given held ns c.requires.whole c.files-files.ensures.are (subst (λ fs. presents fs ns ≡ ranked fs) lent c.in-Ok.ensures.ranked) _ _ _ k
    c.counts.result c.deref-in-Ok-counts_line.result.now c.give_piece.result
    (part_moved output _ held.files _ ns (Ok k) lent c.deref.ensures.value c.in_ok-faults.ensures)
    (c.counts.ensures.files ∙ (λ i. length (presents (lent i) (again i))))
    (c.counts.ensures.references ∙ (λ i. references_in (map (λ p. report_of p.content) (presents (lent i) (again i)))))
    c.counts.ensures.faults (c.deref-in-Ok-counts_line.ensures.value ∙ c.in-Ok-counts_line.ensures) c.give_piece.ensures

pub returns : goal.returns
returns g c =
    let held = c.args.project.now in
    let ns = c.in-Ok.order.items in
    let lent = c.files-files.ensures.lent in
    let output = across g.K.Sink.given g.K.Sink.faults c.args.output.now c.give_files.new.output in
    let k = c.in_ok-faults.faults in
    check_wanted held ns c.requires.whole c.files-files.ensures.are (subst (λ fs. presents fs ns ≡ ranked fs) lent c.in-Ok.ensures.ranked) _ _ k
    (part_moved output _ held.files _ ns (Ok k) lent c.deref.ensures.value c.in_ok-faults.ensures)
