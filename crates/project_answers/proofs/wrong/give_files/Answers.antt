use Rattle.std.proofs.Common.{arith}
use Rattle.sysml_session.specs.Answered.{across}
use Rattle.project_answers.specs.Parts.{IsPart, sum_of}
use Rattle.project_answers.specs.Wrong.{lines_at, wrong_count_at, wrong_lines_at}
use Rattle.project_answers.proofs.PartLaws.{given_failed, given_more, passed_on}
use Rattle.project_answers.proofs.wrong.give_files.Goals as goal

pub returns-in_err-told : goal.returns-in_err-told
returns-in_err-told g c =
    let files = c.args.files.now in
    let numbers = c.args.numbers.now in
    passed_on c.from_residual.result c.in_err-told.field-0.0
    (IsPart (across g.K.Sink.given g.K.Sink.faults c.args.output.now c.give_file.new.output) (lines_at files numbers)
    (sum_of (wrong_count_at files) numbers)) c.from_residual.ensures.1
    (given_failed (wrong_lines_at files) (wrong_count_at files) _ _ _ numbers c.loop-number.number-index c.loop-number.told c.in_err-told.field-0.0 _
    c.loop-number-test.true c.loop-number.invariant.given c.in_err-told.ensures.part)

pub loop-number-preserved : goal.loop-number-preserved
loop-number-preserved g c =
    let files = c.args.files.now in
    let few = c.loop-number.invariant.few in
    let more = c.in_ok-told.ensures.few in
    record {
      given = given_more (wrong_lines_at files) (wrong_count_at files) _ _ _ c.args.numbers.now c.loop-number.number-index c.loop-number.told
          c.in_ok-told.field-0 _ c.loop-number-test.true c.loop-number.invariant.given c.in_ok-told.ensures.part;
      few = omega (arith, few, more);
    }
