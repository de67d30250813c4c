use Rattle.sysml_session.specs.Answered.{across}
use Rattle.project_answers.specs.Parts.{IsPart}
use Rattle.project_answers.specs.RowLines.{counts_of, lines_of, spot_count, spot_line}
use Rattle.project_answers.proofs.PartLaws.{few_more, given_failed, given_more, passed_on}
use Rattle.project_answers.proofs.rows.give_lines.Goals as goal

pub returns-in_err-told-clause-part : goal.returns-in_err-told-clause-part
returns-in_err-told-clause-part g c =
    let files = c.args.files.now in
    passed_on c.from_residual.result c.in_err-told.field-0.0
    (IsPart (across g.K.Sink.given g.K.Sink.faults c.args.output.now c.give_line.new.output) (lines_of c.args.listing files c.args.file c.args.spots.now)
    (counts_of c.args.listing files c.args.file c.args.spots.now)) c.from_residual.ensures.1
    (given_failed (spot_line c.args.listing files c.args.file) (spot_count c.args.listing files c.args.file) _ _ _ c.args.spots.now c.loop-spot.spot-index
    c.loop-spot.told c.in_err-told.field-0.0 _ c.loop-spot-test.true c.loop-spot.invariant.given c.in_err-told.ensures)

pub loop-spot-preserved : goal.loop-spot-preserved
loop-spot-preserved g c =
    let files = c.args.files.now in
    record {
      given = given_more (spot_line c.args.listing files c.args.file) (spot_count c.args.listing files c.args.file) _ _ _ c.args.spots.now
          c.loop-spot.spot-index c.loop-spot.told c.in_ok-told.field-0 _ c.loop-spot-test.true c.loop-spot.invariant.given c.in_ok-told.ensures;
      few = few_more c.args.listing _ c.loop-spot.told c.loop-spot.spot-index c.in_ok-told.field-0 c.loop-spot.invariant.few c.in_ok-told.ensures.0;
    }
