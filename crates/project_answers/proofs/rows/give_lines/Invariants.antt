-- the lines of the first spots were given
use Rattle.std.proofs.Common.{◌≤◌}
use Rattle.sysml_session.specs.Answered.{across}
use Rattle.project_answers.specs.RowLines.{spot_count, spot_line}
use Rattle.project_answers.proofs.PartLaws.{AreGiven}
use Rattle.project_answers.proofs.rows.give_lines.Given as goal

abbrev pub invariant-loop-spot : goal.invariant-loop-spot
invariant-loop-spot g l = record {
  given : AreGiven (spot_line l.listing l.files l.fn.file) (spot_count l.listing l.files l.fn.file)
      (across g.K.Sink.given g.K.Sink.faults l.fn.output l.output) l.spots l.spot-index l.told;
  few : l.told ≤ l.spot-index;
}
