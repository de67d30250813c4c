-- the lines of the first rows were given
use Rattle.std.proofs.Common.{◌≤◌}
use Rattle.sysml_session.specs.Answered.{across}
use Rattle.project_answers.specs.ImpliedLines.{implied_line, one_each}
use Rattle.project_answers.proofs.PartLaws.{AreGiven}
use Rattle.project_answers.proofs.implications.give_rows.Given as goal

abbrev pub invariant-loop-row : goal.invariant-loop-row
invariant-loop-row g l = record {
  given : AreGiven (implied_line l.files) one_each (across g.K.Sink.given g.K.Sink.faults l.fn.output l.output) l.rows l.row-index l.told;
  few : l.told ≤ l.row-index;
}
