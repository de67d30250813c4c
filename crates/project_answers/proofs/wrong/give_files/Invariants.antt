-- what is wrong with the first files was given
use Rattle.std.proofs.Common.{◌≤◌, ◌*◌}
use Rattle.sysml_session.specs.Answered.{across}
use Rattle.project_answers.specs.Wrong.{wrong_count_at, wrong_lines_at}
use Rattle.project_answers.proofs.PartLaws.{AreGiven}
use Rattle.project_answers.proofs.wrong.give_files.Given as goal

abbrev pub invariant-loop-number : goal.invariant-loop-number
invariant-loop-number g l = record {
  given : AreGiven (wrong_lines_at l.files) (wrong_count_at l.files)
      (across g.K.Sink.given g.K.Sink.faults l.fn.output l.output) l.numbers l.number-index l.told;
  few : l.told ≤ l.number-index * 4294967296;
}
