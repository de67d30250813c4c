-- the first files were counted
use Rattle.std.proofs.Common.{◌≡◌}
use Rattle.project_answers.proofs.WrongLaws.{AreCounted}
use Rattle.project_answers.proofs.wrong.counts.Given as goal

abbrev pub invariant-loop-number : goal.invariant-loop-number
invariant-loop-number l = record {
  counted : AreCounted l.files l.numbers l.number-index l.counts.files l.counts.references;
  faults : l.counts.faults ≡ l.faults;
}
