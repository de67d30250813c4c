-- what is wrong with the first files stands there
use Rattle.std.proofs.Common.{◌≡◌, take}
use Rattle.std.specs.List.{flat_map}
use Rattle.project_answers.specs.Wrong.{wrong_at}
use Rattle.linked_project.proofs.fault_rows.wrong_with.Given as goal

abbrev pub invariant-loop-number : goal.invariant-loop-number
invariant-loop-number g l = l.rows ≡ flat_map (wrong_at l.files) (take l.number-index l.numbers)
