-- what is wrong at the first spots stands behind the rows before it
use Rattle.std.proofs.Common.{◌≡◌, ◌++◌, take}
use Rattle.std.specs.List.{flat_map}
use Rattle.linked_project.specs.Listed.{wrong_spot}
use Rattle.linked_project.proofs.fault_rows.push_rows.Given as goal

abbrev pub invariant-loop-spot : goal.invariant-loop-spot
invariant-loop-spot g l = l.rows ≡ l.fn.rows ++ flat_map (wrong_spot l.files l.file) (take l.spot-index l.spots)
