-- the rows at the first spots stand there
use Rattle.std.proofs.Common.{◌≡◌, map, take}
use Rattle.linked_project.specs.Listed.{spot_row}
use Rattle.linked_project.proofs.link_rows.rows_of.Given as goal

abbrev pub invariant-loop-spot : goal.invariant-loop-spot
invariant-loop-spot g l = l.rows ≡ map (spot_row l.files l.file) (take l.spot-index l.spots)
