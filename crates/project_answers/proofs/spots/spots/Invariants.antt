-- those of the first numbers are noted, and the rest is left
use Rattle.std.proofs.Common.{◌≡◌, ◌≤◌, ◌++◌, drop, length, map}
use Rattle.book_model.specs.Rows.{standing}
use Rattle.project_answers.specs.Spots.{spot_of, spots_of}
use Rattle.project_answers.proofs.spots.spots.Given as goal

abbrev pub invariant-loop-number : goal.invariant-loop-number
invariant-loop-number l = record {
  so_far : l.spots.items ++ map spot_of (drop l.number (standing l.model)) ≡ spots_of l.model;
  few : length l.spots.items ≤ l.number;
}
