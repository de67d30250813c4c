-- the names of the first files stand there
use Rattle.std.proofs.Common.{◌≡◌, take}
use Rattle.std.specs.List.{flat_map}
use Rattle.linked_project.specs.Listed.{present_names}
use Rattle.linked_project.proofs.file_names.names_at.Given as goal

abbrev pub invariant-loop-number : goal.invariant-loop-number
invariant-loop-number l = l.names ≡ flat_map (present_names l.files) (take l.number-index l.numbers)
