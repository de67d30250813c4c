-- Under the names of the items so far, the file's members are taken away.
use Rattle.std.proofs.Common.{take}
use Rattle.std.specs.List.{flat_map}
use Rattle.root_names.specs.Steps.{shown_by, IsTaken}
use Rattle.root_names.proofs.taking.take_items.Given as goal

abbrev pub invariant-loop-item : goal.invariant-loop-item
invariant-loop-item l = IsTaken l.file (λ x. flat_map (shown_by x l.file l.model) (take l.item-index l.items)) l.initial.table l.table
