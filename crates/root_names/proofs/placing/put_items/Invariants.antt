-- The members of the items so far are in.
use Rattle.std.proofs.Common.{take}
use Rattle.std.specs.List.{flat_map}
use Rattle.root_names.specs.Steps.{shown_by, is_behind, IsPut}
use Rattle.root_names.proofs.placing.put_items.Given as goal

abbrev pub invariant-loop-item : goal.invariant-loop-item
invariant-loop-item l =
    IsPut (is_behind l.models l.file) (λ x. flat_map (shown_by x l.file l.model) (take l.item-index l.items)) l.initial.table l.table
