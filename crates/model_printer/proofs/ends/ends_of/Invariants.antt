use Rattle.std.proofs.Common.{◌≡◌, ◌++◌, ◌<◌, length, drop}
use Rattle.std.specs.Prelude.{All}
use Rattle.std.specs.List.{flat_map}
use Rattle.model_printer.specs.Ends.{ends_in}
use Rattle.model_printer.proofs.ends.ends_of.Given as goal

abbrev pub invariant-loop-item : goal.invariant-loop-item
invariant-loop-item l = record {
  found : flat_map (ends_in l.model) l.items ≡ l.ends.items ++ flat_map (ends_in l.model) (drop l.item-index l.items);
  within : All (λ e. e < length l.model.elements) l.ends.items;
}
