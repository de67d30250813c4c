use Rattle.std.proofs.Common.{◌≡◌, ◌<◌, ◌++◌, All, length, map, reverse}
use Rattle.book_model.specs.Labels.{parts_of}
use Rattle.written_names.specs.Spellable.{own_part_at}
use Rattle.written_names.proofs.labels.path_to.Given as goal

abbrev pub invariant-loop-owner : goal.invariant-loop-owner
invariant-loop-owner l =
    (l.at < length l.model.elements)
    × (parts_of l.model l.element ≡ parts_of l.model l.at ++ map (own_part_at l.model) (reverse l.path.items))
    × All (λ e. e < length l.model.elements) l.path.items

abbrev pub decreases-loop-owner : goal.decreases-loop-owner
decreases-loop-owner l = l.at
