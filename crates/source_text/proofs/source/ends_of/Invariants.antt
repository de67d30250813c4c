use Rattle.std.proofs.Common.{◌≡◌, ◌<◌, ◌++◌, All, length}
use Rattle.source_text.specs.Lines.{ends_of}
use Rattle.source_text.proofs.source.ends_of.Given as goal

abbrev pub invariant-loop-end : goal.invariant-loop-end
invariant-loop-end l =
    (goal.iterator-loop-end).can_next l.end-iterator
    × (goal.iterator-loop-end).is_finite l.end-iterator
    × (l.ends.items ++ l.end-iterator ≡ ends_of l.text)
    × All (λ e. e < length l.text) l.end-iterator
