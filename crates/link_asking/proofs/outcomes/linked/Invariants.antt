-- the elements so far, and what is left, are linked as all are
use Rattle.std.proofs.Common.{◌≡◌, ◌-◌, drop, length}
use Rattle.link_model.specs.Asking.{linked, linked_with}
use Rattle.link_asking.proofs.outcomes.linked.Given as goal

abbrev pub invariant-loop-at : goal.invariant-loop-at
invariant-loop-at l = linked_with l.steps l.element (drop l.at l.elements) ≡ linked (drop l.from l.elements)

abbrev pub decreases-loop-at : goal.decreases-loop-at
decreases-loop-at l = length l.elements - l.at
