use Rattle.std.proofs.Common.{◌≡◌, drop}
use Rattle.link_model.specs.Keys.{is_in}
use Rattle.link_walk.proofs.trail.is_among.Given as goal

-- it is among these where it is among those that are left
abbrev pub invariant-loop-other : goal.invariant-loop-other
invariant-loop-other l = is_in l.e (drop l.other-index l.elements) ≡ is_in l.e l.elements
