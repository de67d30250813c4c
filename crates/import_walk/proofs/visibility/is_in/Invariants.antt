use Rattle.std.proofs.Common.{◌≡◌, drop}
use Rattle.link_model.specs.Keys.{is_in}
use Rattle.import_walk.proofs.visibility.is_in.Given as goal

abbrev pub invariant-loop-other : goal.invariant-loop-other
invariant-loop-other l = is_in l.element (drop l.other-index l.elements) ≡ is_in l.element l.elements
