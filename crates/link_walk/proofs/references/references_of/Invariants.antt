-- Those among the references before this one are listed.
use Rattle.std.proofs.Common.{◌≡◌}
use Rattle.link_walk.specs.Wanted.{is_wanted}
use Rattle.link_walk.proofs.ReferenceLists.{wanted_before}
use Rattle.link_walk.proofs.references.references_of.Given as goal

abbrev pub invariant-loop-index : goal.invariant-loop-index
invariant-loop-index l = l.keys ≡ wanted_before (is_wanted l.wanted) l.model l.e l.index
