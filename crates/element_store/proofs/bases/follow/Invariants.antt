-- No file of a lesser rank has a root member that bears the first name.
use Rattle.element_store.proofs.BaseLaws.{ArePassed}
use Rattle.element_store.proofs.bases.follow.Given as goal

abbrev pub invariant-loop-rank : goal.invariant-loop-rank
invariant-loop-rank l = ArePassed l.models l.path.namespace l.rank
