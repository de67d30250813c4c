-- The names are those of the files as they are.
use Rattle.root_names.specs.Roots.{AreRootsOf}
use Rattle.root_names.proofs.root_tests.change_all.Given as goal

abbrev pub invariant-loop-step : goal.invariant-loop-step
invariant-loop-step l = AreRootsOf l.models l.names
