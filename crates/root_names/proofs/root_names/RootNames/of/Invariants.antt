use Rattle.root_names.specs.Firsts.{first_models}
use Rattle.root_names.specs.Roots.{AreRootsOf}
use Rattle.root_names.proofs.root_names.RootNames.of.Given as goal

-- the names of the files so far stand
abbrev pub invariant-loop-file : goal.invariant-loop-file
invariant-loop-file l = AreRootsOf (first_models l.file l.models) l.roots
