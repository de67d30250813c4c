-- the files of the references so far stand
use Rattle.link_waits.specs.Waits.{HaveFiles}
use Rattle.link_waits.proofs.order_tests.references.Given as goal

abbrev pub invariant-loop-file : goal.invariant-loop-file
invariant-loop-file l = HaveFiles 4 l.keys.items
