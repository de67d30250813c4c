-- those so far, and those of what is left, are all
use Rattle.std.proofs.Common.{◌≡◌, ◌++◌, drop}
use Rattle.element_store.specs.Numbers.{those_where}
use Rattle.link_walk.specs.Calls.{files_of}
use Rattle.link_asking.specs.Hiding.{is_unseen}
use Rattle.link_asking.proofs.hiding.unseen.Given as goal

abbrev pub invariant-loop-hit : goal.invariant-loop-hit
invariant-loop-hit l = l.unseen ++ those_where (is_unseen (files_of l.fn.view)) (drop l.hit-index l.hits) ≡ those_where (is_unseen (files_of l.fn.view)) l.hits
