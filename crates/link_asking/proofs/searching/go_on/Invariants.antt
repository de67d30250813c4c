-- the names behind those that are found are left
use Rattle.std.proofs.Common.{◌-◌}
use Rattle.element_store.specs.BaseRules.{StandsIn}
use Rattle.link_walk.specs.Calls.{files_of}
use Rattle.link_asking.specs.Courses.{names_of}
use Rattle.link_asking.proofs.TurnLaws.{AreLeft}
use Rattle.link_asking.proofs.searching.go_on.Given as goal

abbrev pub invariant-loop-number : goal.invariant-loop-number
invariant-loop-number g l =
    StandsIn (files_of l.fn.view) l.at
    × AreLeft l.fn.view (names_of l.fn.written.path.now l.fn.written.chain.now) l.fn.from l.initial.found l.initial.notes l.number l.at l.found l.notes

abbrev pub decreases-loop-number : goal.decreases-loop-number
decreases-loop-number g l = l.count - l.number
