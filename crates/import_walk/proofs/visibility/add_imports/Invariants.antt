use Rattle.std.proofs.Common.{length, take}
use Rattle.demand_core.specs.Computation.{joined}
use Rattle.link_walk.specs.Calls.{files_of, read_by}
use Rattle.import_walk.specs.Deferred.{Asking, Defers, shown_import}
use Rattle.import_walk.proofs.visibility.add_imports.Given as goal

-- the imports so far are added
abbrev pub invariant-loop-index : goal.invariant-loop-index
invariant-loop-index g l = (ask : Asking) → Defers ask (files_of l.fn.view) (read_by l.fn.view) l.inner (length
    (take l.index-index l.numbers))
    (joined (shown_import l.name ask l.inner l.fn.all l.fn.file l.model) (take l.index-index l.numbers)
    (read_by l.fn.view)) l.initial.hunt l.hunt
