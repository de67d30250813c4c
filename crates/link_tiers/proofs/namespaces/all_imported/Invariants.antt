-- the imports before the index are asked
use Rattle.std.proofs.Common.{take}
use Rattle.demand_core.specs.Computation.{joined}
use Rattle.demand_core.specs.Search.{IsAsked}
use Rattle.link_model.specs.Outside.{library_of}
use Rattle.link_walk.specs.Calls.{files_of, read_by}
use Rattle.link_tiers.specs.Tiers.{AreFound, import_part}
use Rattle.link_tiers.proofs.namespaces.all_imported.Given as goal

abbrev pub invariant-loop-index : goal.invariant-loop-index
invariant-loop-index g l =
    IsAsked l.gains (joined (import_part (library_of (files_of l.fn.view)) l.name l.before l.at l.model) (take l.index-index l.numbers) (read_by l.fn.view))
    × AreFound (files_of l.fn.view) l.gains
