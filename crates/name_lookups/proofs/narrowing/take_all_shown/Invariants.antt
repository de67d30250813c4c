use Rattle.std.proofs.Common.{take}
use Rattle.link_model.specs.Imports.{narrowed}
use Rattle.link_walk.specs.Calls.{read_by}
use Rattle.link_walk.specs.Gained.{Gained}
use Rattle.name_lookups.proofs.narrowing.take_all_shown.Given as goal

-- the hits so far are narrowed
abbrev pub invariant-loop-hit : goal.invariant-loop-hit
invariant-loop-hit l = Gained (narrowed l.all (take l.hit-index l.hits) (read_by l.view)) l.initial.gains l.gains
