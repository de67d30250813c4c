use Rattle.std.proofs.Common.{take}
use Rattle.std.specs.List.{flat_map}
use Rattle.linker_base.specs.Members.{Adds}
use Rattle.link_walk.specs.Calls.{read_by}
use Rattle.value_meanings.specs.Standing.{standing_in}
use Rattle.value_meanings.proofs.candidates.add_homes.Given as goal

-- what the types so far own was added
abbrev pub invariant-loop-of : goal.invariant-loop-of
invariant-loop-of l = Adds l.initial.found l.found (flat_map (standing_in (read_by l.view) l.feature) (take l.of-index l.types))
