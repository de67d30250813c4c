use Rattle.std.proofs.Common.{◌≡◌, ◌++◌, drop}
use Rattle.std.specs.List.{flat_map}
use Rattle.link_walk.specs.Calls.{read_by}
use Rattle.value_meanings.specs.Standing.{standing_at}
use Rattle.value_meanings.proofs.candidates.add_members.Given as goal

-- what was found, and what is left of the members, is all
abbrev pub invariant-loop-index : goal.invariant-loop-index
invariant-loop-index l =
    l.found ++ flat_map (standing_at (read_by l.view) l.feature l.of.file) (drop l.index-index l.members)
    ≡ l.initial.found ++ flat_map (standing_at (read_by l.view) l.feature l.of.file) l.members
