-- the least of the hits from here on
use Rattle.std.proofs.Common.{◌≡◌, ◌≤◌, drop, length}
use Rattle.std.specs.Prelude.{IfSome}
use Rattle.std.specs.Option.{option_map}
use Rattle.linker_base.specs.Members.{IsMember}
use Rattle.link_tiers.specs.Picks.{ranked, least_ranked}
use Rattle.link_tiers.proofs.picking.least.Given as goal

abbrev pub invariant-loop-at : goal.invariant-loop-at
invariant-loop-at l = (l.at ≤ length l.hits)
    × (option_map (ranked l.models) l.least ≡ least_ranked l.models l.without (drop l.at l.hits))
    × IfSome l.least (IsMember l.hits)

abbrev pub decreases-loop-at : goal.decreases-loop-at
decreases-loop-at l = l.at
