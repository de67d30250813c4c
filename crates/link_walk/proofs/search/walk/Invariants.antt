use Rattle.std.proofs.Common.{[], length, ◌-◌}
use Rattle.demand_core.specs.Search.{IsWalked}
use Rattle.link_model.specs.Keys.{same_element}
use Rattle.link_walk.proofs.search.walk.Given as goal

-- the nodes before the index are expanded
abbrev pub invariant-loop-next : goal.invariant-loop-next
invariant-loop-next g l =
    IsWalked (g.W.Links.links l.ways) (g.W.Links.leads l.ways) (g.W.Links.world l.ways) same_element [] l.starts (g.W.Links.all l.ways) l.next l.trail

abbrev pub decreases-loop-next : goal.decreases-loop-next
decreases-loop-next g l = length (g.W.Links.all l.ways) - l.next
