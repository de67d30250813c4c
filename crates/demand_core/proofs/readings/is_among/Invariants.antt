use Rattle.std.proofs.Common.{◌≡◌, drop}
use Rattle.std.specs.List.{list_any}
use Rattle.demand_core.proofs.readings.is_among.Given as goal

-- it is among all where it is among those that are left
abbrev pub invariant-loop-other : goal.invariant-loop-other
invariant-loop-other g l = list_any (g.T.PartialEq.eq l.thing) l.things ≡ list_any (g.T.PartialEq.eq l.thing) (drop l.other-index l.things)
