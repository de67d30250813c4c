use Rattle.std.proofs.Common.{◌-◌, take, length}
use Rattle.demand_core.specs.Forgotten.{IsFollowed}
use Rattle.demand_core.proofs.engine.Engine.forget.Given as goal

abbrev pub invariant-loop-fact : goal.invariant-loop-fact
invariant-loop-fact g l = IsFollowed g.K.PartialEq.eq l.fn.self l.facts (take l.fact-index l.facts) 0 l.gone l.self

abbrev pub invariant-loop-next : goal.invariant-loop-next
invariant-loop-next g l = IsFollowed g.K.PartialEq.eq l.fn.self l.facts l.facts l.next l.gone l.self

-- no more keys are gone than had lists
abbrev pub decreases-loop-next : goal.decreases-loop-next
decreases-loop-next g l = length l.fn.self.looks - l.next
