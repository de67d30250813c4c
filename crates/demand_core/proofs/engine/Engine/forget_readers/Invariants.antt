use Rattle.std.proofs.Common.{take}
use Rattle.demand_core.specs.Forgotten.{Forgets}
use Rattle.demand_core.proofs.engine.Engine.forget_readers.Given as goal

abbrev pub invariant-loop-key : goal.invariant-loop-key
invariant-loop-key g l = Forgets g.K.PartialEq.eq l.fact (take l.key-index l.key-items) l.fn.self l.self l.fn.gone l.gone
