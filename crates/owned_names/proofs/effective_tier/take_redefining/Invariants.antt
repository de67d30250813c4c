use Rattle.std.proofs.Common.{take}
use Rattle.demand_core.specs.Computation.{joined}
use Rattle.link_walk.specs.Calls.{read_by}
use Rattle.link_walk.specs.Gained.{Gained}
use Rattle.owned_names.specs.Walked.{effective_part}
use Rattle.owned_names.proofs.effective_tier.take_redefining.Given as goal

-- the members so far are taken
abbrev pub invariant-loop-index : goal.invariant-loop-index
invariant-loop-index l = Gained (joined (effective_part l.model l.at.file l.name) (take l.index-index l.members) (read_by l.fn.view)) l.initial.gains l.gains
