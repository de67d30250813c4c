-- the members before the index are asked
use Rattle.std.proofs.Common.{take}
use Rattle.demand_core.specs.Computation.{joined}
use Rattle.demand_core.specs.Search.{IsAsked}
use Rattle.link_model.specs.Lexical.{member_hit}
use Rattle.link_walk.specs.Calls.{read_by, files_of}
use Rattle.link_tiers.specs.Tiers.{AreFound}
use Rattle.link_tiers.proofs.roots.member_hits.Given as goal

abbrev pub invariant-loop-member : goal.invariant-loop-member
invariant-loop-member l = IsAsked l.gains (joined member_hit (take l.member-index l.members) (read_by l.view)) × AreFound (files_of l.view) l.gains
