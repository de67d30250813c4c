use Rattle.std.proofs.Common.{◌≡◌, true, take}
use Rattle.linker_base.specs.Members.{IsMember}
use Rattle.demand_core.specs.Readers.{is_reader}
use Rattle.demand_core.proofs.readers.Readers.note_all.Given as goal

-- the things before the next one are noted, and what was noted stays
abbrev pub invariant-loop-thing : goal.invariant-loop-thing
invariant-loop-thing g l = record {
  noted : (t : g.row.T.Denot) → IsMember (take l.thing-index l.things) t → is_reader g.K.PartialEq.eq g.T.PartialEq.eq l.self t l.key ≡ true;
  kept : (t : g.row.T.Denot) (k : g.row.K.Denot) → is_reader g.K.PartialEq.eq g.T.PartialEq.eq l.fn.self t k ≡ true
      → is_reader g.K.PartialEq.eq g.T.PartialEq.eq l.self t k ≡ true;
}
