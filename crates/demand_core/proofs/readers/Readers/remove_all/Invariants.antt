use Rattle.std.proofs.Common.{◌≡◌, false, take}
use Rattle.linker_base.specs.Members.{IsMember}
use Rattle.demand_core.specs.Readers.{is_reader}
use Rattle.demand_core.proofs.readers.Readers.remove_all.Given as goal

-- the key is no reader of the things before the next one, and others stay
abbrev pub invariant-loop-thing : goal.invariant-loop-thing
invariant-loop-thing g l = record {
  gone : (t : g.row.T.Denot) → IsMember (take l.thing-index l.things) t → is_reader g.K.PartialEq.eq g.T.PartialEq.eq l.self t l.key ≡ false;
  others : (t : g.row.T.Denot) (k : g.row.K.Denot) → g.K.PartialEq.eq l.key k ≡ false
      → is_reader g.K.PartialEq.eq g.T.PartialEq.eq l.self t k ≡ is_reader g.K.PartialEq.eq g.T.PartialEq.eq l.fn.self t k;
}
