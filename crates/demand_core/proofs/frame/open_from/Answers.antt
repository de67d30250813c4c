use Rattle.std.proofs.Common.{sym}
use Rattle.linker_base.proofs.MemberLaws.{get_member}
use Rattle.demand_core.proofs.frame.open_from.Goals as goal

pub returns-in-None-clause-found : goal.returns-in-None-clause-found
returns-in-None-clause-found g c =
    (get_member c.loop-place.place c.args.keys.now c.index-keys-place.result c.loop-place-test.true c.index-keys-place.is, sym c.in-None.ensures)
