use Rattle.std.proofs.Common.{arith, get_or}
use Rattle.element_store.specs.declared.numbers.ElementNo.{ElementNo}
use Rattle.link_walk.proofs.MarkLaws.{get_among}
use Rattle.value_meanings.proofs.sole.redefined_among.Goals as goal

pub add_redefined-requires-clause-stands : goal.add_redefined-requires-clause-stands
add_redefined-requires-clause-stands c =
    let d : ElementNo = record { file = record { 0 = 0 }; index = 0 } in
    c.requires.stand (get_or c.args.features.now c.loop-by.by-index d) (get_among c.args.features.now c.loop-by.by-index d (omega arith))
