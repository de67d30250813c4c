use Rattle.link_walk.proofs.MarkLaws.{get_among}
use Rattle.inheritance.proofs.general_types.take_generals.Goals as goal

pub take_general-requires-clause-stands : goal.take_general-requires-clause-stands
take_general-requires-clause-stands c =
    c.requires.stand _ (get_among c.args.references.now c.loop-reference.reference-index _ c.loop-reference-test.true)
