use Rattle.link_walk.proofs.MarkLaws.{get_among}
use Rattle.inheritance.proofs.redefined.take_redefinitions.Goals as goal

pub take_redefinition-requires : goal.take_redefinition-requires
take_redefinition-requires c = record {
  stands = c.requires.stand _ (get_among c.args.references.now c.loop-reference.reference-index _ c.loop-reference-test.true);
}
