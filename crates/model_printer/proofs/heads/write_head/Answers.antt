use Rattle.model_printer.proofs.EndLaws.{expressions_stand}
use Rattle.model_printer.proofs.heads.write_head.Goals as goal

pub write_value-requires : goal.write_value-requires
write_value-requires c =
    (expressions_stand c.args.model.now c.args.element c.element_of-record.result.now c.requires.expressions c.requires.stands
    c.element_of-record.ensures.is c.element_of-record.ensures.names).0
