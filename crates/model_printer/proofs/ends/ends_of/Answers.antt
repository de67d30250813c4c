use Rattle.model_printer.proofs.EndLaws.{ends_all}
use Rattle.model_printer.proofs.ends.ends_of.Goals as goal

pub returns-clause-ends : goal.returns-clause-ends
returns-clause-ends c =
    ends_all c.args.model.now c.args.element c.loop-item.item-index c.items.result.now c.as_slice-items.result.now c.loop-item.ends.items
    c.items.ensures.lent c.as_slice-items.ensures c.loop-item-test.false c.loop-item.invariant.found
