-- One item more.
use Rattle.root_names.specs.Roots.{bearing}
use Rattle.root_names.specs.Steps.{shown_by}
use Rattle.root_names.proofs.PutLaws.{taken_more}
use Rattle.root_names.proofs.taking.take_items.Goals as goal

pub loop-item-preserved : goal.loop-item-preserved
loop-item-preserved c x =
    taken_more (shown_by x c.args.file c.args.model.now) c.args.items.now c.loop-item.item-index _ c.args.file (bearing c.args.table.now x)
    (bearing c.loop-item.table x) (bearing c.take_item.new.table x) c.loop-item-test.true (c.take_item.ensures x) (c.loop-item.invariant x)
