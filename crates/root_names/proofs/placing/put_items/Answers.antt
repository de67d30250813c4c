-- One item more, or want of memory at it.
use Rattle.root_names.specs.Roots.{bearing}
use Rattle.root_names.specs.Steps.{shown_by, is_behind}
use Rattle.root_names.proofs.TableLaws.{on_err}
use Rattle.root_names.proofs.PutLaws.{put_more, partly_more}
use Rattle.root_names.proofs.RootLaws.{own_shown}
use Rattle.root_names.proofs.placing.put_items.Goals as goal

pub returns-in_err-put_item-clause-err : goal.returns-in_err-put_item-clause-err
returns-in_err-put_item-clause-err c = on_err c.from_residual.result (λ x.
    partly_more (shown_by x c.args.file c.args.model.now) c.args.items.now c.loop-item.item-index _ c.args.file (is_behind c.args.models.now c.args.file)
    (bearing c.args.table.now x) (bearing c.loop-item.table x) (bearing c.put_item.new.table x) c.loop-item-test.true
    (own_shown x c.args.file c.args.model.now) (c.in_err-put_item.ensures.err x) (c.loop-item.invariant x))

pub loop-item-preserved : goal.loop-item-preserved
loop-item-preserved c x =
    put_more (shown_by x c.args.file c.args.model.now) c.args.items.now c.loop-item.item-index _ (is_behind c.args.models.now c.args.file)
    (bearing c.args.table.now x) (bearing c.loop-item.table x) (bearing c.put_item.new.table x) c.loop-item-test.true
    (c.in_ok-put_item.ensures.ok x) (c.loop-item.invariant x)
