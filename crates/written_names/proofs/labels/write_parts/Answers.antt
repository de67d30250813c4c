use Rattle.std.proofs.Common.{codes}
use Rattle.written_names.specs.Spellable.{own_part_at}
use Rattle.written_names.proofs.NameLaws.{one_written}
use Rattle.written_names.proofs.labels.write_parts.Goals as goal

pub loop-index-preserved : goal.loop-index-preserved
loop-index-preserved c =
    one_written (own_part_at c.args.model.now) (codes "::") c.args.answer.now.items c.loop-index.answer.items c.write_separator.new.answer.items
    c.write_own_part.new.answer.items c.args.path.now c.loop-index.index _ c.loop-index-test.true c.loop-index.invariant c.in_ok-write_separator.ensures
    c.in_ok-write_own_part.ensures
