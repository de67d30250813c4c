use Rattle.std.proofs.Common.{◌<◌, drop, ◌+◌, add-one, drop-cons, get_or, length}
use Rattle.model_printer.proofs.EndLaws.{end_more}
use Rattle.model_printer.proofs.ends.write_more_ends.Goals as goal

pub loop-end-preserved : goal.loop-end-preserved
loop-end-preserved c =
    let lt : c.loop-end.end-index < length c.args.ends.now = c.loop-end-test.true in
    end_more c.args.model.now _ c.loop-end.writer c.sign.new.self c.write_end.new.writer (get_or c.args.ends.now c.loop-end.end-index 0)
    (drop (c.loop-end.end-index + 1) c.args.ends.now) (drop c.loop-end.end-index c.args.ends.now) c.loop-end.invariant
    (rw (add-one, drop-cons c.args.ends.now c.loop-end.end-index 0)) c.in_ok-sign.ensures c.in_ok-write_end.ensures
