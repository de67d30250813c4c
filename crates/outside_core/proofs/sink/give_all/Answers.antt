use Rattle.std.proofs.Common.{◌∙◌, arith, length-drop}
use Rattle.outside_core.proofs.Streams.{given_further}
use Rattle.outside_core.proofs.sink.give_all.Goals as goal

pub loop-done-preserved : goal.loop-done-preserved
loop-done-preserved g c = record {
  within = omega (arith, c.in_ok-done.ensures.bound, length-drop c.loop-done.done c.args.piece.now);
  given = given_further _ _ _ _ _ _ _ c.loop-done.invariant.given c.in_ok-done.ensures.told;
  faults = c.in_ok-done.ensures.cause.kept ∙ c.loop-done.invariant.faults;
}
