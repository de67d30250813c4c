use Rattle.std.proofs.Common.{◌∙◌, arith}
use Rattle.outside_core.proofs.Shelves.{beside_next}
use Rattle.outside_core.proofs.steady.text_under.Goals as goal

pub loop-i-preserved : goal.loop-i-preserved
loop-i-preserved c = beside_next c.args.names.now c.args.texts.now c.args.name.now c.loop-i.i c.index-names-i.result (omega arith) (omega arith) c.index-names-i.is (cc (c.if-eq.ensures, c.as_str.ensures.value)) ∙ c.loop-i.invariant
