use Rattle.std.proofs.Common.{◌∙◌, sym, ap, subst, arith, length, length-append}
use Rattle.model_printer.specs.Parts.{AreBegins}
use Rattle.model_printer.proofs.PartLaws.{begins_more}
use Rattle.model_printer.proofs.begins.begins.Goals as goal

pub loop-number-preserved : goal.loop-number-preserved
loop-number-preserved c = record {
  each = ap length c.in_ok-push.ensures.items ∙ simp length-append (omega (arith, c.loop-number.invariant.each));
  begins = subst (AreBegins c.args.model.now c.args.nodes.now) (sym c.in_ok-push.ensures.items)
      (begins_more c.args.model.now c.args.nodes.now c.loop-number.begins.items c.loop-number.number c.begin_at-begin.result c.loop-number.invariant.begins
      (sym c.loop-number.invariant.each) (omega arith) c.begin_at-begin.ensures);
}
