use Rattle.std.proofs.Common.{refl, ap, arith}
use Rattle.std.specs.Prelude.{not}
use Rattle.element_store.specs.declared.numbers.ElementNo.{ElementNo}
use Rattle.link_model.specs.Keys.{same_element}
use Rattle.feature_facts.proofs.Tests.{where_next, where_end}
use Rattle.removed_features.proofs.visible_features.others.Goals as goal

pub loop-other-preserved : goal.loop-other-preserved
loop-other-preserved c =
    where_next (λ (f : ElementNo). not (same_element f c.args.e)) c.args.elements.now c.loop-other.other-index _ _ _ c.loop-other.rest
    c.push_if.new.elements _ c.loop-other-test.true refl (ap not c.is_same.ensures) c.in_ok-push_if.ensures c.loop-other.invariant

pub returns : goal.returns
returns c =
    where_end (λ (f : ElementNo). not (same_element f c.args.e)) c.args.elements.now c.loop-other.other-index c.loop-other.rest _
    (omega (arith, c.loop-other-test.false)) c.loop-other.invariant
