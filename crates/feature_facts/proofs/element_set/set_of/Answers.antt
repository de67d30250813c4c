use Rattle.std.proofs.Common.{◌≡◌, ◌+◌, drop, sym, ◌∙◌, ap, arith}
use Rattle.std.specs.Prelude.{◌||◌, false}
use Rattle.link_model.specs.Keys.{same_element, is_in}
use Rattle.link_walk.proofs.TookLaws.{next_is, none_left}
use Rattle.feature_facts.proofs.Tests.{one_moved, or_none}
use Rattle.feature_facts.proofs.element_set.set_of.Goals as goal

pub loop-element-init : goal.loop-element-init
loop-element-init c e = ap (λ s. is_in e s || is_in e c.args.elements.now) c.new-set.ensures

pub loop-element-preserved : goal.loop-element-preserved
loop-element-preserved c e =
    let xs = c.args.elements.now in
    let i = c.loop-element.element-index in
    ap (λ b. b || is_in e (drop (i + 1) xs)) (c.in_ok-add.ensures e)
    ∙ (one_moved _ (is_in e c.loop-element.set) _
    ∙ (ap (λ ys. is_in e c.loop-element.set || is_in e ys) (sym (next_is xs i _ c.loop-element-test.true)) ∙ c.loop-element.invariant e))

pub returns : goal.returns
returns c e =
    sym (or_none (is_in e c.loop-element.set))
    ∙ (ap (λ ys. is_in e c.loop-element.set || is_in e ys) (sym (none_left c.args.elements.now c.loop-element.element-index
    (omega (arith, c.loop-element-test.false)))) ∙ c.loop-element.invariant e)
