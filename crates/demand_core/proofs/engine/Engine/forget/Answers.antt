use Rattle.std.proofs.Common.{◌<◌, ◌≤◌, ◌∙◌, length, take, get_or, ap, subst, sym, arith}
use Rattle.linker_base.proofs.MemberLaws.{get_member}
use Rattle.demand_core.specs.Forgotten.{IsFollowed}
use Rattle.demand_core.proofs.RoundsLaws.{exact_test, one_more}
use Rattle.demand_core.proofs.ForgetLaws.{follow_fact, follow_key, follow_short, follow_all, stale_held}
use Rattle.demand_core.proofs.engine.Engine.forget.Goals as goal

pub loop-fact-preserved : goal.loop-fact-preserved
loop-fact-preserved g c =
    subst (λ seen. IsFollowed g.K.PartialEq.eq c.args.self.now c.args.facts.now seen 0 c.forget_readers.new.gone c.forget_readers.new.self)
    (sym (one_more c.loop-fact.fact-index c.args.facts.now c.fact-item.result c.loop-fact-test.true c.fact-item.is))
    (follow_fact g.K.PartialEq.eq (exact_test g.met.K.Same.exact g.met.K.Eq.laws) c.args.self.now c.args.facts.now
    (take c.loop-fact.fact-index c.args.facts.now)
    c.fact-item.result 0 c.loop-fact.self c.forget_readers.new.self c.loop-fact.gone c.forget_readers.new.gone
    (get_member c.loop-fact.fact-index c.args.facts.now c.fact-item.result c.loop-fact-test.true c.fact-item.is)
    c.loop-fact.invariant c.in_ok-forget_readers.ensures)

pub loop-next-smaller : goal.loop-next-smaller
loop-next-smaller g c =
    let short = follow_short g.K.PartialEq.eq (exact_test g.met.K.Same.exact g.met.K.Eq.laws) c.args.self.now c.args.facts.now c.args.facts.now
    c.loop-next.next c.loop-next.gone c.loop-next.self c.loop-next.invariant in
    let lt : c.loop-next.next < length c.loop-next.gone = subst (λ xs. c.loop-next.next < length xs) c.as_slice.ensures c.loop-next-test.true in
    omega (arith, short, lt)

pub loop-next-preserved : goal.loop-next-preserved
loop-next-preserved g c =
    let lt : c.loop-next.next < length c.loop-next.gone = subst (λ xs. c.loop-next.next < length xs) c.as_slice.ensures c.loop-next-test.true in
    follow_key g.K.PartialEq.eq (exact_test g.met.K.Same.exact g.met.K.Eq.laws) c.args.self.now c.args.facts.now c.args.facts.now
    c.loop-next.next c.index-as_slice-next.result c.loop-next.self c.forget_readers-in-loop-next.new.self c.loop-next.gone
    c.forget_readers-in-loop-next.new.gone
    lt (c.index-as_slice-next.is ∙ ap (λ xs. get_or xs c.loop-next.next c.index-as_slice-next.result) c.as_slice-in-loop-next.ensures)
    c.loop-next.invariant c.in_ok-forget_readers-2.ensures

pub returns-clause-all : goal.returns-clause-all
returns-clause-all g c =
    follow_all g.K.PartialEq.eq (exact_test g.met.K.Same.exact g.met.K.Eq.laws) c.args.self.now c.args.facts.now
    c.loop-next.next c.loop-next.gone c.loop-next.self (subst (λ xs. length xs ≤ c.loop-next.next) c.as_slice.ensures c.loop-next-test.false)
    c.loop-next.invariant

pub returns-clause-held : goal.returns-clause-held
returns-clause-held g c k i =
    stale_held g.K.PartialEq.eq (exact_test g.met.K.Same.exact g.met.K.Eq.laws) c.args.self.now c.args.facts.now c.looks_are_of_held.ensures k
    (c.loop-next.invariant.forgetting.stale.stale k i)
