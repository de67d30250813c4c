use Rattle.std.proofs.Common.{take, subst, sym, ◌∙◌}
use Rattle.std.proofs.lemmas.List.{take_all}
use Rattle.linker_base.specs.Members.{IsMember}
use Rattle.demand_core.specs.Forgotten.{Forgets}
use Rattle.demand_core.proofs.RoundsLaws.{exact_test, one_more}
use Rattle.demand_core.proofs.ForgetLaws.{forgets_none, forgets_more, forgets_all}
use Rattle.demand_core.proofs.engine.Engine.forget_readers.Goals as goal

pub loop-key-init : goal.loop-key-init
loop-key-init g c = forgets_none g.K.PartialEq.eq (exact_test g.met.K.Same.exact g.met.K.Eq.laws) c.args.fact.now c.args.self.now c.args.gone.now

pub loop-key-preserved : goal.loop-key-preserved
loop-key-preserved g c =
    subst (λ keys. Forgets g.K.PartialEq.eq c.args.fact.now keys c.args.self.now c.forget_reader.new.self c.args.gone.now c.forget_reader.new.gone)
    (sym (one_more c.loop-key.key-index c.as_slice-key-items.result.now c.key-item.result c.loop-key-test.true c.key-item.is))
    (forgets_more g.K.PartialEq.eq (exact_test g.met.K.Same.exact g.met.K.Eq.laws) c.args.fact.now (take c.loop-key.key-index c.as_slice-key-items.result.now)
    c.key-item.result c.args.self.now c.loop-key.self c.forget_reader.new.self c.args.gone.now c.loop-key.gone c.forget_reader.new.gone
    c.loop-key.invariant c.in_ok-forget_reader.ensures)

pub returns : goal.returns
returns g c =
    forgets_all g.K.PartialEq.eq (exact_test g.met.K.Same.exact g.met.K.Eq.laws) c.args.fact.now (take c.loop-key.key-index c.as_slice-key-items.result.now)
    c.args.self.now c.loop-key.self c.args.gone.now c.loop-key.gone c.loop-key.invariant
    (λ k found. subst (λ keys. IsMember keys k)
    (sym (take_all c.loop-key.key-index c.as_slice-key-items.result.now c.loop-key-test.false ∙ c.as_slice-key-items.ensures))
    (c.in_ok-readers.ensures k found))
