use Rattle.std.proofs.Common.{◌∙◌, subst, sym, refl}
use Rattle.std.proofs.lemmas.List.{take_all}
use Rattle.linker_base.specs.Members.{IsMember}
use Rattle.demand_core.proofs.ReaderLaws.{taken_other, gone_more}
use Rattle.demand_core.proofs.RoundsLaws.{exact_test}
use Rattle.demand_core.proofs.readers.Readers.remove_all.Goals as goal

pub loop-thing-init : goal.loop-thing-init
loop-thing-init g c = record { gone = λ t m. absurd m; others = λ t k h. refl }

pub loop-thing-preserved : goal.loop-thing-preserved
loop-thing-preserved g c =
    let exact = exact_test g.met.K.Same.exact g.met.K.Eq.laws in
    let same_exact = exact_test g.met.T.Same.exact g.met.T.Eq.laws in
    record {
      gone = gone_more g.K.PartialEq.eq exact g.T.PartialEq.eq same_exact c.loop-thing.self c.remove.new.self c.thing-item.result c.args.key
          c.loop-thing.thing-index c.args.things.now c.loop-thing-test.true c.thing-item.is c.remove.ensures c.loop-thing.invariant.gone;
      others = λ t k h. taken_other g.K.PartialEq.eq exact g.T.PartialEq.eq same_exact c.loop-thing.self c.remove.new.self c.thing-item.result c.args.key
          c.remove.ensures t k h ∙ c.loop-thing.invariant.others t k h;
    }

pub returns-clause-gone : goal.returns-clause-gone
returns-clause-gone g c t m =
    c.loop-thing.invariant.gone t (subst (λ xs. IsMember xs t) (sym (take_all c.loop-thing.thing-index c.args.things.now c.loop-thing-test.false)) m)
