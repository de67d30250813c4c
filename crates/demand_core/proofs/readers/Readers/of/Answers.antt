use Rattle.std.proofs.Common.{◌∙◌, ap}
use Rattle.std.proofs.lemmas.Result.{IfOk-weaker}
use Rattle.demand_core.specs.Tables.{entry_of}
use Rattle.demand_core.proofs.ReaderLaws.{reader_at, reader_nowhere}
use Rattle.demand_core.proofs.RoundsLaws.{exact_test}
use Rattle.demand_core.proofs.readers.Readers.of.Goals as goal

pub returns-in-Some : goal.returns-in-Some
returns-in-Some g c =
    let at = reader_at g.K.PartialEq.eq (exact_test g.met.K.Same.exact g.met.K.Eq.laws) g.T.PartialEq.eq (exact_test g.met.T.Same.exact g.met.T.Eq.laws) in
    IfOk-weaker c.keys.result _ _
    (λ keys all k is. all k tt (at c.args.self.now c.args.thing.now c.in-Some.readers.now k
    (c.in-Some.ensures.value ∙ ap (λ es. entry_of g.T.PartialEq.eq es c.args.thing.now) c.self.view_is) is)) c.keys.ensures

pub returns-in-None : goal.returns-in-None
returns-in-None g c k is =
    absurd (reader_nowhere g.K.PartialEq.eq (exact_test g.met.K.Same.exact g.met.K.Eq.laws) g.T.PartialEq.eq (exact_test g.met.T.Same.exact g.met.T.Eq.laws)
    c.args.self.now c.args.thing.now k (c.in-None.ensures.value ∙ ap (λ es. entry_of g.T.PartialEq.eq es c.args.thing.now) c.self.view_is) is)
