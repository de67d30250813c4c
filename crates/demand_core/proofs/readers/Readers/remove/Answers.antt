use Rattle.std.proofs.Common.{◌∙◌}
use Rattle.demand_core.proofs.ReaderLaws.{reader_gone}
use Rattle.demand_core.proofs.RoundsLaws.{exact_test}
use Rattle.demand_core.proofs.readers.Readers.remove.Goals as goal

pub returns-then-take : goal.returns-then-take
returns-then-take g c t k =
    reader_gone g.K.PartialEq.eq (exact_test g.met.K.Same.exact g.met.K.Eq.laws) g.T.PartialEq.eq (exact_test g.met.T.Same.exact g.met.T.Eq.laws)
    c.take.new.self c.let_go.new.self c.args.thing.now c.let_go.ensures (c.take.ensures.none c.if-take.true) t k
    ∙ c.take.ensures.taken t k
