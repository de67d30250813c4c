use Rattle.std.proofs.Common.{◌∙◌, ap}
use Rattle.std.specs.List.{list_any}
use Rattle.demand_core.specs.Tables.{entry_of}
use Rattle.demand_core.proofs.ReaderLaws.{listed_by}
use Rattle.demand_core.proofs.RoundsLaws.{exact_test}
use Rattle.demand_core.proofs.readings.Readings.has.Goals as goal

pub returns-in-Some : goal.returns-in-Some
returns-in-Some g c =
    listed_by g.K.PartialEq.eq (exact_test g.met.K.Same.exact g.met.K.Eq.laws) g.T.PartialEq.eq (exact_test g.met.T.Same.exact g.met.T.Eq.laws)
    c.args.self.now c.args.key c.args.thing.now c.in-Some.list.now c.is_among.result
    (c.in-Some.ensures ∙ ap (λ es. entry_of g.K.PartialEq.eq es c.args.key) c.self.view_is)
    (c.is_among.ensures ∙ ap (λ xs. list_any (g.T.PartialEq.eq c.args.thing.now) xs) c.as_slice.ensures)
