use Rattle.std.proofs.Common.{◌≡◌, None, Some, refl, sym, ◌∙◌, ap, subst}
use Rattle.std.specs.Map.{update}
use Rattle.std.specs.Prelude.{IsSome}
use Rattle.demand_core.specs.Readers.{or_empty, is_reader}
use Rattle.demand_core.specs.Tables.{entry_of}
use Rattle.demand_core.proofs.ReaderLaws.{reader_less, reader_none, reader_empty}
use Rattle.demand_core.proofs.RoundsLaws.{exact_test}
use Rattle.demand_core.proofs.readers.Readers.take.Goals as goal

pub returns-in-Some-clause-taken : goal.returns-in-Some-clause-taken
returns-in-Some-clause-taken g c =
    let same = g.T.PartialEq.eq in
    let there = c.in-Some.ensures.value in
    let written = c.get_mut.follows.holds c.take_out.new.readers in
    let sets = λ (q : g.row.T.Denot). (written.3 (subst IsSome there refl)).0 q
    ∙ ap (λ es. update same (entry_of same es) c.args.thing.now (Some c.take_out.new.readers) q) c.self.view_is in
    let had = sym (ap or_empty (there ∙ ap (λ es. entry_of same es c.args.thing.now) c.self.view_is)) in
    reader_less g.K.PartialEq.eq (exact_test g.met.K.Same.exact g.met.K.Eq.laws) same (exact_test g.met.T.Same.exact g.met.T.Eq.laws) c.args.self.now
    (c.get_mut.follows.lender c.take_out.new.readers).entries c.args.thing.now c.in-Some.readers.now c.take_out.new.readers c.args.key sets had
    c.take_out.ensures.rest

pub returns-in-Some-clause-none : goal.returns-in-Some-clause-none
returns-in-Some-clause-none g c empty =
    let same = g.T.PartialEq.eq in
    let there = c.in-Some.ensures.value in
    let written = c.get_mut.follows.holds c.take_out.new.readers in
    let sets = λ (q : g.row.T.Denot). (written.3 (subst IsSome there refl)).0 q
    ∙ ap (λ es. update same (entry_of same es) c.args.thing.now (Some c.take_out.new.readers) q) c.self.view_is in
    reader_empty g.K.PartialEq.eq (exact_test g.met.K.Same.exact g.met.K.Eq.laws) same (exact_test g.met.T.Same.exact g.met.T.Eq.laws) c.args.self.now
    (c.get_mut.follows.lender c.take_out.new.readers).entries c.args.thing.now c.take_out.new.readers sets (c.take_out.ensures.none.0 empty)

pub returns-in-None-clause-taken : goal.returns-in-None-clause-taken
returns-in-None-clause-taken g c =
    let same = g.T.PartialEq.eq in
    let map = c.get_mut.follows.lender-at-none in
    let is : map.entries ≡ c.args.self.now = ap (λ m. m.entries) c.get_mut.follows.holds-at-none ∙ c.self.view_is in
    let none : entry_of same c.args.self.now c.args.thing.now ≡ None =
    sym (c.in-None.ensures.value ∙ ap (λ es. entry_of same es c.args.thing.now) c.self.view_is) in
    λ t k. ap (λ es. is_reader g.K.PartialEq.eq same es t k) is
    ∙ reader_none g.K.PartialEq.eq (exact_test g.met.K.Same.exact g.met.K.Eq.laws) same (exact_test g.met.T.Same.exact g.met.T.Eq.laws) c.args.self.now
    c.args.thing.now c.args.key none t k
