use Rattle.std.proofs.Common.{◌≡◌, [], None, Some, refl, sym, ◌∙◌, ap, subst}
use Rattle.std.proofs.lemmas.Result.{on_ok_weaker, on_err_weaker}
use Rattle.std.specs.Map.{update}
use Rattle.std.specs.Prelude.{IsSome}
use Rattle.demand_core.specs.Readers.{or_empty}
use Rattle.demand_core.specs.Tables.{entry_of, Sets}
use Rattle.demand_core.proofs.ReaderLaws.{reader_more, reader_same}
use Rattle.demand_core.proofs.RoundsLaws.{exact_test}
use Rattle.demand_core.proofs.readers.Readers.note.Goals as goal

pub returns-in-Some-clause-ok : goal.returns-in-Some-clause-ok
returns-in-Some-clause-ok g c =
    let same = g.T.PartialEq.eq in
    let there = c.in-Some.ensures.value in
    let written = c.get_mut.follows.holds c.put.new.self in
    let sets = λ (q : g.row.T.Denot). (written.3 (subst IsSome there refl)).0 q
    ∙ ap (λ es. update same (entry_of same es) c.args.thing.now (Some c.put.new.self) q) c.self.view_is in
    let had = sym (ap or_empty (there ∙ ap (λ es. entry_of same es c.args.thing.now) c.self.view_is)) in
    on_ok_weaker c.put.result
    (λ puts. reader_more g.K.PartialEq.eq (exact_test g.met.K.Same.exact g.met.K.Eq.laws) same (exact_test g.met.T.Same.exact g.met.T.Eq.laws) c.args.self.now
    (c.get_mut.follows.lender c.put.new.self).entries c.args.thing.now c.in-Some.readers.now c.put.new.self c.args.key sets had puts) c.put.ensures.ok

pub returns-in-Some-clause-err : goal.returns-in-Some-clause-err
returns-in-Some-clause-err g c =
    let same = g.T.PartialEq.eq in
    let there = c.in-Some.ensures.value in
    let written = c.get_mut.follows.holds c.put.new.self in
    let sets = λ (q : g.row.T.Denot). (written.3 (subst IsSome there refl)).0 q
    ∙ ap (λ es. update same (entry_of same es) c.args.thing.now (Some c.put.new.self) q) c.self.view_is in
    let had = sym (ap or_empty (there ∙ ap (λ es. entry_of same es c.args.thing.now) c.self.view_is)) in
    on_err_weaker c.put.result
    (λ stays. reader_same g.K.PartialEq.eq (exact_test g.met.K.Same.exact g.met.K.Eq.laws) same (exact_test g.met.T.Same.exact g.met.T.Eq.laws) c.args.self.now
    (c.get_mut.follows.lender c.put.new.self).entries c.args.thing.now c.in-Some.readers.now c.put.new.self sets had stays) c.put.ensures.err

pub returns-in_ok-insert-in-None-clause-ok : goal.returns-in_ok-insert-in-None-clause-ok
returns-in_ok-insert-in-None-clause-ok g c =
    let same = g.T.PartialEq.eq in
    let map = c.get_mut.follows.lender-at-none in
    let is : map.entries ≡ c.args.self.now = ap (λ m. m.entries) c.get_mut.follows.holds-at-none ∙ c.self.view_is in
    let none : entry_of same c.args.self.now c.args.thing.now ≡ None =
    sym (c.in-None.ensures.value ∙ ap (λ es. entry_of same es c.args.thing.now) c.self.view_is) in
    let second : c.in_ok-copied-in-None.field-0 ≡ c.args.thing.now = c.in_ok-copied-in-None.ensures in
    let sets = λ (q : g.row.T.Denot). c.in_ok-insert-in-None.ensures.updates.0 q
    ∙ (ap (λ t. update same (entry_of same map.entries) t (Some c.put-in-None.new.self) q) second
    ∙ ap (λ es. update same (entry_of same es) c.args.thing.now (Some c.put-in-None.new.self) q) is) in
    reader_more g.K.PartialEq.eq (exact_test g.met.K.Same.exact g.met.K.Eq.laws) same (exact_test g.met.T.Same.exact g.met.T.Eq.laws) c.args.self.now
    c.insert.new.self.entries c.args.thing.now [] c.put-in-None.new.self c.args.key sets (ap or_empty none)
    (subst (λ b. Sets g.K.PartialEq.eq b c.put-in-None.new.self c.args.key tt) c.new-readers.ensures c.in_ok-put-in-None.ensures.ok)
