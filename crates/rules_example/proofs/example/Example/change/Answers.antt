use Rattle.std.proofs.Common.{[], ◌∷◌, subst, sym}
use Rattle.std.specs.Prelude.{slice_set}
use Rattle.demand_core.proofs.AgainLaws.{may_settle_again}
use Rattle.demand_core.specs.Again.{HoldsAll}
use Rattle.demand_core.specs.Settled.{CanSettle}
use Rattle.demand_core.specs.declared.looks.Fact.TheVariants.{Outer}
use Rattle.rules_example.proofs.ChangeLaws.{row_changes, gone_are_fresh}
use Rattle.rules_example.specs.Example.{example_meaning, example_lawful}
use Rattle.rules_example.specs.Numbers.{same_number, number_is_exact}
use Rattle.rules_example.proofs.example.Example.change.Goals as goal

pub settle-requires-clause-ready : goal.settle-requires-clause-ready
settle-requires-clause-ready g c =
    let rows = c.self.inside.rows.items in
    let changed = slice_set rows c.args.place.0 c.args.row in
    let gone = c.in_ok-gone.gone in
    let holds = subst (λ r. HoldsAll same_number (example_meaning r) c.args.engine.now) (sym c.self.view_is) c.requires.holds in
    subst (λ keys. CanSettle same_number (example_meaning changed) keys c.forget.new.self) (sym c.as_slice.ensures)
    (may_settle_again same_number number_is_exact (example_meaning rows) (example_meaning changed) (example_lawful rows) (example_lawful changed)
    (Outer c.args.place ∷ []) gone gone c.args.engine.now c.forget.new.self holds (row_changes rows c.args.place c.args.row gone)
    (record { stale = c.in_ok-gone.ensures.stale; all = c.in_ok-gone.ensures.all; without = c.in_ok-gone.ensures.without })
    (gone_are_fresh rows c.args.place c.args.row gone c.args.engine.now holds c.in_ok-gone.ensures.held))
