use Rattle.std.proofs.Common.{◌≡◌, ◌∙◌, ◌++◌, List, [], length, sym, ap}
use Rattle.std.specs.Prelude.{Result, Ok, Err, IfOk, OnOk}
use Rattle.demand_core.specs.Tables.{entry_of}
use Rattle.value_model.specs.Keys.{same_value_key}
use Rattle.expr_reading.proofs.ReadLaws.{if_ok, whole_told}
use Rattle.expr_reading.proofs.reading.worth.Goals as goal

on_ok : {T E : Type 0} {P : T → Type 0} {A : Type 0} (r : Result T E) → IfOk r P → ((t : T) → P t → A) → OnOk r A
on_ok (Ok t) h f = f t h
on_ok (Err e) h f = h

pub returns-clause-step : goal.returns-clause-step
returns-clause-step g c =
    if_ok c.turn_all.result c.turn_all.ensures (λ step is. ap (λ a. a.step) (is
    ∙ whole_told (g.S.Source.meaning c.args.source.now) (entry_of same_value_key c.args.table.now) c.args.looks.now c.new-pending.result.items
    (length c.nodes-2.result.now) c.new-pending.ensures.items (ap length c.nodes-2.ensures.lent)))

pub returns-clause-looks : goal.returns-clause-looks
returns-clause-looks g c =
    on_ok c.turn_all.result c.turn_all.ensures (λ step is. ap (λ a. a.looks) (is
    ∙ whole_told (g.S.Source.meaning c.args.source.now) (entry_of same_value_key c.args.table.now) c.args.looks.now c.new-pending.result.items
    (length c.nodes-2.result.now) c.new-pending.ensures.items (ap length c.nodes-2.ensures.lent)))
