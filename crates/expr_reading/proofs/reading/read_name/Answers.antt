use Rattle.std.proofs.Common.{◌≡◌, ◌∙◌, sym, ap, ◌++◌, ◌∷◌, []}
use Rattle.std.specs.Prelude.{Result, Ok, Err, IfOk, OnOk}
use Rattle.demand_core.specs.Tables.{entry_of}
use Rattle.value_model.specs.Keys.{same_value_key}
use Rattle.expr_reading.specs.Sources.{as_lead}
use Rattle.expr_reading.proofs.TurnLaws.{known_named, needs_named}
use Rattle.expr_reading.proofs.reading.read_name.Goals as goal

if_both : {T E : Type 0} {P Q : T → Type 0} {A : Type 0} (r : Result T E) → OnOk r A → IfOk r P → (A → (t : T) → P t → Q t) → IfOk r Q
if_both (Ok t) a h f = f a t h
if_both (Err e) a h f = h

pub returns-in-Known : goal.returns-in-Known
returns-in-Known g c =
    known_named (g.S.Source.meaning c.args.source.now) (entry_of same_value_key c.args.table.now) c.args.reference c.args.looks.now c.args.looks.now
    c.in-Known.answer c.turn_of.result c.turn_of.ensures (λ i. c.args.looks.now) (sym (ap as_lead c.in-Known.is) ∙ c.in_ok-answer.ensures)

pub returns-in-Needs : goal.returns-in-Needs
returns-in-Needs g c =
    if_both c.look_up.result c.look_up.ensures.looks c.look_up.ensures.turn (λ more to is.
    needs_named (g.S.Source.meaning c.args.source.now) (entry_of same_value_key c.args.table.now) c.args.reference c.args.looks.now c.look_up.new.looks
    c.in-Needs.key to is more (sym (ap as_lead c.in-Needs.is) ∙ c.in_ok-answer.ensures))
