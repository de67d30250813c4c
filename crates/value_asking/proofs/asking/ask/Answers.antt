use Rattle.std.proofs.Common.{◌≡◌, ◌∙◌, ◌++◌, List, refl, sym, ap}
use Rattle.std.specs.Prelude.{Result, Ok, Err, IfOk, OnOk, Some}
use Rattle.std.specs.Option.{option_map}
use Rattle.demand_core.specs.Tables.{entry_of}
use Rattle.demand_core.specs.Computed.{world}
use Rattle.element_store.specs.declared.numbers.ElementNo.{ElementNo}
use Rattle.link_model.specs.Outside.{Library}
use Rattle.link_model.specs.Readers.{LinkWorld}
use Rattle.value_model.specs.declared.values.ValueAnswer.{ValueAnswer}
use Rattle.value_model.specs.declared.values.ValueKey.{ValueKey}
use Rattle.value_model.specs.Keys.{same_value_key}
use Rattle.value_model.specs.Meant.{meant, decider}
use Rattle.value_model.specs.Reading.{of_meant, decided_by}
use Rattle.value_model.specs.Valuing.{nothing}
use Rattle.value_features.specs.declared.own.Decider.{Decider}
use Rattle.value_features.specs.Deciders.{as_decider}
use Rattle.expr_reading.specs.Sources.{worth_in}
use Rattle.value_asking.specs.Asking.{expression_of, asked}
use Rattle.value_asking.proofs.asking.ask.Goals as goal

-- what is asked is the deciding expression
asked_is : (w : LinkWorld) (lib : Library) (key : ValueKey) (entries : List (ValueKey × ValueAnswer)) (g : ElementNo) (d : Decider)
    → Some g ≡ meant w lib key.feature key.target → Some (as_decider d) ≡ decider w g
    → worth_in (expression_of w lib d key.target) (entry_of same_value_key entries) ≡ asked w lib key entries
asked_is w lib key entries g d e h =
    ap (λ o. decided_by w lib key g o (world nothing (entry_of same_value_key entries))) h
    ∙ ap (λ o. of_meant w lib key o (world nothing (entry_of same_value_key entries))) e

if_step : {T E : Type 0} {P Q : T → Type 0} (r : Result T E) → IfOk r P → ((t : T) → P t → Q t) → IfOk r Q
if_step (Ok t) h f = f t h
if_step (Err e) h f = h

on_looks : {T E : Type 0} {A B : Type 0} (r : Result T E) → OnOk r A → (A → B) → OnOk r B
on_looks (Ok t) h f = f h
on_looks (Err e) h f = h

pub returns-in-Some-2-clause-step : goal.returns-in-Some-2-clause-step
returns-in-Some-2-clause-step g c =
    let w = g.M.Meanings.links c.args.meanings.now in
    let same = asked_is w (g.M.Meanings.library c.args.meanings.now) c.args.key c.args.table.now c.in-Some.feature c.in-Some-2.decider
    (sym c.in-Some.is ∙ c.in_ok-meant.ensures)
    (ap (option_map as_decider) (sym c.in-Some-2.is) ∙ c.in_ok-decider-in-Some.ensures.decides ∙ ap (λ v. decider v c.in-Some.feature) (sym c.requires)) in
    if_step c.worth.result c.worth.ensures.step (λ step is. is ∙ ap (λ a. a.step) same)

pub returns-in-Some-2-clause-looks : goal.returns-in-Some-2-clause-looks
returns-in-Some-2-clause-looks g c =
    let w = g.M.Meanings.links c.args.meanings.now in
    let same = asked_is w (g.M.Meanings.library c.args.meanings.now) c.args.key c.args.table.now c.in-Some.feature c.in-Some-2.decider
    (sym c.in-Some.is ∙ c.in_ok-meant.ensures)
    (ap (option_map as_decider) (sym c.in-Some-2.is) ∙ c.in_ok-decider-in-Some.ensures.decides ∙ ap (λ v. decider v c.in-Some.feature) (sym c.requires)) in
    on_looks c.worth.result c.worth.ensures.looks (λ is. is ∙ ap (λ a. c.args.looks.now ++ a.looks) same)
