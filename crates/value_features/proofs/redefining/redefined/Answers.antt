use Rattle.std.proofs.Common.{◌∙◌, sym}
use Rattle.std.specs.Prelude.{Result, Ok, Err, IfOk}
use Rattle.link_walk.specs.Calls.{read_by}
use Rattle.value_features.proofs.RedefinedLaws.{redefined_at_home, none_at_home}
use Rattle.value_features.proofs.redefining.redefined.Goals as goal

if_ok : {T E : Type 0} {P Q : T → Type 0} (r : Result T E) → IfOk r P → ((t : T) → P t → Q t) → IfOk r Q
if_ok (Ok t) h f = f t h
if_ok (Err e) h f = h

pub returns-in_ok-keys-in-Some : goal.returns-in_ok-keys-in-Some
returns-in_ok-keys-in-Some c =
    if_ok c.ends_of.result c.ends_of.ensures (λ ends are. are
    ∙ redefined_at_home (read_by c.args.view.now) c.args.feature c.in-Some.model.now c.element.result.now c.as_slice.result.now c.in-Some.ensures
    c.element.ensures.lent (sym c.if-is_feature.ensures) (c.as_slice.ensures ∙ c.in_ok-keys-in-Some.ensures.keys))

pub returns-else-is_feature : goal.returns-else-is_feature
returns-else-is_feature c = c.new-else-is_feature.ensures
    ∙ none_at_home (read_by c.args.view.now) c.args.feature c.in-Some.model.now c.element.result.now c.in-Some.ensures
    c.element.ensures.lent (sym c.if-is_feature.ensures)
