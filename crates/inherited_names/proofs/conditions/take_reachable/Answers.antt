use Rattle.std.proofs.Common.{◌≡◌, sym, ◌∙◌, ap, subst, ◌++◌, []}
use Rattle.std.specs.List.{list_any}
use Rattle.std.proofs.lemmas.Result.{err_from_is_err_and}
use Rattle.demand_core.specs.Computation.{done}
use Rattle.demand_core.specs.Search.{IsAsked}
use Rattle.demand_core.proofs.AlikeLaws.{any_over, alike_equal}
use Rattle.link_model.specs.Inheritance.{unblocked}
use Rattle.link_model.specs.Keys.{same_element, is_in}
use Rattle.link_model.specs.Readers.{only_if}
use Rattle.link_walk.specs.Gained.{Gained}
use Rattle.link_walk.proofs.GainLaws.{gains_of, stop_by, goes_on_by, waits_some, waits_none, gained_if}
use Rattle.inherited_names.specs.Known.{facts_in, gone_in, reachable}
use Rattle.feature_facts.specs.Known.{library_for, world_of}
use Rattle.inherited_names.specs.Stages.{is_blocking}
use Rattle.inherited_names.proofs.StageLaws.{ways_are}
use Rattle.inherited_names.proofs.conditions.take_reachable.Goals as goal

pub removed-requires-clause-stands : goal.removed-requires-clause-stands
removed-requires-clause-stands c = c.requires.settled.stand c.args.candidate c.requires.among

pub returns-then-waiting : goal.returns-then-waiting
returns-then-waiting c =
    let s = c.args.stage.now in
    let w = world_of s.heir.now in
    let k = c.args.candidate in
    let g = gains_of c.ways.inside.found c.ways.inside.notes in
    let of = unblocked (library_for s.heir.now) (facts_in s) (gone_in s) k.hit.element s.heir.now.of in
    let same = ways_are s c.requires.settled k c.requires.among c.in_ok-gone.gone c.in_ok-blockers.blockers c.in_ok-gone.ensures
    (λ u. c.in_ok-blockers.ensures u ∙ ap (list_any (is_blocking c.in_ok-gone.gone u)) c.as_slice.ensures) in
    subst (λ z. Gained (reachable s k w) z (gains_of c.gains.inside.found c.append.new.self)) c.gains.view_is
    (stop_by w g of (λ vs. done (only_if (is_in k.owner vs) k.hit)) c.gains.inside.found c.gains.inside.notes c.append.new.self
    (subst (λ z. IsAsked z (of w)) (sym c.ways.view_is) (subst (λ l. IsAsked c.in_ok-ways.ways (l w)) same c.in_ok-ways.ensures)) c.in_ok-append.ensures
    (waits_some g.waits (sym c.is_waiting-waiting.ensures ∙ c.if-waiting.true)))

pub returns : goal.returns
returns c =
    let s = c.args.stage.now in
    let w = world_of s.heir.now in
    let k = c.args.candidate in
    let g = gains_of c.ways.inside.found c.ways.inside.notes in
    let of = unblocked (library_for s.heir.now) (facts_in s) (gone_in s) k.hit.element s.heir.now.of in
    let same = ways_are s c.requires.settled k c.requires.among c.in_ok-gone.gone c.in_ok-blockers.blockers c.in_ok-gone.ensures
    (λ u. c.in_ok-blockers.ensures u ∙ ap (list_any (is_blocking c.in_ok-gone.gone u)) c.as_slice.ensures) in
    let test = c.is_among-stays.ensures ∙ ap (is_in k.owner) c.as_slice-2.ensures in
    let new = gains_of c.push_hit.new.found c.append.new.self in
    subst (λ z. Gained (reachable s k w) z new) c.gains.view_is
    (goes_on_by w g of (λ vs. done (only_if (is_in k.owner vs) k.hit)) c.gains.inside.found c.gains.inside.notes c.append.new.self
    (subst (λ z. IsAsked z (of w)) (sym c.ways.view_is) (subst (λ l. IsAsked c.in_ok-ways.ways (l w)) same c.in_ok-ways.ensures)) c.in_ok-append.ensures new
    (waits_none g.waits (sym c.is_waiting-waiting.ensures ∙ c.if-waiting.false))
    (λ xs ys h. alike_equal _ _ (ap (λ b. done (only_if b k.hit) w) (any_over (same_element k.owner) xs ys h)))
    (subst (λ fs. Gained (done (only_if (is_in k.owner g.found) k.hit) w) (gains_of c.gains.inside.found c.append.new.self) (gains_of fs c.append.new.self))
    (sym (c.in_ok-push_hit.ensures ∙ ap (λ b. c.gains.inside.found ++ only_if b k.hit) test))
    (gained_if w (is_in k.owner g.found) k.hit c.gains.inside.found c.append.new.self)))

pub returns-in_err-append : goal.returns-in_err-append
returns-in_err-append c =
    let p = err_from_is_err_and c.from_residual-in_err-append.result c.from_residual-in_err-append.ensures.1 in rw p.1 tt

pub returns-in_err-push_hit : goal.returns-in_err-push_hit
returns-in_err-push_hit c =
    let p = err_from_is_err_and c.from_residual-in_err-push_hit.result c.from_residual-in_err-push_hit.ensures.1 in rw p.1 tt
