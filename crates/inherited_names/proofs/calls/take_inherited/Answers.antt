use Rattle.std.proofs.Common.{subst, sym, ◌∙◌, ap}
use Rattle.linker_base.specs.Members.{IsMember}
use Rattle.demand_core.specs.Search.{IsAsked}
use Rattle.link_model.specs.Inheritance.{reached, inherited}
use Rattle.link_walk.specs.Gained.{Gained}
use Rattle.link_walk.proofs.GainLaws.{gains_of, stop_by, goes_on_by, waits_some, waits_none}
use Rattle.feature_facts.specs.Known.{library_for, world_of}
use Rattle.inherited_names.specs.Stages.{after_reached}
use Rattle.inherited_names.proofs.StageLaws.{after_reached_respects, inherited_is}
use Rattle.inherited_names.proofs.calls.take_inherited.Goals as goal

pub take_after-requires-clause-types : goal.take_after-requires-clause-types
take_after-requires-clause-types c =
    let g = gains_of c.all.inside.found c.all.inside.notes in
    λ e m. c.in_ok-all.ensures.stand (ap (λ z. z.waits) (sym c.all.view_is) ∙ waits_none g.waits (sym c.is_waiting-waiting.ensures ∙ c.if-waiting.false)) e
    (subst (λ es. IsMember es e) (c.as_slice.ensures ∙ ap (λ z. z.found) c.all.view_is) m)

pub returns-then-waiting : goal.returns-then-waiting
returns-then-waiting c =
    let h = c.args.heir.now in
    let w = world_of h in
    let x = c.args.name.now in
    let g = gains_of c.all.inside.found c.all.inside.notes in
    subst (λ z. Gained (inherited (library_for h) h.raw x h.of w) z (gains_of c.gains.inside.found c.append.new.self)) c.gains.view_is
    (subst (λ a. Gained a (gains_of c.gains.inside.found c.gains.inside.notes) (gains_of c.gains.inside.found c.append.new.self))
    (inherited_is (library_for h) h.raw x h.of w)
    (stop_by w g (reached (library_for h) h.of) (after_reached (library_for h) h.raw x h.of) c.gains.inside.found c.gains.inside.notes c.append.new.self
    (subst (λ z. IsAsked z (reached (library_for h) h.of w)) (sym c.all.view_is) c.in_ok-all.ensures.asked) c.in_ok-append.ensures
    (waits_some g.waits (sym c.is_waiting-waiting.ensures ∙ c.if-waiting.true))))

pub returns : goal.returns
returns c =
    let h = c.args.heir.now in
    let w = world_of h in
    let x = c.args.name.now in
    let g = gains_of c.all.inside.found c.all.inside.notes in
    let new = c.take_after.new.gains in
    subst (λ z. Gained (inherited (library_for h) h.raw x h.of w) z new) c.gains.view_is
    (subst (λ a. Gained a (gains_of c.gains.inside.found c.gains.inside.notes) new) (inherited_is (library_for h) h.raw x h.of w)
    (goes_on_by w g (reached (library_for h) h.of) (after_reached (library_for h) h.raw x h.of) c.gains.inside.found c.gains.inside.notes c.append.new.self
    (subst (λ z. IsAsked z (reached (library_for h) h.of w)) (sym c.all.view_is) c.in_ok-all.ensures.asked) c.in_ok-append.ensures new
    (waits_none g.waits (sym c.is_waiting-waiting.ensures ∙ c.if-waiting.false)) (after_reached_respects (library_for h) w h.raw h.of x)
    (subst (λ us. Gained (after_reached (library_for h) h.raw x h.of us w) (gains_of c.gains.inside.found c.append.new.self) new) c.as_slice.ensures
    c.in_ok-take_after.ensures)))
