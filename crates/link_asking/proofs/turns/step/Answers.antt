use Rattle.std.proofs.Common.{◌≡◌, ◌∙◌, ap, sym, subst, [], true, false}
use Rattle.std.specs.Prelude.{not, Some}
use Rattle.link_model.specs.Lexical.{pick}
use Rattle.link_model.specs.Readers.{is_nil}
use Rattle.link_walk.specs.Calls.{files_of, read_by}
use Rattle.link_walk.specs.Noted.{noted}
use Rattle.link_tiers.specs.Answered.{Answered}
use Rattle.link_tiers.specs.Picks.{picked_of}
use Rattle.link_tiers.specs.Tiers.{AreHits}
use Rattle.link_asking.proofs.HidingLaws.{some_waits, no_waits}
use Rattle.link_asking.proofs.TurnLaws.{steps_wait, steps_on, pick_stands}
use Rattle.link_asking.proofs.turns.step.Goals as goal

pub pick-requires : goal.pick-requires
pick-requires g c =
    let none = no_waits c.in_ok-gains.gains.waits (subst (λ ks. not (is_nil ks) ≡ false) (ap (λ t. t.waits) c.gains.view_is)
    (sym c.is_waiting.ensures ∙ c.if-is_waiting.false)) in
    subst (AreHits (files_of c.args.view.now)) (sym (c.as_slice.ensures ∙ ap (λ t. t.found) c.gains.view_is)) (c.in_ok-gains.ensures.found none)

pub returns-then-is_waiting-clause-turned : goal.returns-then-is_waiting-clause-turned
returns-then-is_waiting-clause-turned g c =
    steps_wait c.args.view.now c.args.number c.args.name.now c.args.at c.in_ok-gains.gains c.args.notes.now c.append.new.self c.in_ok-gains.ensures.asked
    (some_waits c.in_ok-gains.gains.waits (subst (λ ks. not (is_nil ks) ≡ true) (ap (λ t. t.waits) c.gains.view_is)
    (sym c.is_waiting.ensures ∙ c.if-is_waiting.true)))
    (c.in_ok-append.ensures ∙ λ i. noted (c.gains.view_is i).waits (c.gains.view_is i).looks c.args.notes.now)

pub returns-clause-turned : goal.returns-clause-turned
returns-clause-turned g c =
    let v = c.args.view.now in
    let gains = c.in_ok-gains.gains in
    let none = no_waits gains.waits (subst (λ ks. not (is_nil ks) ≡ false) (ap (λ t. t.waits) c.gains.view_is)
    (sym c.is_waiting.ensures ∙ c.if-is_waiting.false)) in
    steps_on v c.args.number c.args.name.now c.args.at gains (picked_of c.in_ok-picked.picked) c.in_ok-taken.taken c.args.notes.now c.append.new.self
    c.pick.new.notes c.follow.new.notes c.files.ensures.kept (c.in_ok-gains.ensures.found none) c.in_ok-gains.ensures.asked none
    (c.in_ok-append.ensures ∙ λ i. noted (c.gains.view_is i).waits (c.gains.view_is i).looks c.args.notes.now)
    (subst (λ hs. Answered (pick hs (read_by v)) (Some (picked_of c.in_ok-picked.picked)) c.append.new.self c.pick.new.notes)
    (c.as_slice.ensures ∙ ap (λ t. t.found) c.gains.view_is) c.in_ok-picked.ensures) c.in_ok-taken.ensures.turned

pub returns-clause-stands : goal.returns-clause-stands
returns-clause-stands g c =
    let none = no_waits c.in_ok-gains.gains.waits (subst (λ ks. not (is_nil ks) ≡ false) (ap (λ t. t.waits) c.gains.view_is)
    (sym c.is_waiting.ensures ∙ c.if-is_waiting.false)) in
    let hits = subst (AreHits (files_of c.args.view.now)) (sym (c.as_slice.ensures ∙ ap (λ t. t.found) c.gains.view_is)) (c.in_ok-gains.ensures.found none) in
    c.in_ok-taken.ensures.stands (pick_stands c.args.view.now c.as_slice.result.now c.in_ok-picked.picked c.append.new.self c.pick.new.notes hits
    c.in_ok-picked.ensures)
