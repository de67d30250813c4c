use Rattle.std.proofs.Common.{◌≡◌, ◌∙◌, ap, sym, subst, [], true, false}
use Rattle.std.specs.Prelude.{not, Some}
use Rattle.link_model.specs.Lexical.{pick}
use Rattle.link_model.specs.Readers.{is_nil}
use Rattle.link_walk.specs.Calls.{files_of, read_by}
use Rattle.link_walk.specs.Noted.{noted}
use Rattle.link_tiers.specs.Answered.{Answered}
use Rattle.link_tiers.specs.Picks.{picked_of}
use Rattle.link_tiers.specs.Tiers.{AreHits}
use Rattle.link_asking.specs.Courses.{Begins, StandsOn}
use Rattle.link_asking.proofs.HidingLaws.{some_waits, no_waits}
use Rattle.link_asking.proofs.TurnLaws.{begins_wait, begins_on, pick_stands, first_stands}
use Rattle.link_asking.proofs.searching.begin.Goals as goal

pub pick-requires : goal.pick-requires
pick-requires c =
    let none = no_waits c.args.tier.now.waits (subst (λ ks. not (is_nil ks) ≡ false) (ap (λ t. t.waits) c.tier.view_is)
    (sym c.is_waiting.ensures ∙ c.if-is_waiting.false)) in
    subst (AreHits (files_of c.args.view.now)) (sym (c.as_slice.ensures ∙ ap (λ t. t.found) c.tier.view_is)) (c.requires.found none)

pub returns-then-is_waiting-clause-turned : goal.returns-then-is_waiting-clause-turned
returns-then-is_waiting-clause-turned c =
    begins_wait c.args.view.now c.args.tier.now c.args.notes.now c.append.new.self
    (some_waits c.args.tier.now.waits (subst (λ ks. not (is_nil ks) ≡ true) (ap (λ t. t.waits) c.tier.view_is)
    (sym c.is_waiting.ensures ∙ c.if-is_waiting.true)))
    (c.in_ok-append.ensures ∙ λ i. noted (c.tier.view_is i).waits (c.tier.view_is i).looks c.args.notes.now)

pub returns-clause-turned : goal.returns-clause-turned
returns-clause-turned c =
    let v = c.args.view.now in
    let tier = c.args.tier.now in
    let none = no_waits tier.waits (subst (λ ks. not (is_nil ks) ≡ false) (ap (λ t. t.waits) c.tier.view_is)
    (sym c.is_waiting.ensures ∙ c.if-is_waiting.false)) in
    subst (λ t. Begins v tier (Some t) c.args.notes.now c.pick.new.notes) (sym c.first_turn.ensures)
    (begins_on v tier c.in_ok-picked.picked c.args.notes.now c.append.new.self c.pick.new.notes c.files.ensures.kept (c.requires.found none) none
    (c.in_ok-append.ensures ∙ λ i. noted (c.tier.view_is i).waits (c.tier.view_is i).looks c.args.notes.now)
    (subst (λ hs. Answered (pick hs (read_by v)) (Some (picked_of c.in_ok-picked.picked)) c.append.new.self c.pick.new.notes)
    (c.as_slice.ensures ∙ ap (λ t. t.found) c.tier.view_is) c.in_ok-picked.ensures))

pub returns-clause-stands : goal.returns-clause-stands
returns-clause-stands c =
    let none = no_waits c.args.tier.now.waits (subst (λ ks. not (is_nil ks) ≡ false) (ap (λ t. t.waits) c.tier.view_is)
    (sym c.is_waiting.ensures ∙ c.if-is_waiting.false)) in
    let hits = subst (AreHits (files_of c.args.view.now)) (sym (c.as_slice.ensures ∙ ap (λ t. t.found) c.tier.view_is)) (c.requires.found none) in
    subst (λ t. StandsOn (files_of c.args.view.now) (Some t)) (sym c.first_turn.ensures) (first_stands (files_of c.args.view.now) c.in_ok-picked.picked
    (pick_stands c.args.view.now c.as_slice.result.now c.in_ok-picked.picked c.append.new.self c.pick.new.notes hits c.in_ok-picked.ensures))
