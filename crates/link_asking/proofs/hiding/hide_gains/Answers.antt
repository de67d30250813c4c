use Rattle.std.proofs.Common.{◌≡◌, ◌∙◌, ap, sym, subst, [], true, false}
use Rattle.std.specs.Prelude.{not, Some}
use Rattle.link_model.specs.Asking.Course.{Ended}
use Rattle.link_model.specs.Readers.{is_nil}
use Rattle.link_walk.specs.Calls.{files_of, read_by}
use Rattle.link_walk.specs.Noted.{noted}
use Rattle.link_tiers.specs.Answered.{Answered}
use Rattle.link_tiers.specs.Tiers.{AreHits}
use Rattle.link_asking.specs.Hiding.{hiding}
use Rattle.link_asking.proofs.HidingLaws.{hide_waits, hide_on, some_waits, no_waits}
use Rattle.link_asking.proofs.hiding.hide_gains.Goals as goal

pub hide-requires-clause-hits : goal.hide-requires-clause-hits
hide-requires-clause-hits c =
    let none = no_waits c.args.gains.now.waits (subst (λ ks. not (is_nil ks) ≡ false) (ap (λ t. t.waits) c.gains.view_is)
    (sym c.is_waiting.ensures ∙ c.if-is_waiting.false)) in
    subst (AreHits (files_of c.args.view.now)) (sym (c.as_slice.ensures ∙ ap (λ t. t.found) c.gains.view_is)) (c.requires.found none)

pub returns-then-is_waiting : goal.returns-then-is_waiting
returns-then-is_waiting c =
    hide_waits c.args.view.now c.args.number c.args.gains.now c.args.notes.now c.append.new.self
    (some_waits c.args.gains.now.waits (subst (λ ks. not (is_nil ks) ≡ true) (ap (λ t. t.waits) c.gains.view_is)
    (sym c.is_waiting.ensures ∙ c.if-is_waiting.true)))
    (c.in_ok-append.ensures ∙ λ i. noted (c.gains.view_is i).waits (c.gains.view_is i).looks c.args.notes.now)

pub returns : goal.returns
returns c =
    let none = no_waits c.args.gains.now.waits (subst (λ ks. not (is_nil ks) ≡ false) (ap (λ t. t.waits) c.gains.view_is)
    (sym c.is_waiting.ensures ∙ c.if-is_waiting.false)) in
    hide_on c.args.view.now c.files.ensures.kept c.args.number c.args.gains.now c.in_ok-outcome.outcome c.args.notes.now c.append.new.self c.hide.new.notes
    (c.requires.found none) none
    (c.in_ok-append.ensures ∙ λ i. noted (c.gains.view_is i).waits (c.gains.view_is i).looks c.args.notes.now)
    (subst (λ hs. Answered (hiding c.args.number hs (read_by c.args.view.now)) (Some (Ended c.in_ok-outcome.outcome)) c.append.new.self c.hide.new.notes)
    (c.as_slice.ensures ∙ ap (λ t. t.found) c.gains.view_is) c.in_ok-outcome.ensures)
