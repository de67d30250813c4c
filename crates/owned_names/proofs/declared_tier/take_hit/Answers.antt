use Rattle.std.proofs.Common.{refl, sym, ◌∙◌, ap, subst, append-nil}
use Rattle.link_walk.proofs.GainLaws.{gains_of}
use Rattle.link_walk.specs.Calls.{read_by, step_of}
use Rattle.link_walk.specs.Gained.{Gained}
use Rattle.link_walk.specs.declared.reading.Read.TheVariants.{Open, Nowhere, At}
use Rattle.owned_names.specs.Hits.{of_target}
use Rattle.owned_names.proofs.HitLaws.{hit_taken}
use Rattle.owned_names.proofs.declared_tier.take_hit.Goals as goal

pub returns-in_ok-wait_on-in-Open : goal.returns-in_ok-wait_on-in-Open
returns-in_ok-wait_on-in-Open c =
    let w = read_by c.args.view.now in
    let found = c.gains.inside.found in
    subst (λ z. Gained (of_target c.args.member c.args.target w) z (gains_of found c.wait_on.new.self)) c.gains.view_is
    (hit_taken w c.args.member c.args.target (Open c.in-Open.reference) found found c.gains.inside.notes c.leads_to.new.notes c.wait_on.new.self
    (c.in_ok-reference.ensures.read ∙ ap step_of c.in-Open.is) c.in_ok-reference.ensures.looks (sym (append-nil found)) c.in_ok-wait_on-in-Open.ensures)

pub returns-in-Nowhere : goal.returns-in-Nowhere
returns-in-Nowhere c =
    let w = read_by c.args.view.now in
    let found = c.gains.inside.found in
    subst (λ z. Gained (of_target c.args.member c.args.target w) z (gains_of found c.leads_to.new.notes)) c.gains.view_is
    (hit_taken w c.args.member c.args.target Nowhere found found c.gains.inside.notes c.leads_to.new.notes c.leads_to.new.notes
    (c.in_ok-reference.ensures.read ∙ ap step_of c.in-Nowhere.is) c.in_ok-reference.ensures.looks (sym (append-nil found)) refl)

pub returns-in_ok-push-in-At : goal.returns-in_ok-push-in-At
returns-in_ok-push-in-At c =
    let w = read_by c.args.view.now in
    let found = c.gains.inside.found in
    subst (λ z. Gained (of_target c.args.member c.args.target w) z (gains_of c.push.new.self c.leads_to.new.notes)) c.gains.view_is
    (hit_taken w c.args.member c.args.target (At c.in-At.element) found c.push.new.self c.gains.inside.notes c.leads_to.new.notes c.leads_to.new.notes
    (c.in_ok-reference.ensures.read ∙ ap step_of c.in-At.is) c.in_ok-reference.ensures.looks c.in_ok-push-in-At.ensures.ok refl)
