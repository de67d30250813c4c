use Rattle.std.proofs.Common.{◌≡◌, ◌∙◌, [], sym, ap, subst, append-nil}
use Rattle.std.specs.Prelude.{None, Some}
use Rattle.link_model.specs.Names.{member_element}
use Rattle.link_walk.specs.Calls.{read_by, files_of}
use Rattle.link_walk.specs.Noted.{trail_of, Tells}
use Rattle.link_tiers.proofs.RootLaws.{joins_led, found_led}
use Rattle.link_tiers.proofs.roots.add_member.Goals as goal

pub returns-in-None-clause-joins : goal.returns-in-None-clause-joins
returns-in-None-clause-joins c =
    let w = read_by c.args.view.now in
    joins_led w c.args.member None c.gains.inside.found c.gains.inside.notes c.lead.new.notes c.args.gains.now _ c.gains.view_is
    (λ i. trail_of [] (sym (append-nil c.gains.inside.found) i) c.lead.new.notes)
    (subst (λ o. Tells (member_element c.args.member w) o c.gains.inside.notes c.lead.new.notes) c.in-None.is c.in_ok-lead.ensures.told)

pub returns-in_ok-push-in-Some-clause-joins : goal.returns-in_ok-push-in-Some-clause-joins
returns-in_ok-push-in-Some-clause-joins c =
    let w = read_by c.args.view.now in
    joins_led w c.args.member (Some c.in-Some.element) c.gains.inside.found c.gains.inside.notes c.lead.new.notes c.args.gains.now _ c.gains.view_is
    (λ i. trail_of [] (c.in_ok-push-in-Some.ensures.ok i) c.lead.new.notes)
    (subst (λ o. Tells (member_element c.args.member w) o c.gains.inside.notes c.lead.new.notes) c.in-Some.is c.in_ok-lead.ensures.told)

pub returns-in_ok-push-in-Some-clause-found : goal.returns-in_ok-push-in-Some-clause-found
returns-in_ok-push-in-Some-clause-found c =
    let w = read_by c.args.view.now in
    found_led w c.args.member (Some c.in-Some.element) c.gains.inside.found c.gains.inside.notes c.lead.new.notes c.args.gains.now
    (trail_of [] c.push.new.self c.lead.new.notes) c.gains.view_is
    (λ i. trail_of [] (c.in_ok-push-in-Some.ensures.ok i) c.lead.new.notes)
    (subst (λ o. Tells (member_element c.args.member w) o c.gains.inside.notes c.lead.new.notes) c.in-Some.is c.in_ok-lead.ensures.told)
    (files_of c.args.view.now) c.requires.stands (rw c.in-Some.is at c.in_ok-lead.ensures.stands)
