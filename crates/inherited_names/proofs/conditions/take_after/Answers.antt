use Rattle.std.proofs.Common.{subst, sym, ◌∙◌, ap, map}
use Rattle.linker_base.specs.Members.{IsMember}
use Rattle.linker_base.proofs.MemberLaws.{same_members, member_map}
use Rattle.demand_core.specs.Search.{IsAsked}
use Rattle.link_model.specs.Inheritance.{candidates}
use Rattle.link_walk.specs.Gained.{Gained}
use Rattle.link_walk.proofs.GainLaws.{gains_of, stop_by, goes_on_by, waits_some, waits_none}
use Rattle.feature_facts.specs.Known.{files_for, library_for, world_of}
use Rattle.inherited_names.specs.Stages.{after_reached, conditions}
use Rattle.feature_facts.specs.Stages.{as_candidate}
use Rattle.member_candidates.specs.Stages.{candidates_in}
use Rattle.feature_facts.proofs.SearchParts.{found_has}
use Rattle.inherited_names.proofs.StageLaws.{conditions_respect}
use Rattle.member_candidates.proofs.StandLaws.{candidate_stands}
use Rattle.inherited_names.proofs.conditions.take_after.Goals as goal

pub take_conditions-requires-clause-stand : goal.take_conditions-requires-clause-stand
take_conditions-requires-clause-stand c =
    let h = c.args.heir.now in
    let w = world_of h in
    let us = c.args.types.now in
    let own = candidates_in (gains_of c.given.inside.found c.given.inside.notes) in
    let asked = subst (λ z. IsAsked (candidates_in z) (candidates c.args.name.now h.of us w)) (sym c.given.view_is) c.in_ok-given.ensures in
    λ k m. candidate_stands (files_for h) c.files.ensures.kept h.view.now.table.now c.requires.links c.args.name.now h.of us c.requires.types (as_candidate k)
    (found_has own (candidates c.args.name.now h.of us w) asked (waits_none own.waits (sym c.is_waiting-waiting.ensures ∙ c.if-waiting.false)) (as_candidate k)
    (member_map as_candidate c.given.inside.found k (subst (λ ks. IsMember ks k) c.as_slice.ensures m)))

pub returns-then-waiting : goal.returns-then-waiting
returns-then-waiting c =
    let h = c.args.heir.now in
    let w = world_of h in
    let us = c.args.types.now in
    let x = c.args.name.now in
    let own = candidates_in (gains_of c.given.inside.found c.given.inside.notes) in
    let asked = subst (λ z. IsAsked (candidates_in z) (candidates x h.of us w)) (sym c.given.view_is) c.in_ok-given.ensures in
    subst (λ z. Gained (after_reached (library_for h) h.raw x h.of us w) z (gains_of c.gains.inside.found c.append.new.self)) c.gains.view_is
    (stop_by w own (candidates x h.of us) (conditions (library_for h) h.raw h.of us) c.gains.inside.found c.gains.inside.notes c.append.new.self asked
    c.in_ok-append.ensures (waits_some own.waits (sym c.is_waiting-waiting.ensures ∙ c.if-waiting.true)))

pub returns : goal.returns
returns c =
    let h = c.args.heir.now in
    let w = world_of h in
    let us = c.args.types.now in
    let x = c.args.name.now in
    let own = candidates_in (gains_of c.given.inside.found c.given.inside.notes) in
    let asked = subst (λ z. IsAsked (candidates_in z) (candidates x h.of us w)) (sym c.given.view_is) c.in_ok-given.ensures in
    let new = c.take_conditions.new.gains in
    subst (λ z. Gained (after_reached (library_for h) h.raw x h.of us w) z new) c.gains.view_is
    (goes_on_by w own (candidates x h.of us) (conditions (library_for h) h.raw h.of us) c.gains.inside.found c.gains.inside.notes c.append.new.self asked
    c.in_ok-append.ensures new (waits_none own.waits (sym c.is_waiting-waiting.ensures ∙ c.if-waiting.false))
    (conditions_respect (library_for h) w h.raw h.of us us (same_members us))
    (subst (λ ks. Gained (conditions (library_for h) h.raw h.of us (map as_candidate ks) w) (gains_of c.gains.inside.found c.append.new.self) new)
    c.as_slice.ensures c.in_ok-take_conditions.ensures))
