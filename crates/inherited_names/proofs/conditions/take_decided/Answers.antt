use Rattle.std.proofs.Common.{◌≡◌, sym, ◌∙◌, ap, subst, map}
use Rattle.std.proofs.lemmas.Result.{err_from_is_err_and}
use Rattle.demand_core.specs.Computation.{joined}
use Rattle.demand_core.proofs.AlikeLaws.{joined_map}
use Rattle.link_model.specs.Inheritance.{stays}
use Rattle.link_model.specs.Settled.{answers_of}
use Rattle.link_walk.specs.Gained.{Gained}
use Rattle.link_walk.proofs.GainLaws.{gains_of, both_stop_by, both_on_by}
use Rattle.feature_facts.specs.Known.{answered, library_for, world_of}
use Rattle.feature_facts.specs.Stages.{as_candidate, facts_asked}
use Rattle.inherited_names.specs.Stages.{decided}
use Rattle.removed_features.specs.Stages.{gone}
use Rattle.inherited_names.proofs.StageLaws.{decided_respects, neither, either, answer_is}
use Rattle.inherited_names.proofs.conditions.take_decided.Goals as goal

pub see_features-requires-clause-stand : goal.see_features-requires-clause-stand
see_features-requires-clause-stand c = c.in_ok-known.ensures.stand

pub take_all_staying-requires-clause-settled : goal.take_all_staying-requires-clause-settled
take_all_staying-requires-clause-settled c =
    let h = c.args.heir.now in
    let none = neither c.in_ok-known.known.notes.waits c.in_ok-gone.gone.waits (sym c.either_waits-waiting.ensures ∙ c.if-waiting.false) in
    record {
      facts = c.in_ok-known.ensures.known none.0;
      gone = answer_is (gone h.raw h.of (map as_candidate c.args.candidates.now)) (world_of h) _ c.in_ok-gone.ensures none.1;
      stand = c.requires.stand;
      own = c.requires.own;
      links = c.requires.links;
    }

pub take_all_staying-requires-clause-described : goal.take_all_staying-requires-clause-described
take_all_staying-requires-clause-described c =
    let none = neither c.in_ok-known.known.notes.waits c.in_ok-gone.gone.waits (sym c.either_waits-waiting.ensures ∙ c.if-waiting.false) in
    record { stand = c.in_ok-seen.ensures.stand; describes = c.in_ok-seen.ensures.describes _ (c.in_ok-known.ensures.known none.0) }

pub returns-then-waiting : goal.returns-then-waiting
returns-then-waiting c =
    let h = c.args.heir.now in
    let w = world_of h in
    let us = c.args.types.now in
    let cs = map as_candidate c.args.candidates.now in
    let one = facts_asked h.raw h.of us in
    let two = gone h.raw h.of cs in
    let found = c.gains.inside.found in
    subst (λ z. Gained (decided (library_for h) h.raw h.of us cs w) z (gains_of found c.append-2.new.self)) c.gains.view_is
    (both_stop_by w (answered one w c.in_ok-known.known.notes) (answered two w c.in_ok-gone.gone) one two
    (λ p. joined (stays (library_for h) us h.of p.0 p.1) cs) found c.gains.inside.notes c.append.new.self c.append-2.new.self c.in_ok-known.ensures.asked
    c.in_ok-gone.ensures c.in_ok-append.ensures c.in_ok-append-2.ensures
    (either c.in_ok-known.known.notes.waits c.in_ok-gone.gone.waits (sym c.either_waits-waiting.ensures ∙ c.if-waiting.true)))

pub returns : goal.returns
returns c =
    let h = c.args.heir.now in
    let w = world_of h in
    let us = c.args.types.now in
    let cs = map as_candidate c.args.candidates.now in
    let one = facts_asked h.raw h.of us in
    let two = gone h.raw h.of cs in
    let rs = answers_of (one w).step in
    let ps = answers_of (two w).step in
    let found = c.gains.inside.found in
    let none = neither c.in_ok-known.known.notes.waits c.in_ok-gone.gone.waits (sym c.either_waits-waiting.ensures ∙ c.if-waiting.false) in
    let new = c.take_all_staying.new.gains in
    subst (λ z. Gained (decided (library_for h) h.raw h.of us cs w) z new) c.gains.view_is
    (both_on_by w (answered one w c.in_ok-known.known.notes) (answered two w c.in_ok-gone.gone) one two
    (λ p. joined (stays (library_for h) us h.of p.0 p.1) cs) found c.gains.inside.notes c.append.new.self c.append-2.new.self c.in_ok-known.ensures.asked
    c.in_ok-gone.ensures c.in_ok-append.ensures c.in_ok-append-2.ensures new none.0 none.1
    (λ xs ys vs zs a b. decided_respects (library_for h) w h.raw h.of us cs xs ys vs zs a b)
    (subst (λ a. Gained a (gains_of found c.append-2.new.self) new)
    (joined_map w as_candidate (stays (library_for h) us h.of rs ps) c.args.candidates.now) c.in_ok-take_all_staying.ensures))

pub returns-in_err-append-2 : goal.returns-in_err-append-2
returns-in_err-append-2 c =
    let p = err_from_is_err_and c.from_residual-in_err-append-2.result c.from_residual-in_err-append-2.ensures.1 in rw p.1 tt

pub returns-in_err-seen : goal.returns-in_err-seen
returns-in_err-seen c =
    let p = err_from_is_err_and c.from_residual-in_err-seen.result c.from_residual-in_err-seen.ensures.1 in rw p.1 tt
