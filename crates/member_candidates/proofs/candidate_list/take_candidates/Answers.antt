use Rattle.std.proofs.Common.{sym, ◌∙◌, ap, subst, map, ◌++◌, []}
use Rattle.demand_core.specs.Computation.{done, ◌>>=◌}
use Rattle.demand_core.specs.Search.{IsAsked}
use Rattle.link_model.specs.Inheritance.{candidate}
use Rattle.link_model.specs.Keys.{same_element}
use Rattle.link_model.specs.Readers.{of_members}
use Rattle.link_walk.specs.Calls.{files_of, read_by}
use Rattle.link_walk.specs.Gained.{Gained}
use Rattle.link_walk.proofs.GainLaws.{gains_of, gained_true, gained_false, gained_none, gained_alike, mapped_by}
use Rattle.inheritance.proofs.ExpandLaws.{model_same}
use Rattle.feature_facts.specs.Stages.{as_candidate}
use Rattle.member_candidates.specs.Stages.{candidate_at, candidate_stage, candidates_in, open_members}
use Rattle.member_candidates.proofs.CandidateLaws.{candidates_alike, pushed_is}
use Rattle.feature_facts.proofs.FactLaws.{model_whole}
use Rattle.member_candidates.proofs.candidate_list.take_candidates.Goals as goal

pub returns-then-itself : goal.returns-then-itself
returns-then-itself c =
    let h = c.args.heir.now in
    let w = read_by h.view.now in
    gained_true w (same_element c.args.owner h.of) (done []) (of_members (candidate c.args.name.now c.args.owner) c.args.owner)
    (candidates_in c.args.gains.now) (candidates_in c.args.gains.now) (sym c.is_same-itself.ensures ∙ c.if-itself.true)
    (gained_none w (candidates_in c.args.gains.now))

pub returns : goal.returns
returns c =
    let h = c.args.heir.now in
    let w = read_by h.view.now in
    let files = files_of h.view.now in
    let s = c.args.owner in
    let x = c.args.name.now in
    let off = sym c.is_same-itself.ensures ∙ c.if-itself.false in
    let old = map as_candidate c.gains.inside.found in
    let more = map as_candidate c.push_candidates.new.found in
    let stands = c.requires.stands in
    subst (λ z. Gained (candidate_stage x h.of s w) (candidates_in z) (gains_of more c.append.new.self)) c.gains.view_is
    (gained_false w (same_element s h.of) (done []) (of_members (candidate x s) s) (gains_of old c.gains.inside.notes) (gains_of more c.append.new.self) off
    (gained_alike ((open_members x s >>= λ hs. done (map (λ m. record { owner = s; hit = m }) hs)) w) (of_members (candidate x s) s w)
    (gains_of old c.gains.inside.notes) (gains_of more c.append.new.self)
    (candidates_alike files h.view.now.table.now s _ (model_same files s.file.0 stands.0 stands.1)
    (model_whole files c.files.ensures.kept s.file.0 stands.0 stands.1) x h.of off)
    (mapped_by w (gains_of c.hits.inside.found c.hits.inside.notes) (open_members x s) (λ m. record { owner = s; hit = m }) old more
    c.gains.inside.notes c.append.new.self (subst (λ z. IsAsked z (open_members x s w)) (sym c.hits.view_is) c.in_ok-hits.ensures)
    (ap (map as_candidate) (c.in_ok-push_candidates.ensures ∙ ap (λ hs. c.gains.inside.found ++ map (candidate_at s) hs) c.as_slice.ensures)
    ∙ pushed_is s c.gains.inside.found c.hits.inside.found) c.in_ok-append.ensures)))
