use Rattle.std.proofs.Common.{sym, ◌∙◌, ap, subst, map, ◌++◌}
use Rattle.demand_core.specs.Search.{IsAsked}
use Rattle.link_walk.specs.Calls.{read_by}
use Rattle.link_walk.specs.Gained.{Gained}
use Rattle.link_walk.proofs.GainLaws.{gains_of, mapped_by}
use Rattle.inheritance.specs.Sights.{direct_targets}
use Rattle.feature_facts.specs.Stages.{direct_by, directs_of}
use Rattle.feature_facts.proofs.facts.take_directs.Goals as goal

pub returns : goal.returns
returns c =
    let w = read_by c.args.heir.now.view.now in
    let q = c.args.by in
    subst (λ z. Gained (directs_of q w) z (gains_of c.push_directs.new.found c.append.new.self)) c.gains.view_is
    (mapped_by w (gains_of c.direct.inside.found c.direct.inside.notes) (direct_targets q.feature) (direct_by q) c.gains.inside.found c.push_directs.new.found
    c.gains.inside.notes c.append.new.self (subst (λ z. IsAsked z (direct_targets q.feature w)) (sym c.direct.view_is) c.in_ok-direct.ensures)
    (c.in_ok-push_directs.ensures ∙ ap (λ gs. c.gains.inside.found ++ map (direct_by q) gs) c.as_slice.ensures) c.in_ok-append.ensures)
