use Rattle.std.proofs.Common.{◌∙◌, ◌++◌, [], ap}
use Rattle.link_model.specs.Keys.{same_key}
use Rattle.link_walk.specs.Marks.{marked_all, same_fact}
use Rattle.link_walk.specs.Noted.{trail_of}
use Rattle.link_tiers.proofs.PartLaws.{joins_asked}
use Rattle.link_tiers.proofs.NamespaceLaws.{found_added}
use Rattle.link_asking.proofs.hiding.add.Goals as goal

pub returns-clause-joined : goal.returns-clause-joined
returns-clause-joined c = λ w part a.
    joins_asked w part c.args.more.now c.args.gains.now (trail_of [] c.append_hits.new.hits c.append.new.self) a
    (c.in_ok-append_hits.ensures ∙ (ap (λ z. c.gains.inside.found ++ z) c.as_slice.ensures ∙ λ i. (c.gains.view_is i).found ++ (c.more.view_is i).found))
    (ap (λ n. n.waits) c.in_ok-append.ensures ∙ λ i. marked_all same_key (c.gains.view_is i).waits (c.more.view_is i).waits)
    (ap (λ n. n.looks) c.in_ok-append.ensures ∙ λ i. marked_all same_fact (c.gains.view_is i).looks (c.more.view_is i).looks)

pub returns-clause-found : goal.returns-clause-found
returns-clause-found c = λ files before more.
    found_added files c.args.more.now c.args.gains.now (trail_of [] c.append_hits.new.hits c.append.new.self)
    (c.in_ok-append_hits.ensures ∙ (ap (λ z. c.gains.inside.found ++ z) c.as_slice.ensures ∙ λ i. (c.gains.view_is i).found ++ (c.more.view_is i).found))
    (ap (λ n. n.waits) c.in_ok-append.ensures ∙ λ i. marked_all same_key (c.gains.view_is i).waits (c.more.view_is i).waits) more before
