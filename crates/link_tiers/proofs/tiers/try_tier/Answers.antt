use Rattle.std.proofs.Common.{◌∙◌, ap, sym, []}
use Rattle.link_model.specs.Keys.{same_key}
use Rattle.link_walk.specs.Marks.{marked_all, same_fact}
use Rattle.link_walk.specs.Noted.{trail_of}
use Rattle.link_tiers.proofs.TierLaws.{tried_here, found_kept}
use Rattle.link_tiers.proofs.tiers.try_tier.Goals as goal

pub returns-clause-tried : goal.returns-clause-tried
returns-clause-tried c = λ w d h.
    tried_here w d c.args.tier c.args.gains.now _ _ h c.is_decided-decided.ensures (ap (λ t. t.found) c.tier.view_is)
    (ap (λ n. n.waits) c.in_ok-append.ensures ∙ λ i. marked_all same_key (c.gains.view_is i).waits (c.tier.view_is i).waits)
    (ap (λ n. n.looks) c.in_ok-append.ensures ∙ λ i. marked_all same_fact (c.gains.view_is i).looks (c.tier.view_is i).looks)

pub returns-clause-found : goal.returns-clause-found
returns-clause-found c = λ files h.
    found_kept files c.args.tier c.args.gains.now (trail_of [] c.tier.inside.found c.append.new.self) (ap (λ t. t.found) c.tier.view_is)
    (ap (λ n. n.waits) c.in_ok-append.ensures ∙ λ i. marked_all same_key (c.gains.view_is i).waits (c.tier.view_is i).waits) h
