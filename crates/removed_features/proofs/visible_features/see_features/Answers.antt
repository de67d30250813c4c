use Rattle.std.proofs.Common.{◌≡◌, sym, ◌∙◌, ap, subst, map}
use Rattle.linker_base.specs.Members.{IsMember}
use Rattle.demand_core.specs.Computation.{joined}
use Rattle.demand_core.specs.Search.{IsAsked}
use Rattle.element_store.specs.BaseRules.{StandsIn}
use Rattle.element_store.specs.Numbers.{those_where}
use Rattle.link_model.specs.Inheritance.{all_redefined}
use Rattle.link_model.specs.Keys.{is_in}
use Rattle.link_walk.specs.Calls.{files_of, read_by}
use Rattle.link_walk.proofs.GainLaws.{gains_of}
use Rattle.removed_features.specs.Known.{visible_by, is_sure}
use Rattle.feature_facts.specs.Known.{world_of}
use Rattle.feature_facts.specs.declared.facts.Redefiner.{Redefiner}
use Rattle.feature_facts.specs.declared.facts.Direct.{Direct}
use Rattle.removed_features.proofs.ElsewhereLaws.{seen_stand, describes}
use Rattle.removed_features.proofs.visible_features.see_features.Goals as goal

pub redefined_by_all-requires-clause-stand : goal.redefined_by_all-requires-clause-stand
redefined_by_all-requires-clause-stand c =
    λ e m. seen_stand (files_of c.args.heir.now.view.now) (visible_by c.in_ok-set.set) c.args.facts.now.redefiners c.requires.stand e
    (subst (λ es. IsMember es e) (c.as_slice-2.ensures ∙ (c.in_ok-features.ensures ∙ ap (λ qs. map (λ (q : Redefiner). q.feature)
    (those_where (visible_by c.in_ok-set.set) qs)) c.as_slice.ensures)) m)

pub returns : goal.returns
returns c =
    let h = c.args.heir.now in
    let f = c.args.facts.now in
    let seen = c.in_ok-features.ensures ∙ ap (λ qs. map (λ (q : Redefiner). q.feature) (those_where (visible_by c.in_ok-set.set) qs)) c.as_slice.ensures in
    let g = gains_of c.all.inside.found c.all.inside.notes in
    record {
      stand = λ e m. seen_stand (files_of h.view.now) (visible_by c.in_ok-set.set) f.redefiners c.requires.stand e (subst (λ es. IsMember es e) seen m);
      describes = λ rs known. describes (world_of h) c.args.types.now rs f known c.in_ok-set.set c.in_ok-set.ensures _ g seen
          (subst (λ z. IsAsked z (joined all_redefined c.in_ok-features.features (world_of h))) (sym c.all.view_is)
          (subst (λ es. IsAsked c.in_ok-all.all (joined all_redefined es (world_of h))) c.as_slice-2.ensures c.in_ok-all.ensures))
          (λ e. c.in_ok-reached.ensures e ∙ ap (is_in e) c.as_slice-3.ensures)
          (λ e. c.in_ok-sure.ensures e ∙ ap (is_in e) (c.as_slice-5.ensures ∙ (c.in_ok-surely.ensures ∙ ap (λ ds. map (λ (d : Direct). d.redefined)
          (those_where (is_sure c.in_ok-set.set) ds)) c.as_slice-4.ensures)));
    }
