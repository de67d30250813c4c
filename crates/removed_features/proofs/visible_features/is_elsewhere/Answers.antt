use Rattle.std.proofs.Common.{◌≡◌, sym, ◌∙◌, ap, subst}
use Rattle.std.specs.Prelude.{not}
use Rattle.linker_base.specs.Members.{IsMember}
use Rattle.demand_core.specs.Computation.{joined}
use Rattle.demand_core.specs.Search.{IsAsked}
use Rattle.element_store.specs.Numbers.{those_where}
use Rattle.element_store.specs.declared.numbers.ElementNo.{ElementNo}
use Rattle.link_model.specs.Inheritance.{all_redefined}
use Rattle.link_model.specs.Keys.{is_in, same_element}
use Rattle.link_walk.proofs.GainLaws.{gains_of}
use Rattle.feature_facts.specs.Known.{world_of}
use Rattle.removed_features.proofs.ElsewhereLaws.{sure_tells, unreached_tells, search_tells}
use Rattle.feature_facts.proofs.Tests.{where_member}
use Rattle.removed_features.proofs.visible_features.is_elsewhere.Goals as goal

pub redefined_by_all-requires-clause-stand : goal.redefined_by_all-requires-clause-stand
redefined_by_all-requires-clause-stand c =
    λ f m. c.requires.stand f (where_member (λ (x : ElementNo). not (same_element x c.args.e)) c.args.visible.now.features f
    (subst (λ es. IsMember es f) (c.as_slice-2.ensures ∙ (c.in_ok-rest.ensures ∙ ap (those_where (λ (x : ElementNo). not (same_element x c.args.e)))
    c.as_slice.ensures)) m)).0

pub returns-then-sure : goal.returns-then-sure
returns-then-sure c = λ us rs d. sure_tells (world_of c.args.heir.now) us rs c.args.visible.now d c.args.e (sym c.has-sure.ensures ∙ c.if-sure.true)

pub returns-then-not-reached : goal.returns-then-not-reached
returns-then-not-reached c =
    λ us rs d. unreached_tells (world_of c.args.heir.now) us rs c.args.visible.now d c.args.e (sym c.has-reached.ensures ∙ c.if-not-reached.true)

pub returns : goal.returns
returns c =
    let h = c.args.heir.now in
    let g = gains_of c.all.inside.found c.all.inside.notes in
    let rest = c.as_slice-2.ensures ∙ (c.in_ok-rest.ensures ∙ ap (those_where (λ (x : ElementNo). not (same_element x c.args.e))) c.as_slice.ensures) in
    λ us rs d. (c.is_among-found.ensures ∙ ap (is_in c.args.e) c.as_slice-3.ensures)
    ∙ search_tells (world_of h) us rs c.args.visible.now d c.args.e g
    (subst (λ z. IsAsked z (joined all_redefined (those_where (λ (x : ElementNo). not (same_element x c.args.e)) c.args.visible.now.features) (world_of h)))
    (sym c.all.view_is) (subst (λ es. IsAsked c.in_ok-all.all (joined all_redefined es (world_of h))) rest c.in_ok-all.ensures))
