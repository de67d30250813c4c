use Rattle.std.proofs.Common.{◌∙◌, ◌∷◌, [], ◌++◌, map, sym, ap, subst}
use Rattle.std.specs.Option.{option_map_or}
use Rattle.std.specs.Prelude.{IfSome, Option}
use Rattle.element_store.specs.declared.numbers.ElementNo.{ElementNo}
use Rattle.element_store.specs.declared.records.Element.{Element}
use Rattle.element_store.specs.BaseRules.{StandsIn}
use Rattle.element_store.specs.Kinds.{is_type}
use Rattle.element_store.specs.Model.{root_element}
use Rattle.link_walk.specs.Calls.{read_by}
use Rattle.implied_model.proofs.FoundOwners.{owner_is}
use Rattle.implied_rules.specs.Implied.{AreStanding, said_by}
use Rattle.implied_rules.proofs.ImpliedLaws.{as_before, get_is, member_stands, said_more, standing_more, typed, untyped}
use Rattle.implied_rules.proofs.implying.add_element.Goals as goal

pub returns-then-not-is_type-clause-said : goal.returns-then-not-is_type-clause-said
returns-then-not-is_type-clause-said c =
    let kind = ap (λ (e : Element). is_type e.kind)
    (get_is c.args.model.now.elements c.args.of.index root_element c.element.result.now c.element.ensures.lent) in
    as_before _ _ (untyped c.args.view.now.models.now (read_by c.args.view.now) c.args.of.file c.args.model.now c.args.of.index
    (kind ∙ (sym c.is_type.ensures ∙ c.if-not-is_type.true)))

pub returns-in_ok-push-clause-said : goal.returns-in_ok-push-clause-said
returns-in_ok-push-clause-said c =
    let kind = ap (λ (e : Element). is_type e.kind)
    (get_is c.args.model.now.elements c.args.of.index root_element c.element.result.now c.element.ensures.lent) in
    let is = kind ∙ (sym c.is_type.ensures ∙ c.if-not-is_type.false) in
    ap (map said_by) c.in_ok-push.ensures.ok
    ∙ (said_more c.args.rows.now _
    ∙ ap (λ xs. map said_by c.args.rows.now ++ xs)
    (sym (typed c.args.view.now.models.now (read_by c.args.view.now) c.args.of.file c.args.model.now c.args.of.index c.in-Some.index
    (c.in-Some-2.base ∷ []) is (owner_is c.args.model.now c.args.of.index c.in-Some.index c.elements.ensures.model.owned c.in-Some.ensures.member)
    (ap (λ o. option_map_or (λ (b : ElementNo). b ∷ []) o []) (sym c.in-Some-2.is) ∙ c.in_ok-base.ensures.implied))))

pub returns-in_ok-push-clause-stand : goal.returns-in_ok-push-clause-stand
returns-in_ok-push-clause-stand c = λ others.
    let files = c.args.view.now.models.now in
    let there = c.requires.there in
    let base = subst (λ (o : Option ElementNo). IfSome o (StandsIn files)) c.in-Some-2.is c.in_ok-base.ensures.stands in
    subst (AreStanding files) (sym c.in_ok-push.ensures.ok)
    (standing_more files c.args.rows.now _ (c.args.model.now, there.model, there.within)
    (member_stands files c.args.of.file c.args.model.now c.args.of.index c.in-Some.index there.model c.in-Some.ensures.member) base others)
