use Rattle.std.proofs.Common.{◌≡◌, ◌∙◌, sym, ap, subst}
use Rattle.linker_base.specs.Members.{IsMember}
use Rattle.link_model.specs.Names.{is_redefinition, redefinitions}
use Rattle.link_model.specs.Readers.{target}
use Rattle.link_walk.specs.Calls.{ends}
use Rattle.link_walk.specs.Noted.{trail_of}
use Rattle.link_walk.specs.Took.{expanded}
use Rattle.link_walk.proofs.ReferenceLists.{references_stand}
use Rattle.inheritance.specs.Sights.{sees}
use Rattle.inheritance.proofs.ExpandLaws.{feature_expanded, no_feature_expanded}
use Rattle.inheritance.proofs.redefined.expand_redefined.Goals as goal

pub take_redefinitions-requires : goal.take_redefinitions-requires
take_redefinitions-requires c = record {
  stand = λ k m. references_stand is_redefinition c.args.sight.now.view.now.models.now c.in_ok-of.of.now c.args.node c.in_ok-of.ensures.stored k
      (subst (λ ks. IsMember ks k) (c.as_slice.ensures ∙ c.in_ok-references.ensures.keys) m);
}

pub returns-then-not-is_feature : goal.returns-then-not-is_feature
returns-then-not-is_feature c =
    let s = c.args.sight.now in
    let files = s.view.now.models.now in
    subst (λ z. trail_of c.trail.inside.nodes c.trail.inside.found c.model.new.notes ≡ expanded (ends target)
    (sees s) redefinitions c.args.node z) c.trail.view_is
    (no_feature_expanded s.settled files s.view.now.table.now c.args.node c.in_ok-of.of.now c.in_ok-of.ensures.stored c.element.result.now
    (trail_of c.trail.inside.nodes c.trail.inside.found c.trail.inside.notes) _ c.element.ensures.lent
    (sym c.is_feature-is_feature.ensures ∙ c.if-not-is_feature.true)
    (ap (trail_of c.trail.inside.nodes c.trail.inside.found) c.in_ok-of.ensures.read.noted))

pub returns : goal.returns
returns c =
    let s = c.args.sight.now in
    let files = s.view.now.models.now in
    subst (λ z. c.take_redefinitions.new.trail ≡ expanded (ends target) (sees s) redefinitions c.args.node z) c.trail.view_is
    (feature_expanded s.settled files s.view.now.table.now c.args.node c.in_ok-of.of.now c.in_ok-of.ensures.stored c.element.result.now c.as_slice.result.now
    (trail_of c.trail.inside.nodes c.trail.inside.found c.trail.inside.notes) _ c.take_redefinitions.new.trail c.element.ensures.lent
    (sym c.is_feature-is_feature.ensures ∙ c.if-not-is_feature.false) (c.as_slice.ensures ∙ c.in_ok-references.ensures.keys)
    (ap (trail_of c.trail.inside.nodes c.trail.inside.found) c.in_ok-of.ensures.read.noted) c.in_ok-take_redefinitions.ensures)
