use Rattle.std.proofs.Common.{◌≡◌, ◌∙◌, ap, subst}
use Rattle.linker_base.specs.Members.{IsMember}
use Rattle.link_model.specs.Inheritance.{is_specialisation, general}
use Rattle.link_model.specs.Settled.{explicit_links}
use Rattle.link_walk.specs.Calls.{ends}
use Rattle.link_walk.specs.Noted.{trail_of}
use Rattle.link_walk.specs.Took.{expanded}
use Rattle.link_walk.proofs.ReferenceLists.{references_stand}
use Rattle.inheritance.specs.Sights.{sees}
use Rattle.inheritance.proofs.ExpandLaws.{explicit_expanded}
use Rattle.inheritance.proofs.explicit.expand_explicit.Goals as goal

pub take_generals-requires-clause-stand : goal.take_generals-requires-clause-stand
take_generals-requires-clause-stand c = λ k m.
    references_stand is_specialisation c.args.sight.now.view.now.models.now c.in_ok-of.of.now c.args.node c.in_ok-of.ensures.stored k
    (subst (λ ks. IsMember ks k) (c.as_slice.ensures ∙ c.in_ok-references.ensures.keys) m)

pub returns : goal.returns
returns c =
    let s = c.args.sight.now in
    let files = s.view.now.models.now in
    subst (λ z. c.take_generals.new.trail ≡ expanded (ends general) (sees s) explicit_links c.args.node z) c.trail.view_is
    (explicit_expanded s.settled files s.view.now.table.now c.args.node c.in_ok-of.of.now c.in_ok-of.ensures.stored c.as_slice.result.now
    (trail_of c.trail.inside.nodes c.trail.inside.found c.trail.inside.notes) _ c.take_generals.new.trail
    (c.as_slice.ensures ∙ c.in_ok-references.ensures.keys)
    (ap (trail_of c.trail.inside.nodes c.trail.inside.found) c.in_ok-of.ensures.read.noted) c.in_ok-take_generals.ensures)
