use Rattle.std.proofs.Common.{◌≡◌, sym, ◌∙◌, ap, subst, map}
use Rattle.linker_base.specs.Members.{IsMember}
use Rattle.demand_core.specs.Computation.{joined}
use Rattle.demand_core.specs.Search.{IsAsked}
use Rattle.link_model.specs.Inheritance.{all_redefined}
use Rattle.link_walk.specs.Calls.{files_of, read_by}
use Rattle.link_walk.proofs.GainLaws.{gains_of}
use Rattle.feature_facts.specs.Known.{HasAnswer}
use Rattle.feature_facts.specs.Stages.{as_candidate}
use Rattle.removed_features.specs.Stages.{given_gone, gone}
use Rattle.removed_features.proofs.RemovalLaws.{listed_stands, removals_noted}
use Rattle.removed_features.proofs.removal.removal_notes.Goals as goal

pub redefined_by_all-requires-clause-stand : goal.redefined_by_all-requires-clause-stand
redefined_by_all-requires-clause-stand c =
    let h = c.args.heir.now in
    let w = read_by h.view.now in
    let gr = gains_of c.own.inside.found c.own.inside.notes in
    λ e m. listed_stands (files_of h.view.now) h.view.now.table.now c.requires.links c.files.ensures.kept h.raw h.of c.args.candidates.now c.requires.stand gr
    (subst (λ z. IsAsked z (joined (given_gone h.raw h.of) c.args.candidates.now w)) (sym c.own.view_is) c.in_ok-own.ensures) e
    (subst (λ es. IsMember es e) c.as_slice.ensures m)

pub returns : goal.returns
returns c =
    let h = c.args.heir.now in
    let w = read_by h.view.now in
    let gr = gains_of c.own.inside.found c.own.inside.notes in
    let ga = gains_of c.all.inside.found c.all.inside.notes in
    subst (HasAnswer (gone h.raw h.of (map as_candidate c.args.candidates.now)) w) (sym c.in_ok-append.ensures)
    (removals_noted (files_of h.view.now) h.view.now.table.now c.requires.links c.files.ensures.kept h.raw h.of c.args.candidates.now c.requires.stand gr ga
    (subst (λ z. IsAsked z (joined (given_gone h.raw h.of) c.args.candidates.now w)) (sym c.own.view_is) c.in_ok-own.ensures)
    (subst (λ z. IsAsked z (joined all_redefined gr.found w)) (sym c.all.view_is) (subst (λ es. IsAsked c.in_ok-all.all (joined all_redefined es w))
    c.as_slice.ensures c.in_ok-all.ensures)))
