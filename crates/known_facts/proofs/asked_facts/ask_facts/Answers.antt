use Rattle.std.proofs.Common.{◌≡◌, sym, ◌∙◌, ap, subst, map, ◌∷◌, inl, inr}
use Rattle.linker_base.specs.Members.{IsMember}
use Rattle.demand_core.specs.Computation.{joined}
use Rattle.demand_core.specs.Search.{IsAsked}
use Rattle.element_store.specs.BaseRules.{StandsIn}
use Rattle.element_store.specs.declared.numbers.ElementNo.{ElementNo}
use Rattle.link_model.specs.Inheritance.{all_redefined}
use Rattle.link_walk.specs.Calls.{files_of, read_by}
use Rattle.link_walk.specs.Noted.{noted}
use Rattle.link_walk.proofs.GainLaws.{gains_of}
use Rattle.feature_facts.specs.Stages.{redefiners_of, directs_of, features_in}
use Rattle.feature_facts.specs.declared.facts.Redefiner.{Redefiner}
use Rattle.known_facts.proofs.KnownLaws.{listed_stands, facts_are}
use Rattle.known_facts.proofs.asked_facts.ask_facts.Goals as goal

pub directs-requires-clause-stand : goal.directs-requires-clause-stand
directs-requires-clause-stand c =
    let h = c.args.heir.now in
    let w = read_by h.view.now in
    let gr = gains_of c.own.inside.found c.own.inside.notes in
    λ r m. listed_stands (files_of h.view.now) h.view.now.table.now c.requires.links c.files.ensures.kept h.raw h.of c.args.types.now
    (λ u. elim [ inl is ↦ subst (StandsIn (files_of h.view.now)) is c.requires.own | inr more ↦ c.requires.stand u more ]) gr
    (subst (λ z. IsAsked z (joined (redefiners_of h.raw h.of) (h.of ∷ c.args.types.now) w)) (sym c.own.view_is) c.in_ok-own.ensures) r
    (subst (λ qs. IsMember qs r) c.as_slice.ensures m)

pub ask_all-requires-clause-stand : goal.ask_all-requires-clause-stand
ask_all-requires-clause-stand c =
    let h = c.args.heir.now in
    let w = read_by h.view.now in
    let gr = gains_of c.own.inside.found c.own.inside.notes in
    λ r m. listed_stands (files_of h.view.now) h.view.now.table.now c.requires.links c.files.ensures.kept h.raw h.of c.args.types.now
    (λ u. elim [ inl is ↦ subst (StandsIn (files_of h.view.now)) is c.requires.own | inr more ↦ c.requires.stand u more ]) gr
    (subst (λ z. IsAsked z (joined (redefiners_of h.raw h.of) (h.of ∷ c.args.types.now) w)) (sym c.own.view_is) c.in_ok-own.ensures) r
    (subst (λ qs. IsMember qs r) c.as_slice-2.ensures m)

pub returns : goal.returns
returns c =
    let h = c.args.heir.now in
    let w = read_by h.view.now in
    let gr = gains_of c.own.inside.found c.own.inside.notes in
    let gd = gains_of c.direct.inside.found c.direct.inside.notes in
    let ga = gains_of c.all.inside.found c.all.inside.notes in
    facts_are h c.args.types.now c.requires.links c.files.ensures.kept
    (λ u. elim [ inl is ↦ subst (StandsIn (files_of h.view.now)) is c.requires.own | inr more ↦ c.requires.stand u more ]) gr gd ga
    (subst (λ z. IsAsked z (joined (redefiners_of h.raw h.of) (h.of ∷ c.args.types.now) w)) (sym c.own.view_is) c.in_ok-own.ensures)
    (subst (λ z. IsAsked z (joined directs_of gr.found w)) (sym c.direct.view_is) (subst (λ qs. IsAsked c.in_ok-direct.direct (joined directs_of qs w))
    c.as_slice.ensures c.in_ok-direct.ensures))
    (subst (λ z. IsAsked z (joined all_redefined (features_in gr.found) w)) (sym c.all.view_is)
    (subst (λ qs. IsAsked c.in_ok-all.all (joined all_redefined (features_in qs) w)) c.as_slice-2.ensures c.in_ok-all.ensures))
    c.note_both.new.notes c.in_ok-note_both.ensures
