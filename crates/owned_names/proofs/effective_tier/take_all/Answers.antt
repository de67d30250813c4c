use Rattle.std.proofs.Common.{refl, sym, subst, [], ◌∷◌, inl}
use Rattle.demand_core.specs.Computation.{joined}
use Rattle.demand_core.specs.declared.looks.Fact.TheVariants.{Outer}
use Rattle.element_store.specs.Condition.{members_of}
use Rattle.element_store.specs.Readings.{redefining_of}
use Rattle.linker_base.specs.Members.{IsMember}
use Rattle.link_model.specs.declared.keys.LinkFact.TheVariants.{File}
use Rattle.link_model.specs.Names.{effective}
use Rattle.link_model.specs.Readers.{model}
use Rattle.link_walk.specs.Calls.{read_by}
use Rattle.link_walk.specs.Gained.{Gained}
use Rattle.link_walk.specs.Marks.{same_fact}
use Rattle.link_walk.specs.Noted.{Noted}
use Rattle.link_walk.proofs.GainLaws.{gains_of, gained_read}
use Rattle.link_walk.proofs.MarkLaws.{all_now, fact_is_exact}
use Rattle.owned_names.specs.Walked.{effective_part}
use Rattle.owned_names.proofs.WayLaws.{done_same}
use Rattle.owned_names.proofs.SkipLaws.{skipped, gained_same}
use Rattle.owned_names.proofs.effective_tier.take_all.Goals as goal

pub returns : goal.returns
returns c =
    let w = read_by c.args.view.now in
    let files = c.args.view.now.models.now in
    let f = c.args.at.file in
    let x = c.args.name.now in
    let d = c.in_ok-model.model.now in
    let there = done_same _ _ c.in_ok-model.ensures.read.step in
    let start = gains_of c.gains.inside.found c.model.new.notes in
    subst (λ z. Gained (effective x c.args.at w) z c.take_redefining.new.gains) c.gains.view_is
    (gained_read w (model f) (λ m. joined (effective_part m f x)
    (members_of m c.args.at.index)) d [] c.gains.inside.found c.gains.inside.notes c.model.new.notes c.take_redefining.new.gains c.in_ok-model.ensures.read
    (gained_same (Outer (File f)) (joined (effective_part d f x) (members_of d c.args.at.index) w) (joined (effective_part d f x)
    (redefining_of d c.args.at.index) w) start c.take_redefining.new.gains
    (skipped files c.args.view.now.table.now f d there c.in_ok-model.ensures.whole x c.args.at.index)
    (subst (λ (n : Noted). IsMember n.looks (Outer (File f))) (sym c.in_ok-model.ensures.read.noted) (all_now same_fact fact_is_exact (Outer
    (File f) ∷ []) c.gains.inside.notes.looks (Outer (File f)) (inl refl)))
    c.in_ok-take_redefining.ensures))
