use Rattle.std.proofs.Common.{sym, ◌∙◌, ap, subst, ◌∷◌, []}
use Rattle.std.specs.Prelude.{◌||◌}
use Rattle.linker_base.specs.Members.{IsMember}
use Rattle.demand_core.specs.Search.{IsAsked}
use Rattle.link_model.specs.Inheritance.{all_redefined}
use Rattle.link_model.specs.Keys.{is_in}
use Rattle.link_walk.proofs.GainLaws.{gains_of, waits_some, waits_none}
use Rattle.feature_facts.specs.Known.{files_for, world_of}
use Rattle.removed_features.specs.Stages.{features_among}
use Rattle.removed_features.proofs.RemovalLaws.{waiting_removed_by, far_removed_by, found_stand}
use Rattle.removed_features.proofs.removal.add_redefined.Goals as goal

pub add_features-requires : goal.add_features-requires
add_features-requires c =
    let h = c.args.heir.now in
    let g = gains_of c.all.inside.found c.all.inside.notes in record {
      stand = λ f m. found_stand h c.requires.links c.files.ensures.kept c.args.e g c.requires.stands
          (subst (λ z. IsAsked z (all_redefined c.args.e (world_of h))) (sym c.all.view_is) c.in_ok-all.ensures)
          (waits_none g.waits (sym c.is_waiting-waiting.ensures ∙ c.if-waiting.false)) f (subst (λ es. IsMember es f) c.as_slice.ensures m);
    }

pub returns-then-waiting : goal.returns-then-waiting
returns-then-waiting c = λ alone off.
    let h = c.args.heir.now in
    let g = gains_of c.all.inside.found c.all.inside.notes in
    waiting_removed_by h c.requires.links c.files.ensures.kept c.args.e c.args.set.now g
    (subst (λ z. IsAsked z (all_redefined c.args.e (world_of h))) (sym c.all.view_is) c.in_ok-all.ensures)
    (waits_some g.waits (sym c.is_waiting-waiting.ensures ∙ c.if-waiting.true)) off

pub returns : goal.returns
returns c = λ alone off.
    let h = c.args.heir.now in
    let g = gains_of c.all.inside.found c.all.inside.notes in
    far_removed_by h c.requires.links c.files.ensures.kept c.args.e c.add_features.new.set g
    (subst (λ z. IsAsked z (all_redefined c.args.e (world_of h))) (sym c.all.view_is) c.in_ok-all.ensures)
    (λ f. c.in_ok-add_features.ensures f ∙ (ap (λ b. b || is_in f (features_among (files_for h) c.as_slice.result.now)) (alone f)
    ∙ ap (λ es. is_in f (c.args.e ∷ []) || is_in f (features_among (files_for h) es)) c.as_slice.ensures)) off
