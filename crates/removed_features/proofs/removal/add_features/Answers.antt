use Rattle.std.proofs.Common.{◌≡◌, ◌+◌, drop, sym, ◌∙◌, ap, arith, ◌∷◌, ◌++◌}
use Rattle.std.specs.Prelude.{◌||◌}
use Rattle.link_model.specs.Keys.{is_in}
use Rattle.link_model.specs.Readers.{only_if}
use Rattle.link_walk.specs.Calls.{files_of}
use Rattle.link_walk.proofs.MarkLaws.{get_among}
use Rattle.link_walk.proofs.TookLaws.{next_is, none_left}
use Rattle.removed_features.specs.Stages.{features_among}
use Rattle.removed_features.proofs.RemovalLaws.{feature_moved, feature_read}
use Rattle.feature_facts.proofs.Tests.{or_none}
use Rattle.removed_features.proofs.removal.add_features.Goals as goal

pub element-requires : goal.element-requires
element-requires c = record { stands = c.requires.stand _ (get_among c.args.elements.now c.loop-e.e-index _ c.loop-e-test.true) }

pub loop-e-preserved : goal.loop-e-preserved
loop-e-preserved c g =
    let files = files_of c.args.heir.now.view.now in
    let xs = c.args.elements.now in
    let i = c.loop-e.e-index in
    feature_moved files g c.loop-e.set _ _ (drop (i + 1) xs) _ (feature_read files c.args.heir.now.view.now.table.now _ _ c.in_ok-element.ensures.read.step
    _ c.is_feature-is_feature.ensures) (c.in_ok-add_if.ensures g)
    ∙ (ap (λ ys. is_in g c.loop-e.set || is_in g (features_among files ys)) (sym (next_is xs i _ c.loop-e-test.true)) ∙ c.loop-e.invariant g)

pub returns : goal.returns
returns c g =
    let files = files_of c.args.heir.now.view.now in
    sym (or_none (is_in g c.loop-e.set))
    ∙ (ap (λ ys. is_in g c.loop-e.set || is_in g (features_among files ys)) (sym (none_left c.args.elements.now c.loop-e.e-index
    (omega (arith, c.loop-e-test.false)))) ∙ c.loop-e.invariant g)
