use Rattle.std.proofs.Common.{◌≡◌, take, drop}
use Rattle.std.specs.Prelude.{◌||◌}
use Rattle.element_store.specs.declared.numbers.ElementNo.{ElementNo}
use Rattle.link_model.specs.Keys.{is_in}
use Rattle.link_walk.specs.Calls.{files_of}
use Rattle.removed_features.specs.Stages.{features_among}
use Rattle.removed_features.proofs.removal.add_features.Given as goal

-- what is in the set, and the features that are left, is all
abbrev pub invariant-loop-e : goal.invariant-loop-e
invariant-loop-e l = (g : ElementNo) → (is_in g l.set || is_in g (features_among (files_of l.heir.view.now) (drop l.e-index l.elements)))
    ≡ (is_in g l.initial.set || is_in g (features_among (files_of l.heir.view.now) l.elements))
