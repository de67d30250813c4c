-- the tiers that are left, tried from here, try all
use Rattle.std.proofs.Common.{◌≡◌, ◌<◌, length}
use Rattle.std.specs.Prelude.{IfSome, suc}
use Rattle.std.specs.Option.{option_map_or}
use Rattle.link_model.specs.Outside.{library_of}
use Rattle.link_walk.specs.Calls.{files_of, read_by}
use Rattle.link_tiers.specs.Tiers.{AreFound}
use Rattle.element_store.specs.Condition.{IsModel}
use Rattle.link_tiers.proofs.NamespaceLaws.{IsOnWay}
use Rattle.link_tiers.proofs.namespaces.try_outward.Given as goal

abbrev pub invariant-loop-at : goal.invariant-loop-at
invariant-loop-at g l =
    ((is : IsModel l.model) → IsOnWay (read_by l.fn.view) (library_of (files_of l.fn.view)) l.name l.model is l.file l.initial.at l.initial.gains l.at l.gains)
    × IfSome l.at (λ e. e < length l.model.elements)
    × (AreFound (files_of l.fn.view) l.initial.gains → AreFound (files_of l.fn.view) l.gains)

abbrev pub decreases-loop-at : goal.decreases-loop-at
decreases-loop-at g l = option_map_or suc l.at 0
