-- The walk over a tree as a fold over the tree's events.
use Rattle.std.specs.Prelude.{◌≡◌, ℕ, List, []}
use Rattle.ll_core.specs.Derives.{Forest, preorder}
use Rattle.text_model.specs.declared.action.Action.TheVariants.{Group}
use Rattle.text_model.specs.Tables.{Tables}
use Rattle.text_model.specs.Walk.{Walk, walk, run}

-- the fold over a tree's events in preorder ends where the walk over the tree does, with no production open
abbrev pub EventsMakeTheWalk : Type 0
EventsMakeTheWalk =
    (t : Tables) (text : List ℕ) (f : Forest) (w : Walk)
    → run t text (record { open_ = []; now = w }) (preorder f) ≡ record { open_ = []; now = walk t text Group f w }
