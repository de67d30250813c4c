-- The walk over a forest is the fold over its events.
use Rattle.std.proofs.Common.{◌≡◌, ℕ, List, [], ◌∷◌, ◌++◌, refl, ap, sym, ◌∙◌, append_assoc, append-nil}
use Rattle.ll_core.specs.Derives.{Forest, Nothing, Token as Leaf, Node, preorder}
use Rattle.ll_core.specs.declared.event.Event.{Event}
use Rattle.ll_core.specs.declared.event.Event.TheVariants.{Close}
use Rattle.text_model.specs.declared.action.Action.{Action}
use Rattle.text_model.specs.Tables.{Tables, action_at}
use Rattle.text_model.specs.Walk.{Walk, Frame, saved, entered, left, taken, walk, top, run}
use Rattle.text_laws.specs.Events.{EventsMakeTheWalk}

-- from any productions that are open, and with any events behind
pub run_walk : (t : Tables) (text : List ℕ) (f : Forest) (os : List (Action × Frame)) (w : Walk) (es : List Event)
    → run t text (record { open_ = os; now = w }) (preorder f ++ es) ≡ run t text (record { open_ = os; now = walk t text (top os) f w }) es
run_walk t text Nothing os w es = refl
run_walk t text (Leaf k f) os w es = run_walk t text f os (taken t text (top os) w) es
run_walk t text (Node p below rest) os w es =
    let a = action_at t p in
    ap (run t text (record { open_ = (a, saved a w) ∷ os; now = entered a w })) (append_assoc (preorder below) (Close ∷ preorder rest) es)
    ∙ (run_walk t text below ((a, saved a w) ∷ os) (entered a w) (Close ∷ preorder rest ++ es)
    ∙ run_walk t text rest os (left a (saved a w) (walk t text a below (entered a w))) es)

-- the tree's events alone
pub events_make_the_walk : EventsMakeTheWalk
events_make_the_walk t text f w =
    ap (run t text (record { open_ = []; now = w })) (sym (append-nil (preorder f))) ∙ run_walk t text f [] w []
