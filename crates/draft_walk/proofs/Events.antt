-- The walk over a forest is the fold over its events.
use Rattle.std.proofs.Common.{◌≡◌, ℕ, List, [], ◌∷◌, ◌++◌, refl, ap, ◌∙◌, append_assoc}
use Rattle.std.specs.Prelude.{Option}
use Rattle.ll_core.specs.Derives.{Forest, Nothing, Token as Leaf, Node, preorder}
use Rattle.ll_core.specs.declared.event.Event.{Event}
use Rattle.ll_core.specs.declared.event.Event.TheVariants.{Close}
use Rattle.text_model.specs.declared.action.Action.{Action}
use Rattle.text_model.specs.declared.action.Action.TheVariants.{Group, Name, Short, Segment, Step, Star, NamedEnd, Element, Take, Level, Tail}
use Rattle.text_model.specs.declared.draft.Waiting.{Waiting}
use Rattle.text_model.specs.Tables.{Tables, action_at}
use Rattle.text_model.specs.Walk.{Walk, saved, entered, left, taken, walk}
use Rattle.draft_walk.specs.declared.walker.Saved.{Saved}
use Rattle.draft_walk.specs.Telling.{Telling, closed, framed, levelled, run, saved_of, told, top}

-- a production that ends has what its beginning kept
pub close_ends : (a : Action) (as_ : List Action) (ss : List Saved) (os : List (Option Waiting)) (w v : Walk)
    → closed (a ∷ as_) (record { actions = a ∷ as_; frames = framed a (saved_of w) ss; levels = levelled a w.reading.operator os; now = v })
    ≡ record { actions = as_; frames = ss; levels = os; now = left a (saved a w) v }
close_ends Group as_ ss os w v = refl
close_ends Name as_ ss os w v = refl
close_ends Short as_ ss os w v = refl
close_ends Segment as_ ss os w v = refl
close_ends Step as_ ss os w v = refl
close_ends Star as_ ss os w v = refl
close_ends NamedEnd as_ ss os w v = refl
close_ends (Element k) as_ ss os w v = refl
close_ends (Take d) as_ ss os w v = refl
close_ends Level as_ ss os w v = refl
close_ends Tail as_ ss os w v = refl

pub run_walk : (t : Tables) (text : List ℕ) (f : Forest) (as_ : List Action) (ss : List Saved) (os : List (Option Waiting)) (w : Walk) (es : List Event)
    → run t text (record { actions = as_; frames = ss; levels = os; now = w }) (preorder f ++ es)
    ≡ run t text (record { actions = as_; frames = ss; levels = os; now = walk t text (top as_) f w }) es
run_walk t text Nothing as_ ss os w es = refl
run_walk t text (Leaf k f) as_ ss os w es = run_walk t text f as_ ss os (taken t text (top as_) w) es
run_walk t text (Node p below rest) as_ ss os w es =
    let a = action_at t p in
    let under = walk t text a below (entered a w) in
    ap (run t text (record { actions = a ∷ as_; frames = framed a (saved_of w) ss; levels = levelled a w.reading.operator os; now = entered a w }))
    (append_assoc (preorder below) (Close ∷ preorder rest) es)
    ∙ (run_walk t text below (a ∷ as_) (framed a (saved_of w) ss) (levelled a w.reading.operator os) (entered a w) (Close ∷ preorder rest ++ es)
    ∙ (ap (λ (r : Telling). run t text r (preorder rest ++ es)) (close_ends a as_ ss os w under)
    ∙ run_walk t text rest as_ ss os (left a (saved a w) under) es))

-- one event more
pub run_more : (t : Tables) (text : List ℕ) (r : Telling) (es : List Event) (e : Event) → run t text r (es ++ e ∷ []) ≡ told t text (run t text r es) e
run_more t text r [] e = refl
run_more t text r (x ∷ es) e = run_more t text (told t text r x) es e
