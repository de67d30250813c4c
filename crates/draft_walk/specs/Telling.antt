-- The walk as a fold over events: what stands open, and what each event does.
use Rattle.std.specs.Prelude.{◌≡◌, ℕ, Bool, true, false, Option, Some, None, List, [], ◌∷◌}
use Rattle.ll_core.specs.declared.event.Event.{Event}
use Rattle.ll_core.specs.declared.event.Event.TheVariants.{Open, Shift, Close, End}
use Rattle.element_store.specs.declared.kind.Visibility.{Visibility}
use Rattle.token_core.specs.declared.token.Token.{Token}
use Rattle.text_model.specs.declared.action.Action.{Action}
use Rattle.text_model.specs.declared.action.Action.TheVariants.{Group, Element, Take, Level}
use Rattle.text_model.specs.declared.draft.Draft.{Draft}
use Rattle.text_model.specs.declared.draft.Path.{Path}
use Rattle.text_model.specs.declared.draft.Waiting.{Waiting}
use Rattle.text_model.specs.Tables.{Tables, action_at}
use Rattle.text_model.specs.Walk.{Walk, Frame, fresh, begun_place, begun_visibility, entered, left, taken}
use Rattle.text_model.specs.Profile.{start}
use Rattle.text_model.specs.declared.action.Meaning.{Meaning}
use Rattle.text_model.specs.declared.action.Meaning.TheVariants as meaning
use Rattle.text_model.specs.declared.draft.What.{What}
use Rattle.text_model.specs.declared.draft.DraftNode.{DraftNode}
use Rattle.text_model.specs.Drafts.{name_in, node, text_or}
use Rattle.draft_walk.specs.declared.nodes.OwnNames.{OwnNames}
use Rattle.draft_walk.specs.declared.walker.Saved.{Saved}

-- the actions of the productions that are open, what the ends of the elements and lists among them need, the operators
-- around the expressions of their own among them, each with the innermost first, and the walk
pub record Telling : Type 0 where
  pub actions : List Action
  pub frames : List Saved
  pub levels : List (Option Waiting)
  pub now : Walk

abbrev pub begun : List Token → Telling
begun tokens = record { actions = []; frames = []; levels = []; now = start tokens }

-- what is kept of the element that is open
abbrev pub saved_of : Walk → Saved
saved_of w = record {
  current = w.current;
  reading = w.reading;
  place = begun_place w.waiting w.rest;
  visibility = begun_visibility w.waiting;
}

abbrev pub frame_of : Saved → Frame
frame_of s = record { current = s.current; reading = s.reading; place = s.place; visibility = s.visibility }

abbrev pub level_frame : Option Waiting → Frame
level_frame o = record { current = 0; reading = record fresh { operator = o }; place = 0; visibility = None }

abbrev pub begun_frame : ℕ → Option Visibility → Frame
begun_frame place v = record { current = 0; reading = fresh; place = place; visibility = v }

-- where a production begins

abbrev pub framed : Action → Saved → List Saved → List Saved
framed (Element k) s ss = s ∷ ss
framed (Take d) s ss = s ∷ ss
framed other s ss = ss

abbrev pub levelled : Action → Option Waiting → List (Option Waiting) → List (Option Waiting)
levelled Level o os = o ∷ os
levelled other o os = os

abbrev pub opened : Action → Telling → Telling
opened a t = record {
  actions = a ∷ t.actions;
  frames = framed a (saved_of t.now) t.frames;
  levels = levelled a t.now.reading.operator t.levels;
  now = entered a t.now;
}

-- where it ends

abbrev pub unframed : Action → List Saved → Telling → Telling
unframed a [] t = t
unframed a (s ∷ ss) t = record t { frames = ss; now = left a (frame_of s) t.now }

abbrev pub unlevelled : List (Option Waiting) → Telling → Telling
unlevelled [] t = t
unlevelled (o ∷ os) t = record t { levels = os; now = left Level (level_frame o) t.now }

abbrev pub ended : Action → Telling → Telling
ended (Element k) t = unframed (Element k) t.frames t
ended (Take d) t = unframed (Take d) t.frames t
ended Level t = unlevelled t.levels t
ended other t = t

abbrev pub closed : List Action → Telling → Telling
closed [] t = t
closed (a ∷ rest) t = ended a (record t { actions = rest })

abbrev pub top : List Action → Action
top [] = Group
top (a ∷ rest) = a

-- one event more, and all
abbrev pub told : Tables → List ℕ → Telling → Event → Telling
told tables text t (Open p) = opened (action_at tables p) t
told tables text t Shift = record t { now = taken tables text (top t.actions) t.now }
told tables text t Close = closed t.actions t
told tables text t End = t

abbrev pub run : Tables → List ℕ → Telling → List Event → Telling
run tables text t [] = t
run tables text t (e ∷ es) = run tables text (told tables text t e) es

-- a token more is taken, if there is one
abbrev pub Splits : List Token → Option Token → List Token → Type 0
Splits before None after = (before ≡ []) × (after ≡ [])
Splits before (Some t) after = before ≡ t ∷ after

-- the first of names
abbrev pub first_path : List Path → Option Path
first_path [] = None
first_path (p ∷ ps) = Some p

-- the text, or what a node says
abbrev pub or_text : Option (List ℕ) → What → Option (List ℕ)
or_text (Some text) w = Some text
or_text None w = text_or w None

-- the name, or that which a node is
abbrev pub or_path : Option Path → What → Option Path
or_path (Some p) w = Some p
or_path None w = first_path (name_in w)

-- the node at this place, if there is one
abbrev pub nodes_at : Option What → ℕ → List DraftNode
nodes_at None place = []
nodes_at (Some w) place = node w place ∷ []

-- the names and the locale of an element that ends
abbrev pub with_names : Option (List ℕ) → Option (List ℕ) → OwnNames → Draft → Draft
with_names short name o d = record d { short = short; name = name; own = o.own; locale = o.locale }

-- a word's or a sign's meaning needs no bytes
abbrev pub is_plain : Meaning → Bool
is_plain meaning.Comment = false
is_plain meaning.Text = false
is_plain meaning.Integer = false
is_plain meaning.Name = false
is_plain other = true
