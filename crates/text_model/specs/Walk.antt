-- From the tree of a text to the drafts of its elements: what each action of a production and each meaning of a token
-- does.
use Rattle.std.specs.Prelude.{ℕ, ◌+◌, ◌-◌, ◌^◌, Bool, true, false, nat_le, cond, pos, Option, Some, None, is_some, List, [], ◌∷◌, ◌++◌, length, slice_range}
use Rattle.std.specs.Option.{unwrap_or}
use Rattle.element_store.specs.declared.kind.Kind.{Kind}
use Rattle.element_store.specs.declared.kind.Visibility.{Visibility}
use Rattle.element_store.specs.declared.kind.Visibility.TheVariants as visibility
use Rattle.element_store.specs.declared.outcome.Role.{Role}
use Rattle.element_store.specs.declared.outcome.Role.TheVariants as role
use Rattle.element_store.specs.declared.lists.Item.{Item}
use Rattle.element_store.specs.declared.lists.Item.TheVariants as item
use Rattle.token_core.specs.declared.token.Token.{Token}
use Rattle.token_core.specs.Reading.{bytes_of, name_meaning, string_meaning, number_from}
use Rattle.ll_core.specs.Derives.{Forest, Nothing, Token as Leaf, Node}
use Rattle.ll_core.specs.declared.event.Event.{Event}
use Rattle.ll_core.specs.declared.event.Event.TheVariants.{Open, Shift, Close, End}
use Rattle.text_model.specs.declared.action.Action.{Action}
use Rattle.text_model.specs.declared.action.Action.TheVariants.{Group, Name, Short, Segment, Step, Star, NamedEnd, Element, Take, Level, Tail}
use Rattle.text_model.specs.declared.action.Taking.{Taking}
use Rattle.text_model.specs.declared.action.Taking.TheVariants as taking
use Rattle.text_model.specs.declared.action.Operator.{Operator}
use Rattle.text_model.specs.declared.action.Leaf.{Leaf as LeafWord}
use Rattle.text_model.specs.declared.action.Leaf.TheVariants as leaf
use Rattle.text_model.specs.declared.action.Meaning.{Meaning}
use Rattle.text_model.specs.declared.action.Meaning.TheVariants as meaning
use Rattle.text_model.specs.declared.draft.Path.{Path}
use Rattle.text_model.specs.declared.draft.What.{What}
use Rattle.text_model.specs.declared.draft.What.TheVariants as what
use Rattle.text_model.specs.declared.draft.DraftNode.{DraftNode}
use Rattle.text_model.specs.declared.draft.DraftExpr.{DraftExpr}
use Rattle.text_model.specs.declared.draft.Draft.{Draft}
use Rattle.text_model.specs.declared.draft.DraftTarget.TheVariants.{Owned, Alias}
use Rattle.text_model.specs.declared.draft.DraftMember.{DraftMember}
use Rattle.text_model.specs.declared.draft.DraftImport.{DraftImport}
use Rattle.text_model.specs.declared.draft.Waiting.{Waiting}
use Rattle.text_model.specs.declared.draft.Seen.{Seen}
use Rattle.text_model.specs.declared.draft.Reading.{Reading}
use Rattle.text_model.specs.Tables.{Tables, action_at, meaning_of}
use Rattle.text_model.specs.Drafts.{draft, node, names, first_name, path_or, first_segment, first_text, has_what, is_star, is_all, is_deep, last_changed, with_segment, with_step, joined, applied, mention, mentions, definition_of, marked, adjusted, inner_at}

-- the elements in preorder, the members and the imports, whose numbers are final, the element that is open, a
-- visibility word without its item, what was read of the innermost element or list that is open, the places of integers
-- above the greatest, and the tokens to come
pub record Walk : Type 0 where
  pub elements : List Draft
  pub members : List DraftMember
  pub imports : List DraftImport
  pub current : ℕ
  pub waiting : Option Seen
  pub reading : Reading
  pub large : List ℕ
  pub rest : List Token

-- what the end of a production needs of its beginning
pub record Frame : Type 0 where
  pub current : ℕ
  pub reading : Reading
  pub place : ℕ
  pub visibility : Option Visibility

abbrev pub fresh : Reading
fresh = record { nodes = []; operator = None; start = None; root = None; short = None; name = None }

-- the place of the next token
abbrev pub next_place : List Token → ℕ
next_place [] = 0
next_place (t ∷ ts) = t.from

-- the place and the visibility of the item that begins
abbrev pub begun_place : Option Seen → List Token → ℕ
begun_place None ts = next_place ts
begun_place (Some s) ts = s.place

abbrev pub begun_visibility : Option Seen → Option Visibility
begun_visibility None = None
begun_visibility (Some s) = Some s.visibility

-- what is kept over a production
abbrev pub kept : Action → Reading → Reading
kept (Element k) r = r
kept (Take d) r = r
kept Level r = record fresh { operator = r.operator }
kept other r = fresh

abbrev pub saved : Action → Walk → Frame
saved a w = record {
  current = w.current;
  reading = kept a w.reading;
  place = begun_place w.waiting w.rest;
  visibility = begun_visibility w.waiting;
}

-- the element that is open, changed
abbrev pub changed : (Draft → Draft) → Walk → Walk
changed f w = record w { elements = adjusted w.current f w.elements }

-- what was read, changed
abbrev pub reads : (Reading → Reading) → Walk → Walk
reads f w = record w { reading = f w.reading }

abbrev pub pushed : What → ℕ → Walk → Walk
pushed x place w = reads (λ r. record r { nodes = r.nodes ++ node x place ∷ [] }) w

abbrev pub with_item : Item → Draft → Draft
with_item i d = record d { items = d.items ++ i ∷ [] }

abbrev pub or_next : Option ℕ → List Token → Option ℕ
or_next None ts = Some (next_place ts)
or_next (Some place) ts = Some place

-- where a production begins

abbrev pub owned_member : Walk → DraftMember
owned_member w = record {
  owner = w.current;
  target = Owned (length w.elements);
  visibility = unwrap_or (begun_visibility w.waiting) visibility.Public;
  place = begun_place w.waiting w.rest;
  short = None;
  name = None;
}

-- the name read so far is the declared name, and no reference
abbrev pub end_named : Reading → Reading
end_named r = record r { name = Some (first_segment (first_name (names r.nodes)).path); nodes = [] }

abbrev pub entered : Action → Walk → Walk
entered (Element k) w = record w {
  elements = adjusted w.current (with_item (item.Member (length w.members))) w.elements
      ++ draft k (Some w.current) ∷ [];
  members = w.members ++ owned_member w ∷ [];
  current = length w.elements;
  waiting = None;
  reading = fresh;
}
entered (Take d) w = record w { waiting = None; reading = fresh }
entered NamedEnd w = reads end_named w
entered Level w = reads (λ r. record r { operator = None; start = or_next r.start w.rest }) w
entered Tail w = reads (λ r. record r { nodes = joined r.nodes r.operator; operator = None }) w
entered other w = w

-- where it ends

abbrev pub expression : Reading → DraftExpr
expression r = record { start = unwrap_or r.start 0; nodes = r.nodes }

abbrev pub named : Reading → Draft → Draft
named r d = record d { short = r.short; name = r.name; own = names r.nodes; locale = first_text r.nodes }

abbrev pub specialised : Role → Reading → Walk → Walk
specialised which r w = changed (λ d. record d { specs = d.specs ++ mentions which (names r.nodes) }) w

abbrev pub alias_member : Frame → Reading → Walk → DraftMember
alias_member f r w = record {
  owner = w.current;
  target = Alias (length (inner_at w.elements w.current));
  visibility = unwrap_or f.visibility visibility.Public;
  place = f.place;
  short = r.short;
  name = r.name;
}

abbrev pub import_of : Frame → Reading → Walk → DraftImport
import_of f r w = record {
  place = (path_or f.place (names r.nodes)).place;
  owner = w.current;
  at = length (inner_at w.elements w.current);
  visibility = unwrap_or f.visibility visibility.Private;
  star = has_what is_star r.nodes;
  recursive = has_what is_deep r.nodes;
  all = has_what is_all r.nodes;
}

abbrev pub with_inner : Item → Role → Path → Draft → Draft
with_inner i which p d = record d { items = d.items ++ i ∷ []; inner = d.inner ++ mention which p ∷ [] }

-- what was read goes to where it belongs
abbrev pub given : Taking → Frame → Reading → Walk → Walk
given taking.Subclass f r w = specialised role.Subclass r w
given taking.Typing f r w = specialised role.Typing r w
given taking.Subsetting f r w = specialised role.Subsetting r w
given taking.Redefinition f r w = specialised role.Redefinition r w
given taking.ReferenceSubsetting f r w = specialised role.ReferenceSubsetting r w
given taking.Bounds f r w = changed (λ d. record d { bounds = r.nodes }) w
given taking.Value f r w = changed (λ d. record d { value = Some (expression r) }) w
given taking.Result f r w = changed (λ d. record d { result = Some (expression r) }) w
given taking.Alias f r w =
    record (changed (with_inner (item.Member (length w.members)) role.Alias (first_name (names r.nodes))) w) {
      members = w.members ++ alias_member f r w ∷ [];
    }
given taking.Import f r w =
    record (changed (with_inner (item.Import (length w.imports)) role.Import (path_or f.place (names r.nodes))) w) {
      imports = w.imports ++ import_of f r w ∷ [];
    }

abbrev pub left : Action → Frame → Walk → Walk
left (Element k) f w = record (changed (named w.reading) w) { current = f.current; reading = f.reading }
left (Take d) f w = given d f w.reading (record w { reading = f.reading })
left Level f w = reads (λ r. record r { nodes = applied r.nodes r.operator; operator = f.reading.operator }) w
left other f w = w

-- a token directly below

-- where a name begins: at a `$` that waits for it, or by itself
abbrev pub path_of : Option ℕ → Token → List ℕ → Path
path_of root t bytes = record { place = unwrap_or root t.from; absolute = is_some root; path = bytes ∷ []; chain = [] }

abbrev pub begins_name : Token → List ℕ → Reading → Reading
begins_name t bytes r = record r {
  nodes = r.nodes ++ node (what.Named (path_of r.root t bytes)) (unwrap_or r.root t.from) ∷ [];
  root = None;
}

abbrev pub meant_name : Action → Token → List ℕ → Walk → Walk
meant_name Name t bytes w = reads (λ r. record r { name = Some bytes }) w
meant_name Short t bytes w = reads (λ r. record r { short = Some bytes }) w
meant_name Segment t bytes w = reads (λ r. record r { nodes = last_changed (with_segment bytes) r.nodes }) w
meant_name Step t bytes w = reads (λ r. record r { nodes = last_changed (with_step bytes) r.nodes }) w
meant_name other t bytes w = reads (begins_name t bytes) w

abbrev pub meant_operator : Action → Operator → ℕ → Walk → Walk
meant_operator Star o place w = pushed what.Star place w
meant_operator other o place w = reads (λ r. record r { operator = Some (record { operator = o; place = place }) }) w

abbrev pub leaf_node : LeafWord → What
leaf_node (leaf.Boolean b) = what.Boolean b
leaf_node leaf.Null = what.Null
leaf_node leaf.All = what.All
leaf_node leaf.Deep = what.Deep

-- an integer above the greatest is 0, and its place is noted
abbrev pub is_large : ℕ → Bool
is_large n = nat_le (2 ^ 63) n

abbrev pub meant_integer : ℕ → ℕ → Walk → Walk
meant_integer n place w = pushed (what.Integer (pos (cond (is_large n) 0 n))) place
    (record w { large = w.large ++ cond (is_large n) (place ∷ []) [] })

-- what a comment says: all between its marks
abbrev pub comment_meaning : List ℕ → List ℕ
comment_meaning bytes = slice_range bytes 2 (length bytes - 2)

abbrev pub meant : List ℕ → Action → Meaning → Token → Walk → Walk
meant text a meaning.Nothing t w = w
meant text a (meaning.Mark m) t w = changed (λ d. record d { marks = marked m d.marks }) w
meant text a (meaning.Direction way) t w = changed (λ d. record d { marks = record d.marks { direction = way } }) w
meant text a (meaning.PartOf part) t w = changed (λ d. record d { marks = record d.marks { part_of = part } }) w
meant text a (meaning.Visibility v) t w = record w { waiting = Some (record { place = t.from; visibility = v }) }
meant text a (meaning.Kind k) t w = changed (λ d. record d { kind = k }) w
meant text a meaning.Def t w = changed (λ d. record d { kind = definition_of d.kind }) w
meant text a meaning.Comment t w = changed (λ d. record d { body = Some (comment_meaning (bytes_of text t)) }) w
meant text a meaning.Text t w = pushed (what.Text (string_meaning (bytes_of text t))) t.from w
meant text a meaning.Integer t w = meant_integer (number_from 0 (bytes_of text t)) t.from w
meant text a (meaning.Leaf l) t w = pushed (leaf_node l) t.from w
meant text a meaning.Name t w = meant_name a t (name_meaning (bytes_of text t)) w
meant text a meaning.Absolute t w = reads (λ r. record r { root = Some t.from }) w
meant text a (meaning.Operator o) t w = meant_operator a o t.from w

abbrev pub taken_from : Tables → List ℕ → Action → List Token → Walk → Walk
taken_from tables text a [] w = w
taken_from tables text a (t ∷ ts) w = meant text a (meaning_of tables t.kind) t (record w { rest = ts })

abbrev pub taken : Tables → List ℕ → Action → Walk → Walk
taken tables text a w = taken_from tables text a w.rest w

-- the walk over a forest below a production with this action

abbrev pub walk : Tables → List ℕ → Action → Forest → Walk → Walk
walk tables text a Nothing w = w
walk tables text a (Leaf k rest) w = walk tables text a rest (taken tables text a w)
walk tables text a (Node p below rest) w =
    walk tables text a rest
    (left (action_at tables p) (saved (action_at tables p) w)
    (walk tables text (action_at tables p) below (entered (action_at tables p) w)))

-- the same as a fold over events: the actions of the productions that are open, each with what its end needs
pub record Run : Type 0 where
  pub open_ : List (Action × Frame)
  pub now : Walk

abbrev pub top : List (Action × Frame) → Action
top [] = Group
top (o ∷ os) = o.0

abbrev pub closed : List (Action × Frame) → Walk → Run
closed [] w = record { open_ = []; now = w }
closed (o ∷ os) w = record { open_ = os; now = left o.0 o.1 w }

abbrev pub told : Tables → List ℕ → Run → Event → Run
told tables text r (Open p) = record {
  open_ = (action_at tables p, saved (action_at tables p) r.now) ∷ r.open_;
  now = entered (action_at tables p) r.now;
}
told tables text r Shift = record r { now = taken tables text (top r.open_) r.now }
told tables text r Close = closed r.open_ r.now
told tables text r End = r

abbrev pub run : Tables → List ℕ → Run → List Event → Run
run tables text r [] = r
run tables text r (e ∷ es) = run tables text (told tables text r e) es
