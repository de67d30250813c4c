-- Each place that a walk notes is one of those that P allows, where P allows the start of the text and where its tokens begin.
use Rattle.std.proofs.Common.{◌≡◌, ℕ, Bool, true, false, cond, List, [], ◌∷◌, ◌++◌, refl, sym, subst}
use Rattle.std.specs.Prelude.{Option, Some, None}
use Rattle.std.specs.Option.{unwrap_or}
use Rattle.element_store.specs.declared.kind.Kind.{Kind}
use Rattle.element_store.specs.declared.outcome.Role.{Role}
use Rattle.element_store.specs.declared.outcome.Role.TheVariants as role
use Rattle.element_store.specs.declared.lists.Item.TheVariants as item
use Rattle.token_core.specs.declared.token.Token.{Token}
use Rattle.token_core.specs.Reading.{bytes_of, name_meaning, number_from}
use Rattle.ll_core.specs.Derives.{Forest, Nothing, Token as Leaf, Node}
use Rattle.text_model.specs.declared.action.Action.{Action}
use Rattle.text_model.specs.declared.action.Action.TheVariants.{Name, Short, Segment, Step, Star, NamedEnd, Element, Take, Level, Tail}
use Rattle.text_model.specs.declared.action.Taking.{Taking}
use Rattle.text_model.specs.declared.action.Taking.TheVariants as taking
use Rattle.text_model.specs.declared.action.Operator.{Operator}
use Rattle.text_model.specs.declared.action.Meaning.{Meaning}
use Rattle.text_model.specs.declared.action.Meaning.TheVariants as meaning
use Rattle.text_model.specs.declared.draft.Path.{Path}
use Rattle.text_model.specs.declared.draft.Mention.{Mention}
use Rattle.text_model.specs.declared.draft.DraftExpr.{DraftExpr}
use Rattle.text_model.specs.declared.draft.Draft.{Draft}
use Rattle.text_model.specs.declared.draft.DraftMember.{DraftMember}
use Rattle.text_model.specs.declared.draft.Reading.{Reading}
use Rattle.text_model.specs.declared.draft.Seen.{Seen}
use Rattle.text_model.specs.Tables.{Tables, action_at, meaning_of}
use Rattle.text_model.specs.Drafts.{draft, names, first_name, path_or, mention, mentions}
use Rattle.text_model.specs.Walk.{Walk, Frame, fresh, next_place, begun_place, kept, saved, changed, or_next, entered, owned_member, expression, named, specialised, alias_member, with_inner, given, left, is_large, meant_name, meant_operator, meant, taken_from, walk}
use Rattle.text_laws.specs.Fits.{Every}
use Rattle.text_laws.proofs.FittingLaws.{every_append, every_adjusted, rest_meant, rest_entered, rest_left}
use Rattle.text_laws.proofs.ReadingLaws.{RootAt, NamesAt, ReadAt, joined_at, applied_at, meant_at, none_read, reading_given}

-- the tokens begin there
abbrev pub TokensIn : (ℕ → Type 0) → List Token → Type 0
TokensIn P ts = Every (λ t. P t.from) ts

-- a visibility word stands there
abbrev pub SeenIn : (ℕ → Type 0) → Option Seen → Type 0
SeenIn P None = Unit {0}
SeenIn P (Some s) = P s.place

-- an expression begins there, and its names stand there
abbrev pub ExprIn : (ℕ → Type 0) → Option DraftExpr → Type 0
ExprIn P None = Unit {0}
ExprIn P (Some e) = P e.start × NamesAt P e.nodes

-- all that an element keeps stands there
pub record DraftIn (P : ℕ → Type 0) (d : Draft) : Type 0 where
  pub own : Every (λ p. P p.place) d.own
  pub specs : Every (λ m. P m.path.place) d.specs
  pub inner : Every (λ m. P m.path.place) d.inner
  pub bounds : NamesAt P d.bounds
  pub value : ExprIn P d.value
  pub result : ExprIn P d.result

-- all that a walk keeps stands there
pub record WalkIn (P : ℕ → Type 0) (w : Walk) : Type 0 where
  pub drafts : Every (DraftIn P) w.elements
  pub members : Every (λ m. P m.place) w.members
  pub waiting : SeenIn P w.waiting
  pub reading : ReadAt P w.reading
  pub start : RootAt P w.reading.start
  pub large : Every P w.large

-- what a production's end needs stands there
record FrameIn (P : ℕ → Type 0) (f : Frame) : Type 0 where
  place : P f.place
  reading : ReadAt P f.reading
  start : RootAt P f.reading.start

-- an element with nothing in it
pub draft_in : (P : ℕ → Type 0) (k : Kind) (o : Option ℕ) → DraftIn P (draft k o)
draft_in P k o = record { own = tt; specs = tt; inner = tt; bounds = tt; value = tt; result = tt }

next_in : (P : ℕ → Type 0) → P 0 → (ts : List Token) → TokensIn P ts → P (next_place ts)
next_in P z [] h = z
next_in P z (t ∷ ts) h = h.0

begun_in : (P : ℕ → Type 0) → P 0 → (o : Option Seen) (ts : List Token) → SeenIn P o → TokensIn P ts → P (begun_place o ts)
begun_in P z None ts s h = next_in P z ts h
begun_in P z (Some x) ts s h = s

or_next_in : (P : ℕ → Type 0) → P 0 → (o : Option ℕ) (ts : List Token) → RootAt P o → TokensIn P ts → RootAt P (or_next o ts)
or_next_in P z None ts s h = next_in P z ts h
or_next_in P z (Some x) ts s h = s

start_in : (P : ℕ → Type 0) → P 0 → (o : Option ℕ) → RootAt P o → P (unwrap_or o 0)
start_in P z None h = z
start_in P z (Some x) h = h

first_in : (P : ℕ → Type 0) → P 0 → (ps : List Path) → Every (λ p. P p.place) ps → P (first_name ps).place
first_in P z [] h = z
first_in P z (p ∷ ps) h = h.0

or_in : (P : ℕ → Type 0) (place : ℕ) → P place → (ps : List Path) → Every (λ p. P p.place) ps → P (path_or place ps).place
or_in P place z [] h = z
or_in P place z (p ∷ ps) h = h.0

-- names with their role
pub mentions_in : (P : ℕ → Type 0) (r : Role) (ps : List Path) → Every (λ p. P p.place) ps → Every (λ m. P m.path.place) (mentions r ps)
mentions_in P r [] h = tt
mentions_in P r (p ∷ ps) h = (h.0, mentions_in P r ps h.1)

changed_in : (P : ℕ → Type 0) (w : Walk) (f : Draft → Draft) → ((d : Draft) → DraftIn P d → DraftIn P (f d)) → WalkIn P w → WalkIn P (changed f w)
changed_in P w f on h = record {
  drafts = every_adjusted (DraftIn P) w.current f w.elements on h.drafts;
  members = h.members;
  waiting = h.waiting;
  reading = h.reading;
  start = h.start;
  large = h.large;
}

with_reading : (P : ℕ → Type 0) (w : Walk) (r : Reading) → ReadAt P r → RootAt P r.start → WalkIn P w → WalkIn P (record w { reading = r })
with_reading P w r n s h = record { drafts = h.drafts; members = h.members; waiting = h.waiting; reading = n; start = s; large = h.large }

entered_in : (P : ℕ → Type 0) → P 0 → (a : Action) (w : Walk) → TokensIn P w.rest → WalkIn P w → WalkIn P (entered a w)
entered_in P z (Element k) w ts h = record {
  drafts = every_append (DraftIn P) _ _ (every_adjusted (DraftIn P) w.current _ w.elements
      (λ d v. record { own = v.own; specs = v.specs; inner = v.inner; bounds = v.bounds; value = v.value; result = v.result }) h.drafts)
      (draft_in P k (Some w.current), tt);
  members = every_append (λ (m : DraftMember). P m.place) w.members (owned_member w ∷ []) h.members (begun_in P z w.waiting w.rest h.waiting ts, tt);
  waiting = tt;
  reading = none_read P;
  start = tt;
  large = h.large;
}
entered_in P z (Take d) w ts h = record {
  drafts = h.drafts;
  members = h.members;
  waiting = tt;
  reading = none_read P;
  start = tt;
  large = h.large;
}
entered_in P z NamedEnd w ts h = with_reading P w _ (record { names = tt; root = h.reading.root }) h.start h
entered_in P z Level w ts h = with_reading P w _ (record { names = h.reading.names; root = h.reading.root })
    (or_next_in P z w.reading.start w.rest h.start ts) h
entered_in P z Tail w ts h = with_reading P w _
    (record { names = joined_at P w.reading.nodes w.reading.operator h.reading.names; root = h.reading.root }) h.start h
entered_in P z other w ts h = h

saved_in : (P : ℕ → Type 0) → P 0 → (a : Action) (w : Walk) → TokensIn P w.rest → WalkIn P w → FrameIn P (saved a w)
saved_in P z (Element k) w ts h = record { place = begun_in P z w.waiting w.rest h.waiting ts; reading = h.reading; start = h.start }
saved_in P z (Take d) w ts h = record { place = begun_in P z w.waiting w.rest h.waiting ts; reading = h.reading; start = h.start }
saved_in P z Level w ts h = record { place = begun_in P z w.waiting w.rest h.waiting ts; reading = record { names = tt; root = tt }; start = tt }
saved_in P z other w ts h = record { place = begun_in P z w.waiting w.rest h.waiting ts; reading = none_read P; start = tt }

specialised_in : (P : ℕ → Type 0) (which : Role) (r : Reading) (w : Walk) → ReadAt P r → WalkIn P w → WalkIn P (specialised which r w)
specialised_in P which r w n h = changed_in P w _ (λ d v. record {
  own = v.own;
  specs = every_append (λ (m : Mention). P m.path.place) d.specs _ v.specs (mentions_in P which (names r.nodes) n.names);
  inner = v.inner;
  bounds = v.bounds;
  value = v.value;
  result = v.result;
}) h

inner_in : (P : ℕ → Type 0) (w : Walk) (i : _) (which : Role) (p : Path) → P p.place → WalkIn P w → WalkIn P (changed (with_inner i which p) w)
inner_in P w i which p x h = changed_in P w (with_inner i which p) (λ d v. record {
  own = v.own;
  specs = v.specs;
  inner = every_append (λ (m : Mention). P m.path.place) d.inner (mention which p ∷ []) v.inner (x, tt);
  bounds = v.bounds;
  value = v.value;
  result = v.result;
}) h

given_in : (P : ℕ → Type 0) → P 0 → (d : Taking) (f : Frame) (r : Reading) (w : Walk) → P f.place → ReadAt P r → RootAt P r.start → WalkIn P w
    → WalkIn P (given d f r w)
given_in P z taking.Subclass f r w x n s h = specialised_in P role.Subclass r w n h
given_in P z taking.Typing f r w x n s h = specialised_in P role.Typing r w n h
given_in P z taking.Subsetting f r w x n s h = specialised_in P role.Subsetting r w n h
given_in P z taking.Redefinition f r w x n s h = specialised_in P role.Redefinition r w n h
given_in P z taking.ReferenceSubsetting f r w x n s h = specialised_in P role.ReferenceSubsetting r w n h
given_in P z taking.Bounds f r w x n s h = changed_in P w _
    (λ d v. record { own = v.own; specs = v.specs; inner = v.inner; bounds = n.names; value = v.value; result = v.result }) h
given_in P z taking.Value f r w x n s h = changed_in P w _ (λ d v. record {
  own = v.own;
  specs = v.specs;
  inner = v.inner;
  bounds = v.bounds;
  value = (start_in P z r.start s, n.names);
  result = v.result;
}) h
given_in P z taking.Result f r w x n s h = changed_in P w _ (λ d v. record {
  own = v.own;
  specs = v.specs;
  inner = v.inner;
  bounds = v.bounds;
  value = v.value;
  result = (start_in P z r.start s, n.names);
}) h
given_in P z taking.Alias f r w x n s h =
    let v = inner_in P w (item.Member _) role.Alias (first_name (names r.nodes)) (first_in P z (names r.nodes) n.names) h in record {
      drafts = v.drafts;
      members = every_append (λ (m : DraftMember). P m.place) w.members (alias_member f r w ∷ []) h.members (x, tt);
      waiting = h.waiting;
      reading = h.reading;
      start = h.start;
      large = h.large;
    }
given_in P z taking.Import f r w x n s h =
    let v = inner_in P w (item.Import _) role.Import (path_or f.place (names r.nodes)) (or_in P f.place x (names r.nodes) n.names) h in record {
      drafts = v.drafts;
      members = h.members;
      waiting = h.waiting;
      reading = h.reading;
      start = h.start;
      large = h.large;
    }

left_in : (P : ℕ → Type 0) → P 0 → (a : Action) (f : Frame) (w : Walk) → FrameIn P f → WalkIn P w → WalkIn P (left a f w)
left_in P z (Element k) f w x h =
    let c = changed_in P w (named w.reading) (λ d v. record {
      own = h.reading.names;
      specs = v.specs;
      inner = v.inner;
      bounds = v.bounds;
      value = v.value;
      result = v.result;
    }) h in
    record { drafts = c.drafts; members = c.members; waiting = c.waiting; reading = x.reading; start = x.start; large = c.large }
left_in P z (Take d) f w x h = given_in P z d f w.reading (record w { reading = f.reading }) x.place h.reading h.start
    (with_reading P w f.reading x.reading x.start h)
left_in P z Level f w x h = with_reading P w _
    (record { names = applied_at P w.reading.nodes w.reading.operator h.reading.names; root = h.reading.root }) h.start h
left_in P z other f w x h = h

name_in_walk : (P : ℕ → Type 0) (a : Action) (t : Token) (bytes : List ℕ) (w : Walk) → ReadAt P (meant_name a t bytes w).reading → WalkIn P w
    → WalkIn P (meant_name a t bytes w)
name_in_walk P Name t bytes w n h = with_reading P w _ n h.start h
name_in_walk P Short t bytes w n h = with_reading P w _ n h.start h
name_in_walk P Segment t bytes w n h = with_reading P w _ n h.start h
name_in_walk P Step t bytes w n h = with_reading P w _ n h.start h
name_in_walk P other t bytes w n h = with_reading P w _ n h.start h

operator_in_walk : (P : ℕ → Type 0) (a : Action) (o : Operator) (place : ℕ) (w : Walk) → ReadAt P (meant_operator a o place w).reading → WalkIn P w
    → WalkIn P (meant_operator a o place w)
operator_in_walk P Star o place w n h = with_reading P w _ n h.start h
operator_in_walk P other o place w n h = with_reading P w _ n h.start h

noted_in : (P : ℕ → Type 0) (b : Bool) (place : ℕ) → P place → Every P (cond b (place ∷ []) [])
noted_in P true place x = (x, tt)
noted_in P false place x = tt

meant_in : (P : ℕ → Type 0) (text : List ℕ) (a : Action) (m : Meaning) (t : Token) (w : Walk) → P t.from → WalkIn P w → WalkIn P (meant text a m t w)
meant_in P text a meaning.Nothing t w x h = h
meant_in P text a (meaning.Mark m) t w x h = changed_in P w _
    (λ d v. record { own = v.own; specs = v.specs; inner = v.inner; bounds = v.bounds; value = v.value; result = v.result }) h
meant_in P text a (meaning.Direction way) t w x h = changed_in P w _
    (λ d v. record { own = v.own; specs = v.specs; inner = v.inner; bounds = v.bounds; value = v.value; result = v.result }) h
meant_in P text a (meaning.PartOf part) t w x h = changed_in P w _
    (λ d v. record { own = v.own; specs = v.specs; inner = v.inner; bounds = v.bounds; value = v.value; result = v.result }) h
meant_in P text a (meaning.Visibility v) t w x h = record {
  drafts = h.drafts;
  members = h.members;
  waiting = x;
  reading = h.reading;
  start = h.start;
  large = h.large;
}
meant_in P text a (meaning.Kind k) t w x h = changed_in P w _
    (λ d v. record { own = v.own; specs = v.specs; inner = v.inner; bounds = v.bounds; value = v.value; result = v.result }) h
meant_in P text a meaning.Def t w x h = changed_in P w _
    (λ d v. record { own = v.own; specs = v.specs; inner = v.inner; bounds = v.bounds; value = v.value; result = v.result }) h
meant_in P text a meaning.Comment t w x h = changed_in P w _
    (λ d v. record { own = v.own; specs = v.specs; inner = v.inner; bounds = v.bounds; value = v.value; result = v.result }) h
meant_in P text a meaning.Text t w x h = with_reading P w _ (meant_at P text a meaning.Text t w x h.reading) h.start h
meant_in P text a meaning.Integer t w x h = record {
  drafts = h.drafts;
  members = h.members;
  waiting = h.waiting;
  reading = meant_at P text a meaning.Integer t w x h.reading;
  start = h.start;
  large = every_append P w.large _ h.large (noted_in P (is_large (number_from 0 (bytes_of text t))) t.from x);
}
meant_in P text a (meaning.Leaf l) t w x h = with_reading P w _ (meant_at P text a (meaning.Leaf l) t w x h.reading) h.start h
meant_in P text a meaning.Name t w x h = name_in_walk P a t (name_meaning (bytes_of text t)) w (meant_at P text a meaning.Name t w x h.reading) h
meant_in P text a meaning.Absolute t w x h = with_reading P w _ (meant_at P text a meaning.Absolute t w x h.reading) h.start h
meant_in P text a (meaning.Operator o) t w x h = operator_in_walk P a o t.from w (meant_at P text a (meaning.Operator o) t w x h.reading) h

-- a walk with the tokens to come
abbrev GoesIn : (ℕ → Type 0) → Walk → Type 0
GoesIn P w = WalkIn P w × TokensIn P w.rest

taken_in : (P : ℕ → Type 0) (t : Tables) (text : List ℕ) (a : Action) (ts : List Token) (w : Walk) → ts ≡ w.rest → TokensIn P ts → WalkIn P w
    → GoesIn P (taken_from t text a ts w)
taken_in P t text a [] w e k h = (h, subst (TokensIn P) e k)
taken_in P t text a (x ∷ ts) w e k h =
    let v = record w { rest = ts } in
    let started : WalkIn P v = record {
      drafts = h.drafts;
      members = h.members;
      waiting = h.waiting;
      reading = h.reading;
      start = h.start;
      large = h.large;
    } in (
      meant_in P text a (meaning_of t x.kind) x v k.0 started,
      subst (TokensIn P) (sym (rest_meant text a (meaning_of t x.kind) x v)) k.1,
    )

-- what the walk over any forest keeps stands there
pub walk_in : (P : ℕ → Type 0) → P 0 → (t : Tables) (text : List ℕ) (a : Action) (f : Forest) (w : Walk) → TokensIn P w.rest → WalkIn P w
    → GoesIn P (walk t text a f w)
walk_in P z t text a Nothing w k h = (h, k)
walk_in P z t text a (Leaf j f) w k h =
    let x = taken_in P t text a w.rest w refl k h in
    walk_in P z t text a f (taken_from t text a w.rest w) x.1 x.0
walk_in P z t text a (Node p below f) w k h =
    let b = action_at t p in
    let v = walk t text b below (entered b w) in
    let x = walk_in P z t text b below (entered b w) (subst (TokensIn P) (sym (rest_entered b w)) k) (entered_in P z b w k h) in
    walk_in P z t text a f (left b (saved b w) v) (subst (TokensIn P) (sym (rest_left b (saved b w) v)) x.1)
    (left_in P z b (saved b w) v (saved_in P z b w k h) x.0)
