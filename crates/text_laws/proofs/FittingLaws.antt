-- Every walk over every forest fits.
use Rattle.std.proofs.Common.{◌≡◌, ℕ, zero, suc, ◌+◌, ◌-◌, ◌≤◌, List, [], ◌∷◌, ◌++◌, length, refl, ap, sym, subst, arith, length-append}
use Rattle.std.specs.Prelude.{true, Option, Some, None}
use Rattle.element_store.specs.declared.kind.Kind.{Kind}
use Rattle.element_store.specs.declared.outcome.Role.{Role}
use Rattle.element_store.specs.declared.outcome.Role.TheVariants as role
use Rattle.element_store.specs.declared.lists.Item.{Item}
use Rattle.element_store.specs.declared.lists.Item.TheVariants as item
use Rattle.element_store.specs.Condition.{is_own}
use Rattle.token_core.specs.declared.token.Token.{Token}
use Rattle.token_core.specs.Reading.{bytes_of, name_meaning, string_meaning, number_from}
use Rattle.ll_core.specs.Derives.{Forest, Nothing, Token as Leaf, Node}
use Rattle.text_model.specs.declared.action.Action.{Action}
use Rattle.text_model.specs.declared.action.Action.TheVariants.{Name, Short, Segment, Step, Star, NamedEnd, Element, Take, Level, Tail}
use Rattle.text_model.specs.declared.action.Taking.{Taking}
use Rattle.text_model.specs.declared.action.Taking.TheVariants as taking
use Rattle.text_model.specs.declared.action.Operator.{Operator}
use Rattle.text_model.specs.declared.action.Operator.TheVariants as operator
use Rattle.element_store.specs.declared.expression.BinaryOp.TheVariants as binary
use Rattle.text_model.specs.declared.action.Leaf.{Leaf as LeafWord}
use Rattle.text_model.specs.declared.action.Leaf.TheVariants as leaf
use Rattle.text_model.specs.declared.action.Meaning.{Meaning}
use Rattle.text_model.specs.declared.action.Meaning.TheVariants as meaning
use Rattle.text_model.specs.declared.draft.Path.{Path}
use Rattle.text_model.specs.declared.draft.What.{What}
use Rattle.text_model.specs.declared.draft.What.TheVariants as what
use Rattle.text_model.specs.declared.draft.DraftNode.{DraftNode}
use Rattle.text_model.specs.declared.draft.Draft.{Draft}
use Rattle.text_model.specs.declared.draft.Reading.{Reading}
use Rattle.text_model.specs.declared.draft.Waiting.{Waiting}
use Rattle.text_model.specs.Tables.{Tables, action_at, meaning_of}
use Rattle.text_model.specs.Drafts.{draft, node, name_in, names, first_name, path_or, named_changed, last_changed, with_segment, with_step, joining, joined, applying, applied, mention, mentions, adjusted, marked, definition_of}
use Rattle.text_model.specs.Walk.{Walk, Frame, saved, changed, with_item, with_inner, entered, named, given, left, begins_name, meant_name, meant_operator, leaf_node, meant_integer, meant, taken_from, taken, walk, comment_meaning}
use Rattle.text_model.specs.Numbering.{nodes_of}
use Rattle.text_laws.specs.Fits.{Every, PathFits, NameFits, WhatFits, NodesFit, SpecFits, DraftFits, waits, ReadingFits, WalkFits}

-- Every.

-- what holds of each in the one sense holds in the other
pub every_on : {A : Type 0} (P Q : A → Type 0) (xs : List A) → ((x : A) → P x → Q x) → Every P xs → Every Q xs
every_on P Q [] on e = tt
every_on P Q (x ∷ xs) on e = (on x e.0, every_on P Q xs on e.1)

-- of two lists, one after the other
pub every_append : {A : Type 0} (P : A → Type 0) (xs ys : List A) → Every P xs → Every P ys → Every P (xs ++ ys)
every_append P [] ys e f = f
every_append P (x ∷ xs) ys e f = (e.0, every_append P xs ys e.1 f)

-- and back, of the first
pub every_front : {A : Type 0} (P : A → Type 0) (xs ys : List A) → Every P (xs ++ ys) → Every P xs
every_front P [] ys h = tt
every_front P (x ∷ xs) ys h = (h.0, every_front P xs ys h.1)

-- and of the second
pub every_back : {A : Type 0} (P : A → Type 0) (xs ys : List A) → Every P (xs ++ ys) → Every P ys
every_back P [] ys h = h
every_back P (x ∷ xs) ys h = every_back P xs ys h.1

-- and of a list with one item changed
pub every_adjusted : {A : Type 0} (P : A → Type 0) (c : ℕ) (f : A → A) (xs : List A) → ((x : A) → P x → P (f x)) → Every P xs → Every P (adjusted c f xs)
every_adjusted P c f [] on e = tt
every_adjusted P zero f (x ∷ xs) on e = (on x e.0, e.1)
every_adjusted P (suc c) f (x ∷ xs) on e = (e.0, every_adjusted P c f xs on e.1)

-- Fewer tokens to come.

path_later : (n r s : ℕ) (p : Path) → s ≤ r → PathFits n r p → PathFits n s p
path_later n r s p le h = record { some = h.some; short = omega (arith, le, h.short) }

what_later : (n r s : ℕ) (w : What) → s ≤ r → WhatFits n r w → WhatFits n s w
what_later n r s (what.Named p) le h = path_later n r s p le h
what_later n r s other le h = tt

nodes_later : (n r s : ℕ) (ns : List DraftNode) → s ≤ r → NodesFit n r ns → NodesFit n s ns
nodes_later n r s ns le h = every_on (λ (x : DraftNode). WhatFits n r x.what) (λ (x : DraftNode). WhatFits n s x.what) ns
    (λ x k. what_later n r s x.what le k) h

draft_later : (n r s : ℕ) (d : Draft) → s ≤ r → DraftFits n r d → DraftFits n s d
draft_later n r s d le h = record {
  own = every_on (PathFits n r) (PathFits n s) d.own (λ p k. path_later n r s p le k) h.own;
  specs = every_on (SpecFits n r) (SpecFits n s) d.specs (λ m k. record { path = path_later n r s m.path le k.path; own = k.own }) h.specs;
  bounds = nodes_later n r s d.bounds le h.bounds;
  value = nodes_later n r s (nodes_of d.value) le h.value;
  result = nodes_later n r s (nodes_of d.result) le h.result;
  inner = h.inner;
  short_value = omega (arith, le, h.short_value);
  short_result = omega (arith, le, h.short_result);
}

-- Names among nodes.

-- the names among nodes that fit
pub names_fit : (n r : ℕ) (ns : List DraftNode) → NodesFit n r ns → Every (PathFits n r) (names ns)
names_fit n r [] h = tt
names_fit n r (x ∷ ns) h = every_append (PathFits n r) (name_in x.what) (names ns) (one x.what h.0) (names_fit n r ns h.1) where
  one : (w : What) → WhatFits n r w → Every (PathFits n r) (name_in w)
  one (what.Named p) k = (k, tt)
  one other k = tt

-- a name that was read fits as one of an alias or import
pub name_fits_in : (n r : ℕ) (p : Path) → PathFits n r p → NameFits n p
name_fits_in n r p h = record { some = h.some; short = omega (arith, h.short) }

first_fits : (n r : ℕ) (ps : List Path) → Every (PathFits n r) ps → NameFits n (first_name ps)
first_fits n r [] h = record { some = omega arith; short = omega arith }
first_fits n r (p ∷ ps) h = name_fits_in n r p h.0

path_fits : (n r place : ℕ) (ps : List Path) → Every (PathFits n r) ps → NameFits n (path_or place ps)
path_fits n r place [] h = record { some = omega arith; short = omega arith }
path_fits n r place (p ∷ ps) h = name_fits_in n r p h.0

mentions_fit : (n r : ℕ) (which : Role) (ps : List Path) → is_own which ≡ true → Every (PathFits n r) ps → Every (SpecFits n r) (mentions which ps)
mentions_fit n r which [] own h = tt
mentions_fit n r which (p ∷ ps) own h = (record { path = h.0; own = own }, mentions_fit n r which ps own h.1)

last_fits : (n r : ℕ) (f : Path → Path) (ns : List DraftNode) → ((p : Path) → PathFits n (suc r) p → PathFits n r (f p)) → NodesFit n (suc r) ns
    → NodesFit n r (last_changed f ns)
last_fits n r f [] on h = tt
last_fits n r f (x ∷ []) on h = (one x.what h.0, tt) where
  one : (w : What) → WhatFits n (suc r) w → WhatFits n r (named_changed f w)
  one (what.Named p) k = on p k
  one other k = tt
last_fits n r f (x ∷ y ∷ ns) on h = (what_later n (suc r) r x.what (omega arith) h.0, last_fits n r f (y ∷ ns) on h.1)

length-last : (f : Path → Path) (ns : List DraftNode) → length (last_changed f ns) ≡ length ns
length-last f [] = refl
length-last f (x ∷ []) = refl
length-last f (x ∷ y ∷ ns) = ap suc (length-last f (y ∷ ns))

segment_fits : (n r : ℕ) (bytes : List ℕ) (p : Path) → PathFits n (suc r) p → PathFits n r (with_segment bytes p)
segment_fits n r bytes p h = record {
  some = omega (arith, h.some, length-append p.path (bytes ∷ []));
  short =
      omega (arith, h.short, length-append p.path (bytes ∷ []));
}

step_fits : (n r : ℕ) (bytes : List ℕ) (p : Path) → PathFits n (suc r) p → PathFits n r (with_step bytes p)
step_fits n r bytes p h = record { some = h.some; short = omega (arith, h.short, length-append p.chain (bytes ∷ [])) }

-- Operators that are applied.

record Adds (n r : ℕ) (ns ms : List DraftNode) (more : ℕ) : Type 0 where
  fits : NodesFit n r ms
  short : length ms ≤ length ns + more

joining_adds : (n r : ℕ) (o : Operator) (place : ℕ) → NodesFit n r (joining o place) × (length (joining o place) ≤ 1)
joining_adds n r (operator.Binary b) place = ((tt, tt), omega arith)
joining_adds n r other place = (tt, omega arith)

joined_adds : (n r : ℕ) (ns : List DraftNode) (o : Option Waiting) → NodesFit n r ns → Adds n r ns (joined ns o) (waits o)
joined_adds n r ns None h = record { fits = h; short = omega arith }
joined_adds n r ns (Some w) h =
    let j = joining_adds n r w.operator w.place in
    record {
      fits = every_append (λ (x : DraftNode). WhatFits n r x.what) ns (joining w.operator w.place) h j.0;
      short =
          omega (arith, j.1, length-append ns (joining w.operator w.place));
    }

applying_adds : (n r : ℕ) (o : Operator) (place : ℕ) → NodesFit n r (applying o place) × (length (applying o place) ≤ 1)
applying_adds n r operator.If place = ((tt, tt), omega arith)
applying_adds n r operator.Not place = ((tt, tt), omega arith)
applying_adds n r (operator.Binary binary.Subtract) place = ((tt, tt), omega arith)
applying_adds n r (operator.Binary binary.Add) place = ((tt, tt), omega arith)
applying_adds n r other place = (tt, omega arith)

applied_adds : (n r : ℕ) (ns : List DraftNode) (o : Option Waiting) → NodesFit n r ns → Adds n r ns (applied ns o) (waits o)
applied_adds n r ns None h = record { fits = h; short = omega arith }
applied_adds n r ns (Some w) h =
    let j = applying_adds n r w.operator w.place in
    record {
      fits = every_append (λ (x : DraftNode). WhatFits n r x.what) ns (applying w.operator w.place) h j.0;
      short =
          omega (arith, j.1, length-append ns (applying w.operator w.place));
    }

-- A token that is taken: before it one more token was to come.

record Before (m n : ℕ) (w : Walk) : Type 0 where
  drafts : Every (DraftFits n (length w.rest)) w.elements
  nodes : NodesFit n (suc (length w.rest)) w.reading.nodes
  short : length w.reading.nodes + waits w.reading.operator + suc (length w.rest) ≤ m
  rest : length w.rest + 1 ≤ n

untouched : (m n : ℕ) (w : Walk) → Before m n w → WalkFits m n w
untouched m n w b = record {
  drafts = b.drafts;
  reading = record { nodes = nodes_later n (suc (length w.rest)) (length w.rest) w.reading.nodes (omega arith) b.nodes; short = omega (arith, b.short) };
  rest = omega (arith, b.rest);
}

changed_fits : (m n : ℕ) (f : Draft → Draft) (w : Walk) → ((d : Draft) → DraftFits n (length w.rest) d → DraftFits n (length w.rest) (f d)) → WalkFits m n w
    → WalkFits m n (changed f w)
changed_fits m n f w on h = record {
  drafts = every_adjusted (DraftFits n (length w.rest)) w.current f w.elements on h.drafts;
  reading = h.reading;
  rest =
      h.rest;
}

-- the parts that fitting speaks of are the same
same_parts : (n r : ℕ) (d e : Draft) → e.own ≡ d.own → e.specs ≡ d.specs → e.bounds ≡ d.bounds → e.value ≡ d.value → e.result ≡ d.result → e.inner ≡ d.inner
    → DraftFits n r d → DraftFits n r e
same_parts n r d e own specs bounds value result inner h = record {
  own = subst (λ x. Every (PathFits n r) x) (sym own) h.own;
  specs = subst (λ x. Every (SpecFits n r) x) (sym specs) h.specs;
  bounds = subst (λ x. NodesFit n r x) (sym bounds) h.bounds;
  value = subst (λ x. NodesFit n r (nodes_of x)) (sym value) h.value;
  result = subst (λ x. NodesFit n r (nodes_of x)) (sym result) h.result;
  inner = subst (λ x. Every (λ m. NameFits n m.path) x) (sym inner) h.inner;
  short_value = subst (λ x. length (nodes_of x) + r ≤ n) (sym value) h.short_value;
  short_result = subst (λ x. length (nodes_of x) + r ≤ n) (sym result) h.short_result;
}

pushed_fits : (m n : ℕ) (x : What) (place : ℕ) (w : Walk) (r : Reading) → WhatFits n (length w.rest) x → r.nodes ≡ w.reading.nodes ++ node x place ∷ []
    → waits r.operator ≡ waits w.reading.operator
    → Before m n w → WalkFits m n (record w { reading = r })
pushed_fits m n x place w r fits pushed same b = record {
  drafts = b.drafts;
  reading = record {
    nodes = subst (λ ns. NodesFit n (length w.rest) ns) (sym pushed)
        (every_append (λ (y : DraftNode). WhatFits n (length w.rest) y.what) w.reading.nodes (node x place ∷ []) (untouched m n w b).reading.nodes (fits, tt));
    short = omega (arith, b.short, same, ap length pushed, length-append w.reading.nodes (node x place ∷ []));
  };
  rest = omega (arith, b.rest);
}

name_fits : (m n : ℕ) (a : Action) (t : Token) (bytes : List ℕ) (w : Walk) → Before m n w → WalkFits m n (meant_name a t bytes w)
name_fits m n Name t bytes w b = let u = untouched m n w b
    in record { drafts = u.drafts; reading = record { nodes = u.reading.nodes; short = u.reading.short }; rest = u.rest }
name_fits m n Short t bytes w b = let u = untouched m n w b
    in record { drafts = u.drafts; reading = record { nodes = u.reading.nodes; short = u.reading.short }; rest = u.rest }
name_fits m n Segment t bytes w b = record {
  drafts = b.drafts;
  reading = record {
    nodes = last_fits n (length w.rest) (with_segment bytes) w.reading.nodes (segment_fits n (length w.rest) bytes) b.nodes;
    short = omega (arith, b.short, length-last (with_segment bytes) w.reading.nodes);
  };
  rest = omega (arith, b.rest);
}
name_fits m n Step t bytes w b = record {
  drafts = b.drafts;
  reading = record {
    nodes = last_fits n (length w.rest) (with_step bytes) w.reading.nodes (step_fits n (length w.rest) bytes) b.nodes;
    short = omega (arith, b.short, length-last (with_step bytes) w.reading.nodes);
  };
  rest = omega (arith, b.rest);
}
name_fits m n other t bytes w b = pushed_fits m n _ _ w (begins_name t bytes w.reading)
    (record { some = omega arith; short = omega (arith, b.rest) }) refl refl b

operator_fits : (m n : ℕ) (a : Action) (o : Operator) (place : ℕ) (w : Walk) → Before m n w → WalkFits m n (meant_operator a o place w)
operator_fits m n Star o place w b = pushed_fits m n what.Star place w _ tt refl refl b
operator_fits m n other o place w b =
    let u = untouched m n w b in
    record { drafts = u.drafts; reading = record { nodes = u.reading.nodes; short = omega (arith, b.short) }; rest = u.rest }

leaf_fits : (n r : ℕ) (l : LeafWord) → WhatFits n r (leaf_node l)
leaf_fits n r (leaf.Boolean b) = tt
leaf_fits n r other = tt

marks_fit : (m n : ℕ) (f : Draft → Draft) (w : Walk) → ((d : Draft) → DraftFits n (length w.rest) d → DraftFits n (length w.rest) (f d)) → Before m n w
    → WalkFits m n (changed f w)
marks_fit m n f w on b = changed_fits m n f w on (untouched m n w b)

meant_fits : (m n : ℕ) (text : List ℕ) (a : Action) (means : Meaning) (t : Token) (w : Walk) → Before m n w → WalkFits m n (meant text a means t w)
meant_fits m n text a meaning.Nothing t w b = untouched m n w b
meant_fits m n text a (meaning.Mark x) t w b = marks_fit m n (λ d. record d { marks = marked x d.marks }) w
    (λ d h. same_parts n (length w.rest) d _ refl refl refl refl refl refl h) b
meant_fits m n text a (meaning.Direction way) t w b = marks_fit m n (λ d. record d { marks = record d.marks { direction = way } }) w
    (λ d h. same_parts n (length w.rest) d _ refl refl refl refl refl refl h) b
meant_fits m n text a (meaning.PartOf part) t w b = marks_fit m n (λ d. record d { marks = record d.marks { part_of = part } }) w
    (λ d h. same_parts n (length w.rest) d _ refl refl refl refl refl refl h) b
meant_fits m n text a (meaning.Visibility v) t w b =
    let u = untouched m n w b in
    record { drafts = u.drafts; reading = u.reading; rest = u.rest }
meant_fits m n text a (meaning.Kind k) t w b = marks_fit m n (λ d. record d { kind = k }) w
    (λ d h. same_parts n (length w.rest) d _ refl refl refl refl refl refl h) b
meant_fits m n text a meaning.Def t w b = marks_fit m n (λ d. record d { kind = definition_of d.kind }) w
    (λ d h. same_parts n (length w.rest) d _ refl refl refl refl refl refl h) b
meant_fits m n text a meaning.Comment t w b = marks_fit m n (λ d. record d { body = Some (comment_meaning (bytes_of text t)) }) w
    (λ d h. same_parts n (length w.rest) d _ refl refl refl refl refl refl h) b
meant_fits m n text a meaning.Text t w b = pushed_fits m n (what.Text (string_meaning (bytes_of text t))) t.from w _ tt refl refl b
meant_fits m n text a meaning.Integer t w b =
    let p = pushed_fits m n _ t.from w (meant_integer (number_from 0 (bytes_of text t)) t.from w).reading tt refl refl b in
    record { drafts = p.drafts; reading = p.reading; rest = p.rest }
meant_fits m n text a (meaning.Leaf l) t w b = pushed_fits m n (leaf_node l) t.from w _ (leaf_fits n (length w.rest) l) refl refl b
meant_fits m n text a meaning.Name t w b = name_fits m n a t (name_meaning (bytes_of text t)) w b
meant_fits m n text a meaning.Absolute t w b =
    let u = untouched m n w b in
    record { drafts = u.drafts; reading = record { nodes = u.reading.nodes; short = u.reading.short }; rest = u.rest }
meant_fits m n text a (meaning.Operator o) t w b = operator_fits m n a o t.from w b

-- A walk that goes on has no more tokens to come.

pub record FitsOn (m n : ℕ) (w v : Walk) : Type 0 where
  pub fits : WalkFits m n v
  pub fewer : length v.rest ≤ length w.rest

pub record IsSameRest (w v : Walk) : Type 0 where
  pub rest : v.rest ≡ w.rest

rest_name : (a : Action) (t : Token) (bytes : List ℕ) (w : Walk) → (meant_name a t bytes w).rest ≡ w.rest
rest_name Name t bytes w = refl
rest_name Short t bytes w = refl
rest_name Segment t bytes w = refl
rest_name Step t bytes w = refl
rest_name other t bytes w = refl

rest_operator : (a : Action) (o : Operator) (place : ℕ) (w : Walk) → (meant_operator a o place w).rest ≡ w.rest
rest_operator Star o place w = refl
rest_operator other o place w = refl

-- what a token means takes no further one
pub rest_meant : (text : List ℕ) (a : Action) (means : Meaning) (t : Token) (w : Walk) → (meant text a means t w).rest ≡ w.rest
rest_meant text a meaning.Name t w = rest_name a t (name_meaning (bytes_of text t)) w
rest_meant text a (meaning.Operator o) t w = rest_operator a o t.from w
rest_meant text a other t w = refl

taken_fits : (m n : ℕ) (tables : Tables) (text : List ℕ) (a : Action) (ts : List Token) (w : Walk) → ts ≡ w.rest → WalkFits m n w
    → FitsOn m n w (taken_from tables text a ts w)
taken_fits m n tables text a [] w is h = record { fits = h; fewer = omega arith }
taken_fits m n tables text a (t ∷ ts) w is h =
    let len : suc (length ts) ≡ length w.rest = ap length is in
    let means = meaning_of tables t.kind in
    let b : Before m n (record w { rest = ts }) = record {
      drafts = every_on (DraftFits n (length w.rest)) (DraftFits n (length ts)) w.elements
          (λ d k. draft_later n (length w.rest) (length ts) d (omega (arith, len)) k) h.drafts;
      nodes = nodes_later n (length w.rest) (suc (length ts)) w.reading.nodes (omega (arith, len)) h.reading.nodes;
      short = omega (arith, len, h.reading.short);
      rest = omega (arith, len, h.rest);
    } in
    record {
      fits = meant_fits m n text a means t (record w { rest = ts }) b;
      fewer = omega (arith, len, ap length (rest_meant text a means t (record w { rest = ts })));
    }

-- What an action does at its beginning and at its end. A Level begins with no sign waiting, and so with one fewer at most.

fresh_draft : (n r : ℕ) (k : Kind) (owner : Option ℕ) → r ≤ n → DraftFits n r (draft k owner)
fresh_draft n r k owner few = record {
  own = tt;
  specs = tt;
  bounds = tt;
  value = tt;
  result = tt;
  inner = tt;
  short_value = omega (arith, few);
  short_result =
      omega (arith, few);
}

reading_later : (m n r s : ℕ) (x : Reading) → s ≤ r → ReadingFits m n r x → ReadingFits m n s x
reading_later m n r s x le h = record { nodes = nodes_later n r s x.nodes le h.nodes; short = omega (arith, le, h.short) }

item_fits : (n r : ℕ) (i : Item) (d : Draft) → DraftFits n r d → DraftFits n r (with_item i d)
item_fits n r i d h = same_parts n r d (with_item i d) refl refl refl refl refl refl h

inner_fits : (n r : ℕ) (i : Item) (which : Role) (p : Path) (d : Draft) → NameFits n p → DraftFits n r d → DraftFits n r (with_inner i which p d)
inner_fits n r i which p d one h = record {
  own = h.own;
  specs = h.specs;
  bounds = h.bounds;
  value = h.value;
  result = h.result;
  inner = every_append (λ m. NameFits n m.path) d.inner (mention which p ∷ []) h.inner (one, tt);
  short_value = h.short_value;
  short_result = h.short_result;
}

spec_fits : (n r : ℕ) (which : Role) (x : Reading) (d : Draft) → is_own which ≡ true → NodesFit n r x.nodes → DraftFits n r d
    → DraftFits n r (record d { specs = d.specs ++ mentions which (names x.nodes) })
spec_fits n r which x d own nodes h = record {
  own = h.own;
  bounds = h.bounds;
  value = h.value;
  result = h.result;
  inner = h.inner;
  short_value = h.short_value;
  short_result = h.short_result;
  specs = every_append (SpecFits n r) d.specs (mentions which (names x.nodes)) h.specs
      (mentions_fit n r which (names x.nodes) own (names_fit n r x.nodes nodes));
}

given_fits : (m n : ℕ) (d : Taking) (f : Frame) (x : Reading) (w : Walk) → ReadingFits n n (length w.rest) x → WalkFits m n w → WalkFits m n (given d f x w)
given_fits m n taking.Subclass f x w r h = changed_fits m n _ w (λ d k. spec_fits n (length w.rest) role.Subclass x d refl r.nodes k) h
given_fits m n taking.Typing f x w r h = changed_fits m n _ w (λ d k. spec_fits n (length w.rest) role.Typing x d refl r.nodes k) h
given_fits m n taking.Subsetting f x w r h = changed_fits m n _ w (λ d k. spec_fits n (length w.rest) role.Subsetting x d refl r.nodes k) h
given_fits m n taking.Redefinition f x w r h = changed_fits m n _ w (λ d k. spec_fits n (length w.rest) role.Redefinition x d refl r.nodes k) h
given_fits m n taking.ReferenceSubsetting f x w r h = changed_fits m n _ w (λ d k. spec_fits n (length w.rest) role.ReferenceSubsetting x d refl r.nodes k) h
given_fits m n taking.Bounds f x w r h = changed_fits m n _ w (λ d k. record {
  own = k.own;
  specs = k.specs;
  bounds = r.nodes;
  value = k.value;
  result = k.result;
  inner = k.inner;
  short_value = k.short_value;
  short_result = k.short_result;
}) h
given_fits m n taking.Value f x w r h = changed_fits m n _ w (λ d k. record {
  own = k.own;
  specs = k.specs;
  bounds = k.bounds;
  value = r.nodes;
  result = k.result;
  inner = k.inner;
  short_value = omega (arith, r.short);
  short_result = k.short_result;
}) h
given_fits m n taking.Result f x w r h = changed_fits m n _ w (λ d k. record {
  own = k.own;
  specs = k.specs;
  bounds = k.bounds;
  value = k.value;
  result = r.nodes;
  inner = k.inner;
  short_value = k.short_value;
  short_result = omega (arith, r.short);
}) h
given_fits m n taking.Alias f x w r h =
    let c = changed_fits m n (with_inner (item.Member (length w.members)) role.Alias (first_name (names x.nodes))) w
    (λ d k. inner_fits n (length w.rest) _ role.Alias _ d (first_fits n (length w.rest) (names x.nodes) (names_fit n (length w.rest) x.nodes r.nodes)) k)
    h in
    record { drafts = c.drafts; reading = c.reading; rest = c.rest }
given_fits m n taking.Import f x w r h =
    let c = changed_fits m n (with_inner (item.Import (length w.imports)) role.Import (path_or f.place (names x.nodes))) w
    (λ d k. inner_fits n (length w.rest) _ role.Import _ d
    (path_fits n (length w.rest) f.place (names x.nodes) (names_fit n (length w.rest) x.nodes r.nodes)) k) h in
    record { drafts = c.drafts; reading = c.reading; rest = c.rest }

-- nor does what is given to an element
pub rest_given : (d : Taking) (f : Frame) (x : Reading) (w : Walk) → (given d f x w).rest ≡ w.rest
rest_given d f x w = elim d as (λ d. (given d f x w).rest ≡ w.rest) [
  | taking.Subclass ↦ refl
  | taking.Typing ↦ refl
  | taking.Subsetting ↦ refl
  | taking.Redefinition ↦ refl
  | taking.ReferenceSubsetting ↦ refl
  | taking.Bounds ↦ refl
  | taking.Value ↦ refl
  | taking.Result ↦ refl
  | taking.Alias ↦ refl
  | taking.Import ↦ refl
]

-- a production, where what is said of the walk below it is known
node_fits : (m n : ℕ) (a : Action) (w v : Walk) → m ≤ n → WalkFits m n w → ((k : ℕ) → k ≤ n → WalkFits k n (entered a w) → FitsOn k n (entered a w) v)
    → FitsOn m n w (left a (saved a w) v)
node_fits m n (Element k) w v le h on =
    let e : WalkFits n n (entered (Element k) w) = record {
      drafts = every_append (DraftFits n (length w.rest)) _ _
          (every_adjusted (DraftFits n (length w.rest)) w.current (with_item (item.Member (length w.members))) w.elements
          (λ d x. item_fits n (length w.rest) (item.Member (length w.members)) d x) h.drafts) (fresh_draft n (length w.rest) k (Some w.current) h.rest, tt);
      reading = record { nodes = tt; short = omega (arith, h.rest) };
      rest = h.rest;
    } in
    let b = on n (omega arith) e in
    let c = changed_fits n n (named v.reading) v (λ d x. record {
      own = names_fit n (length v.rest) v.reading.nodes b.fits.reading.nodes;
      specs = x.specs;
      bounds = x.bounds;
      value = x.value;
      result = x.result;
      inner = x.inner;
      short_value = x.short_value;
      short_result = x.short_result;
    }) b.fits in
    record {
      fits = record { drafts = c.drafts; reading = reading_later m n (length w.rest) (length v.rest) w.reading b.fewer h.reading; rest = b.fits.rest };
      fewer = b.fewer;
    }
node_fits m n (Take d) w v le h on =
    let b = on n (omega arith) (record { drafts = h.drafts; reading = record { nodes = tt; short = omega (arith, h.rest) }; rest = h.rest }) in
    record {
      fits = given_fits m n d (saved (Take d) w) v.reading (record v { reading = w.reading }) b.fits.reading
          (record { drafts = b.fits.drafts; reading = reading_later m n (length w.rest) (length v.rest) w.reading b.fewer h.reading; rest = b.fits.rest });
      fewer = omega (arith, b.fewer, ap length (rest_given d (saved (Take d) w) v.reading (record v { reading = w.reading })));
    }
node_fits m n NamedEnd w v le h on =
    let b = on m le (record { drafts = h.drafts; reading = record { nodes = tt; short = omega (arith, h.reading.short) }; rest = h.rest }) in
    record { fits = b.fits; fewer = b.fewer }
node_fits m n Level w v le h on =
    let b = on (m - waits w.reading.operator) (omega (arith, le))
    (record { drafts = h.drafts; reading = record { nodes = h.reading.nodes; short = omega (arith, h.reading.short) }; rest = h.rest }) in
    let x = applied_adds n (length v.rest) v.reading.nodes v.reading.operator b.fits.reading.nodes in
    record {
      fits = record {
        drafts = b.fits.drafts;
        reading = record { nodes = x.fits; short = omega (arith, x.short, b.fits.reading.short, h.reading.short) };
        rest =
            b.fits.rest;
      };
      fewer = b.fewer;
    }
node_fits m n Tail w v le h on =
    let x = joined_adds n (length w.rest) w.reading.nodes w.reading.operator h.reading.nodes in
    let b = on m le (record { drafts = h.drafts; reading = record { nodes = x.fits; short = omega (arith, x.short, h.reading.short) }; rest = h.rest }) in
    record { fits = b.fits; fewer = b.fewer }
node_fits m n other w v le h on =
    let b = on m le h in
    record { fits = b.fits; fewer = b.fewer }

-- a walk keeps all fitting, and takes tokens alone
pub walk_fits : (m n : ℕ) (t : Tables) (text : List ℕ) (a : Action) (f : Forest) (w : Walk) → m ≤ n → WalkFits m n w → FitsOn m n w (walk t text a f w)
walk_fits m n t text a Nothing w le h = record { fits = h; fewer = omega arith }
walk_fits m n t text a (Leaf k rest) w le h =
    let s = taken_fits m n t text a w.rest w refl h in
    let r = walk_fits m n t text a rest (taken t text a w) le s.fits in
    record { fits = r.fits; fewer = omega (arith, s.fewer, r.fewer) }
walk_fits m n t text a (Node p below rest) w le h =
    let b = action_at t p in
    let v = walk t text b below (entered b w) in
    let l = node_fits m n b w v le h (λ k low e. walk_fits k n t text b below (entered b w) low e) in
    let r = walk_fits m n t text a rest (left b (saved b w) v) le l.fits in
    record { fits = r.fits; fewer = omega (arith, l.fewer, r.fewer) }

-- an action takes no token at its beginning or at its end
pub rest_entered : (a : Action) (w : Walk) → (entered a w).rest ≡ w.rest
rest_entered (Element k) w = refl
rest_entered (Take d) w = refl
rest_entered NamedEnd w = refl
rest_entered Level w = refl
rest_entered Tail w = refl
rest_entered other w = refl

-- nor at its end
pub rest_left : (a : Action) (f : Frame) (w : Walk) → (left a f w).rest ≡ w.rest
rest_left (Element k) f w = refl
rest_left (Take d) f w = rest_given d f w.reading (record w { reading = f.reading })
rest_left other f w = refl
