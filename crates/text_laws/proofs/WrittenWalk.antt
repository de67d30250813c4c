-- The walk over any forest makes the elements that are written, in preorder, and each takes its own tokens.
use Rattle.std.proofs.Common.{◌≡◌, ℕ, zero, suc, ◌+◌, ◌<◌, List, [], ◌∷◌, ◌++◌, length, take, drop, refl, ap, sym, subst, ◌∙◌, arith, length-append, append_assoc, append-nil}
use Rattle.std.specs.Prelude.{map, Option, Some, None}
use Rattle.std.proofs.lemmas.List.{map-append, length-map, drop-drop}
use Rattle.element_store.specs.declared.kind.Kind.{Kind}
use Rattle.element_store.specs.declared.kind.Marks.{Marks}
use Rattle.element_store.specs.declared.lists.Item.TheVariants as item
use Rattle.element_store.specs.declared.outcome.Role.TheVariants as role
use Rattle.element_store.specs.Model.{no_marks}
use Rattle.token_core.specs.declared.token.Token.{Token}
use Rattle.token_core.specs.Reading.{bytes_of, name_meaning}
use Rattle.ll_core.specs.Derives.{Forest, Nothing, Token as Leaf, Node, tokens as kinds_in}
use Rattle.text_model.specs.declared.action.Action.{Action}
use Rattle.text_model.specs.declared.action.Action.TheVariants.{Name, Short, Segment, Step, Star, NamedEnd, Element, Take, Level, Tail}
use Rattle.text_model.specs.declared.action.Taking.{Taking}
use Rattle.text_model.specs.declared.action.Taking.TheVariants as taking
use Rattle.text_model.specs.declared.action.Operator.{Operator}
use Rattle.text_model.specs.declared.action.Meaning.{Meaning}
use Rattle.text_model.specs.declared.action.Meaning.TheVariants as meaning
use Rattle.text_model.specs.declared.draft.Draft.{Draft}
use Rattle.text_model.specs.declared.draft.Reading.{Reading}
use Rattle.text_model.specs.Tables.{Tables, action_at, meaning_of}
use Rattle.text_model.specs.Drafts.{draft, names, first_name, path_or, adjusted, marked, definition_of}
use Rattle.text_model.specs.Walk.{Walk, Frame, saved, with_item, with_inner, entered, named, given, left, meant_name, meant_operator, meant, taken_from, taken, walk, comment_meaning}
use Rattle.text_laws.specs.Written.{Written, behind, own_tokens, unless_element, element_of, inner_owner, elements_in}
use Rattle.text_laws.proofs.ListLemmas.{length-adjusted, map-adjusted, map-adjusted_same}
use Rattle.text_laws.proofs.CoherenceLaws.{alike_from}
use Rattle.text_laws.proofs.FittingLaws.{rest_meant, rest_entered, rest_left}

-- what own tokens speak of
pub record Said : Type 0 where
  pub owner : Option ℕ
  pub kind : Kind
  pub marks : Marks
  pub body : Option (List ℕ)

-- what a draft has of that
abbrev pub said : Draft → Said
said d = record { owner = d.owner; kind = d.kind; marks = d.marks; body = d.body }

-- what a token of this meaning says of its element
abbrev pub says : List ℕ → Meaning → Token → Said → Said
says text (meaning.Mark m) x s = record s { marks = marked m s.marks }
says text (meaning.Direction way) x s = record s { marks = record s.marks { direction = way } }
says text (meaning.PartOf part) x s = record s { marks = record s.marks { part_of = part } }
says text (meaning.Kind k) x s = record s { kind = k }
says text meaning.Def x s = record s { kind = definition_of s.kind }
says text meaning.Comment x s = record s { body = Some (comment_meaning (bytes_of text x)) }
says text other x s = s

-- what tokens say one after the other
abbrev pub say : Tables → List ℕ → List Token → Said → Said
say t text [] s = s
say t text (x ∷ xs) s = say t text xs (says text (meaning_of t x.kind) x s)

-- an element as it is written, before its own tokens and behind them
abbrev pub begun : Written → Said
begun w = record { owner = w.owner; kind = w.kind; marks = no_marks; body = None }

-- behind its own tokens
abbrev pub finished : Tables → List ℕ → Written → Said
finished t text w = say t text w.own (begun w)

say-append : (t : Tables) (text : List ℕ) (xs ys : List Token) (s : Said) → say t text (xs ++ ys) s ≡ say t text ys (say t text xs s)
say-append t text [] ys s = refl
say-append t text (x ∷ xs) ys s = say-append t text xs ys (says text (meaning_of t x.kind) x s)

-- Lists with one item changed.

adjusted_none : {A : Type 0} (c : ℕ) (f : A → A) (xs : List A) → ((x : A) → f x ≡ x) → adjusted c f xs ≡ xs
adjusted_none c f [] same = refl
adjusted_none zero f (x ∷ xs) same = ap (λ y. y ∷ xs) (same x)
adjusted_none (suc c) f (x ∷ xs) same = ap (λ ys. x ∷ ys) (adjusted_none c f xs same)

adjusted_twice : {A : Type 0} (c : ℕ) (f g h : A → A) (xs : List A) → ((x : A) → g (f x) ≡ h x) → adjusted c g (adjusted c f xs) ≡ adjusted c h xs
adjusted_twice c f g h [] same = refl
adjusted_twice zero f g h (x ∷ xs) same = ap (λ y. y ∷ xs) (same x)
adjusted_twice (suc c) f g h (x ∷ xs) same = ap (λ ys. x ∷ ys) (adjusted_twice c f g h xs same)

adjusted_front : {A : Type 0} (c : ℕ) (f : A → A) (xs ys : List A) → c < length xs → adjusted c f (xs ++ ys) ≡ adjusted c f xs ++ ys
adjusted_front c f [] ys below = absurd (omega (arith, below))
adjusted_front zero f (x ∷ xs) ys below = refl
adjusted_front (suc c) f (x ∷ xs) ys below = ap (λ zs. x ∷ zs) (adjusted_front c f xs ys (omega (arith, below)))

adjusted_last : {A : Type 0} (f : A → A) (xs : List A) (y : A) (c : ℕ) → c ≡ length xs → adjusted c f (xs ++ y ∷ []) ≡ xs ++ f y ∷ []
adjusted_last f [] y c is = subst (λ n. adjusted n f (y ∷ []) ≡ f y ∷ []) (sym is) refl
adjusted_last f (x ∷ xs) y c is = subst (λ n. adjusted n f (x ∷ (xs ++ y ∷ [])) ≡ x ∷ (xs ++ f y ∷ [])) (sym is)
    (ap (λ zs. x ∷ zs) (adjusted_last f xs y (length xs) refl))

-- From one walk to another: the open element took these own tokens, and these elements are new.
pub record Goes (t : Tables) (text : List ℕ) (w v : Walk) (own : List Token) (more : List Said) : Type 0 where
  pub said : map said v.elements ≡ adjusted w.current (say t text own) (map said w.elements) ++ more
  pub current : v.current ≡ w.current

length_gone : (t : Tables) (text : List ℕ) (w v : Walk) (own : List Token) (more : List Said) → Goes t text w v own more
    → length v.elements ≡ length w.elements + length more
length_gone t text w v own more g =
    omega (
      arith,
      ap length g.said,
      length-append (adjusted w.current (say t text own) (map said w.elements)) more,
      length-adjusted w.current (say t text own) (map said w.elements),
      length-map v.elements said,
      length-map w.elements said,
    )

-- one after the other
goes_through : (t : Tables) (text : List ℕ) (w v u : Walk) (own also_ : List Token) (more others : List Said) → w.current < length w.elements
    → Goes t text w v own more → Goes t text v u also_ others → Goes t text w u (own ++ also_) (more ++ others)
goes_through t text w v u own also_ more others open_ g h =
    let c = w.current in
    let ws = map said w.elements in
    let taken_ = adjusted c (say t text own) ws in
    let below : c < length taken_ = omega (arith, open_, length-adjusted c (say t text own) ws, length-map w.elements said) in
    record {
      said = h.said ∙ (ap (λ k. adjusted k (say t text also_) (map said v.elements) ++ others) g.current
          ∙ (ap (λ xs. adjusted c (say t text also_) xs ++ others) g.said
          ∙ (ap (λ xs. xs ++ others) (adjusted_front c (say t text also_) taken_ more below
          ∙ ap (λ xs. xs ++ more) (adjusted_twice c (say t text own) (say t text also_) (say t text (own ++ also_)) ws
          (λ s. sym (say-append t text own also_ s))))
          ∙ append_assoc (adjusted c (say t text (own ++ also_)) ws) more others)));
      current = h.current ∙ g.current;
    }

-- a step that says nothing
goes_still : (t : Tables) (text : List ℕ) (w v : Walk) → map said v.elements ≡ map said w.elements → v.current ≡ w.current → Goes t text w v [] []
goes_still t text w v same current = record {
  said = same ∙ (sym (adjusted_none w.current (say t text []) (map said w.elements) (λ s. refl))
      ∙ sym (append-nil (adjusted w.current (say t text []) (map said w.elements))));
  current = current;
}

-- A token.

-- a name changes no element
pub elements_name : (a : Action) (x : Token) (bytes : List ℕ) (w : Walk) → (meant_name a x bytes w).elements ≡ w.elements
elements_name Name x bytes w = refl
elements_name Short x bytes w = refl
elements_name Segment x bytes w = refl
elements_name Step x bytes w = refl
elements_name other x bytes w = refl

-- nor does an operator
pub elements_operator : (a : Action) (o : Operator) (place : ℕ) (w : Walk) → (meant_operator a o place w).elements ≡ w.elements
elements_operator Star o place w = refl
elements_operator other o place w = refl

said_meant : (text : List ℕ) (a : Action) (m : Meaning) (x : Token) (w : Walk)
    → map said (meant text a m x w).elements ≡ adjusted w.current (says text m x) (map said w.elements)
said_meant text a (meaning.Mark m) x w = map-adjusted said (says text (meaning.Mark m) x) w.current _ w.elements (λ d. refl)
said_meant text a (meaning.Direction way) x w = map-adjusted said (says text (meaning.Direction way) x) w.current _ w.elements (λ d. refl)
said_meant text a (meaning.PartOf part) x w = map-adjusted said (says text (meaning.PartOf part) x) w.current _ w.elements (λ d. refl)
said_meant text a (meaning.Kind k) x w = map-adjusted said (says text (meaning.Kind k) x) w.current _ w.elements (λ d. refl)
said_meant text a meaning.Def x w = map-adjusted said (says text meaning.Def x) w.current _ w.elements (λ d. refl)
said_meant text a meaning.Comment x w = map-adjusted said (says text meaning.Comment x) w.current _ w.elements (λ d. refl)
said_meant text a meaning.Name x w = ap (map said) (elements_name a x (name_meaning (bytes_of text x)) w)
    ∙ sym (adjusted_none w.current (says text meaning.Name x) (map said w.elements) (λ s. refl))
said_meant text a (meaning.Operator o) x w = ap (map said) (elements_operator a o x.from w)
    ∙ sym (adjusted_none w.current (says text (meaning.Operator o) x) (map said w.elements) (λ s. refl))
said_meant text a other x w = sym (adjusted_none w.current (says text other x) (map said w.elements) (λ s. refl))

taken_goes : (t : Tables) (text : List ℕ) (a : Action) (ts : List Token) (w : Walk) → Goes t text w (taken_from t text a ts w) (take 1 ts) []
taken_goes t text a [] w = goes_still t text w w refl refl
taken_goes t text a (x ∷ ts) w = record {
  said = said_meant text a (meaning_of t x.kind) x (record w { rest = ts })
      ∙ sym (append-nil (adjusted w.current (says text (meaning_of t x.kind) x) (map said w.elements)));
  current = (alike_from t text a (x ∷ ts) w).current;
}

-- one token fewer is to come
pub taken_rest : (t : Tables) (text : List ℕ) (a : Action) (ts : List Token) (w : Walk) → ts ≡ w.rest → (taken_from t text a ts w).rest ≡ drop 1 ts
taken_rest t text a [] w is = sym is
taken_rest t text a (x ∷ ts) w is = rest_meant text a (meaning_of t x.kind) x (record w { rest = ts })

-- The end of a production.

said_given : (d : Taking) (f : Frame) (r : Reading) (w : Walk) → map said (given d f r w).elements ≡ map said w.elements
said_given taking.Alias f r w = map-adjusted_same said w.current (with_inner (item.Member (length w.members)) role.Alias (first_name (names r.nodes)))
    w.elements (λ d. refl)
said_given taking.Import f r w = map-adjusted_same said w.current
    (with_inner (item.Import (length w.imports)) role.Import (path_or f.place (names r.nodes))) w.elements (λ d. refl)
said_given other f r w = map-adjusted_same said w.current _ w.elements (λ d. refl)

-- the open element stays open
pub current_given : (d : Taking) (f : Frame) (r : Reading) (w : Walk) → (given d f r w).current ≡ w.current
current_given taking.Alias f r w = refl
current_given taking.Import f r w = refl
current_given other f r w = refl

-- a production and what stands below it, where that walk is known
node_goes : (t : Tables) (text : List ℕ) (a : Action) (w v : Walk) (own : List Token) (more : List Written)
    → Goes t text (entered a w) v own (map (finished t text) more)
    → Goes t text w (left a (saved a w) v) (unless_element a own) (map (finished t text) (element_of a w.current own ++ more))
node_goes t text (Element k) w v own more g =
    let es = adjusted w.current (with_item (item.Member (length w.members))) w.elements in
    let ws = map said w.elements in
    let x : Said = begun (record { owner = Some w.current; kind = k; own = own }) in
    let before : map said (entered (Element k) w).elements ≡ ws ++ x ∷ [] =
    map-append said es (draft k (Some w.current) ∷ [])
    ∙ ap (λ xs. xs ++ x ∷ []) (map-adjusted_same said w.current (with_item (item.Member (length w.members))) w.elements (λ d. refl)) in
    let took = adjusted_last (say t text own) ws x (length w.elements) (sym (length-map w.elements said)) in
    record {
      said = map-adjusted_same said v.current (named v.reading) v.elements (λ d. refl)
          ∙ (g.said ∙ (ap (λ xs. adjusted (length w.elements) (say t text own) xs ++ map (finished t text) more) before
          ∙ (ap (λ xs. xs ++ map (finished t text) more) took
          ∙ (append_assoc ws (say t text own x ∷ []) (map (finished t text) more)
          ∙ ap (λ xs. xs ++ (say t text own x ∷ map (finished t text) more))
          (sym (adjusted_none w.current (say t text []) ws (λ s. refl)))))));
      current = refl;
    }
node_goes t text (Take d) w v own more g = record {
  said = said_given d (saved (Take d) w) v.reading (record v { reading = w.reading }) ∙ g.said;
  current = current_given d (saved (Take d) w) v.reading (record v { reading = w.reading }) ∙ g.current;
}
node_goes t text NamedEnd w v own more g = record { said = g.said; current = g.current }
node_goes t text Level w v own more g = record { said = g.said; current = g.current }
node_goes t text Tail w v own more g = record { said = g.said; current = g.current }
node_goes t text other w v own more g = record { said = g.said; current = g.current }

-- the element that is open below, and how many elements there are then
pub current_entered : (a : Action) (w : Walk) → (entered a w).current ≡ inner_owner a w.current (length w.elements)
current_entered (Element k) w = refl
current_entered (Take d) w = refl
current_entered NamedEnd w = refl
current_entered Level w = refl
current_entered Tail w = refl
current_entered other w = refl

-- how many elements there are below a production
pub length_entered : (a : Action) (w : Walk) (own : List Token) → length (entered a w).elements ≡ length w.elements + length (element_of a w.current own)
length_entered (Element k) w own =
    omega (
      arith,
      length-append (adjusted w.current (with_item (item.Member (length w.members))) w.elements) (draft k (Some w.current) ∷ []),
      length-adjusted w.current (with_item (item.Member (length w.members))) w.elements,
    )
length_entered (Take d) w own = omega arith
length_entered NamedEnd w own = omega arith
length_entered Level w own = omega arith
length_entered Tail w own = omega arith
length_entered other w own = omega arith

-- and one of them is open
pub open_entered : (a : Action) (w : Walk) → w.current < length w.elements → (entered a w).current < length (entered a w).elements
open_entered (Element k) w below =
    omega (
      arith,
      length-append (adjusted w.current (with_item (item.Member (length w.members))) w.elements) (draft k (Some w.current) ∷ []),
      length-adjusted w.current (with_item (item.Member (length w.members))) w.elements,
    )
open_entered (Take d) w below = below
open_entered NamedEnd w below = below
open_entered Level w below = below
open_entered Tail w below = below
open_entered other w below = below

-- The walk.

-- the walk makes the elements that the forest writes, and takes its tokens
pub record Writes (t : Tables) (text : List ℕ) (w v : Walk) (f : Forest) : Type 0 where
  pub goes : Goes t text w v (own_tokens t f w.rest) (map (finished t text) (elements_in t w.current (length w.elements) f w.rest))
  pub rest : v.rest ≡ behind f w.rest

-- each walk over each forest does
pub walk_writes : (t : Tables) (text : List ℕ) (a : Action) (f : Forest) (w : Walk) → w.current < length w.elements
    → Writes t text w (walk t text a f w) f
walk_writes t text a Nothing w open_ = record { goes = goes_still t text w w refl refl; rest = refl }
walk_writes t text a (Leaf k f) w open_ =
    let v = taken t text a w in
    let s : Goes t text w v (take 1 w.rest) [] = taken_goes t text a w.rest w in
    let rest : v.rest ≡ drop 1 w.rest = taken_rest t text a w.rest w refl in
    let long : length v.elements ≡ length w.elements = omega (arith, length_gone t text w v (take 1 w.rest) [] s) in
    let h = walk_writes t text a f v (omega (arith, open_, long, s.current)) in
    let u = walk t text a f v in
    let h1 = subst (λ ts. Goes t text v u (own_tokens t f ts) (map (finished t text) (elements_in t v.current (length v.elements) f ts))) rest h.goes in
    let h2 = subst (λ n. Goes t text v u (own_tokens t f (drop 1 w.rest)) (map (finished t text) (elements_in t v.current n f (drop 1 w.rest)))) long h1 in
    let one_more : 1 + length (kinds_in f) ≡ suc (length (kinds_in f)) = omega arith in
    let h3 = subst (λ c. Goes t text v u (own_tokens t f (drop 1 w.rest))
    (map (finished t text) (elements_in t c (length w.elements) f (drop 1 w.rest)))) s.current h2 in
    record {
      goes = goes_through t text w v u (take 1 w.rest) (own_tokens t f (drop 1 w.rest)) [] _ open_ s h3;
      rest = h.rest ∙ (ap (behind f) rest ∙ (drop-drop (length (kinds_in f)) 1 w.rest ∙ ap (λ n. drop n w.rest) one_more));
    }
walk_writes t text a (Node p below f) w open_ =
    let b = action_at t p in
    let e = entered b w in
    let v = walk t text b below e in
    let l = left b (saved b w) v in
    let own = own_tokens t below w.rest in
    let here = element_of b w.current own in
    let inner = elements_in t (inner_owner b w.current (length w.elements)) (length w.elements + length here) below w.rest in
    let i = walk_writes t text b below e (open_entered b w open_) in
    let i1 = subst (λ ts. Goes t text e v (own_tokens t below ts) (map (finished t text) (elements_in t e.current (length e.elements) below ts)))
    (rest_entered b w) i.goes in
    let i2 = subst (λ n. Goes t text e v own (map (finished t text) (elements_in t e.current n below w.rest))) (length_entered b w own) i1 in
    let i3 = subst (λ c. Goes t text e v own (map (finished t text) (elements_in t c (length w.elements + length here) below w.rest)))
    (current_entered b w) i2 in
    let s : Goes t text w l (unless_element b own) (map (finished t text) (here ++ inner)) = node_goes t text b w v own inner i3 in
    let rest : l.rest ≡ behind below w.rest = rest_left b (saved b w) v ∙ (i.rest ∙ ap (behind below) (rest_entered b w)) in
    let long : length l.elements ≡ length w.elements + length here + length inner =
    omega (
      arith,
      length_gone t text w l (unless_element b own) (map (finished t text) (here ++ inner)) s,
      length-map (here ++ inner) (finished t text),
      length-append here inner,
    ) in
    let h = walk_writes t text a f l (omega (arith, open_, long, s.current)) in
    let u = walk t text a f l in
    let ts = behind below w.rest in
    let n = length w.elements + length here + length inner in
    let h1 = subst (λ xs. Goes t text l u (own_tokens t f xs) (map (finished t text) (elements_in t l.current (length l.elements) f xs))) rest h.goes in
    let h2 = subst (λ k. Goes t text l u (own_tokens t f ts) (map (finished t text) (elements_in t l.current k f ts))) long h1 in
    let h3 = subst (λ c. Goes t text l u (own_tokens t f ts) (map (finished t text) (elements_in t c n f ts))) s.current h2 in
    let both = goes_through t text w l u (unless_element b own) (own_tokens t f ts) (map (finished t text) (here ++ inner))
    (map (finished t text) (elements_in t w.current n f ts)) open_ s h3 in
    let joined : map (finished t text) (here ++ inner) ++ map (finished t text) (elements_in t w.current n f ts)
    ≡ map (finished t text) (here ++ (inner ++ elements_in t w.current n f ts)) =
    sym (map-append (finished t text) (here ++ inner) (elements_in t w.current n f ts))
    ∙ ap (map (finished t text)) (append_assoc here inner (elements_in t w.current n f ts)) in
    record {
      goes = subst (Goes t text w u (unless_element b own ++ own_tokens t f ts)) joined both;
      rest = h.rest ∙ (ap (behind f) rest ∙ (drop-drop (length (kinds_in f)) (length (kinds_in below)) w.rest
          ∙ ap (λ n. drop n w.rest) (sym (length-append (kinds_in below) (kinds_in f)))));
    }

-- how many elements there are then
pub length_written : (t : Tables) (text : List ℕ) (w v : Walk) (f : Forest) → Writes t text w v f
    → length v.elements ≡ length w.elements + length (elements_in t w.current (length w.elements) f w.rest)
length_written t text w v f h =
    length_gone t text w v (own_tokens t f w.rest) (map (finished t text) (elements_in t w.current (length w.elements) f w.rest)) h.goes
    ∙ ap (λ k. length w.elements + k) (length-map (elements_in t w.current (length w.elements) f w.rest) (finished t text))
