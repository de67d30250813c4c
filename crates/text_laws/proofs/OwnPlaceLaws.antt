-- References stand at own tokens of their elements.
use Rattle.std.proofs.Common.{◌≡◌, inl, inr, ℕ, zero, suc, ◌+◌, ◌<◌, ◌≤◌, List, [], ◌∷◌, ◌++◌, length, take, drop, refl, ap, sym, subst, ◌∙◌, arith, length-append, append_assoc, append-nil}
use Rattle.std.specs.Prelude.{map, slice_get, Option, Some}
use Rattle.std.proofs.lemmas.List.{map-append, length-map}
use Rattle.linker_base.specs.Members.{IsMember}
use Rattle.linker_base.proofs.Lists.{get_seam}
use Rattle.element_store.specs.declared.lists.Item.TheVariants as item
use Rattle.element_store.specs.declared.outcome.Role.{Role}
use Rattle.element_store.specs.declared.outcome.Role.TheVariants as role
use Rattle.element_store.specs.Model.{Data}
use Rattle.token_core.specs.declared.token.Token.{Token}
use Rattle.token_core.specs.Reading.{bytes_of, name_meaning}
use Rattle.ll_core.specs.Derives.{Forest, Nothing, Token as Leaf, Node as Branch, tokens as kinds_in}
use Rattle.text_model.specs.declared.action.Action.{Action}
use Rattle.text_model.specs.declared.action.Action.TheVariants as action
use Rattle.text_model.specs.declared.action.Taking.{Taking}
use Rattle.text_model.specs.declared.action.Taking.TheVariants as taking
use Rattle.text_model.specs.declared.action.Operator.{Operator}
use Rattle.text_model.specs.declared.action.Meaning.{Meaning}
use Rattle.text_model.specs.declared.action.Meaning.TheVariants as meaning
use Rattle.text_model.specs.declared.draft.Path.{Path}
use Rattle.text_model.specs.declared.draft.Mention.{Mention}
use Rattle.text_model.specs.declared.draft.DraftNode.{DraftNode}
use Rattle.text_model.specs.declared.draft.DraftExpr.{DraftExpr}
use Rattle.text_model.specs.declared.draft.Draft.{Draft}
use Rattle.text_model.specs.declared.draft.Reading.{Reading}
use Rattle.text_model.specs.Tables.{Tables, tables, action_at, meaning_of}
use Rattle.text_model.specs.Drafts.{draft, name_in, names, first_name, path_or, mention, mentions, own_role, adjusted}
use Rattle.text_model.specs.Walk.{Walk, Frame, saved, with_item, entered, specialised, expression, named, given, left, meant_name, meant_operator, meant, taken_from, taken, walk}
use Rattle.text_model.specs.Numbering.{nodes_of, ends, own_mentions, bound_mentions, value_mentions, head, mentions_of, reference, references_from, reference_places, model_of}
use Rattle.text_model.specs.Profile.{drafts_of, start}
use Rattle.text_laws.specs.Coherent.{EachFrom}
use Rattle.text_laws.specs.Fits.{Every}
use Rattle.text_laws.specs.Written.{Written, written, own_tokens, unless_element, element_of, inner_owner, elements_in, behind, OneByOne}
use Rattle.text_laws.specs.OwnPlaces.{IsOwnPlace, StandsAtOwn, ReferencesStandAtOwn}
use Rattle.text_laws.proofs.ListLemmas.{map-adjusted, map-adjusted_same, each_adjusted, each_push}
use Rattle.text_laws.proofs.FittingLaws.{every_append, every_front, every_back, rest_entered}
use Rattle.text_laws.proofs.ReadingLaws.{NamesAt, ReadAt, joined_at, applied_at, meant_at, none_read, reading_given}
use Rattle.text_laws.proofs.WrittenWalk.{said, finished, elements_name, elements_operator, current_given, walk_writes, length_written, current_entered, length_entered, open_entered}
use Rattle.text_laws.proofs.OutcomeLaws.{same_drafts}
use Rattle.token_core.specs.Lex.{Lex}
use Rattle.token_core.specs.Terminals.{HasNumber}
use Rattle.ll_core.specs.declared.grammar.Symbol.TheVariants.{Inner}
use Rattle.text_model.specs.Languages.{grammar_of}
use Rattle.text_laws.proofs.TokenLaws.{tokens_fit}
use Rattle.text_laws.proofs.WholeLaws.{IsAt}
use Rattle.text_laws.proofs.ItemNames.{name_claims, names_hold, ItemNamed, ItemsNamed, items_named}
use Rattle.text_laws.proofs.WrittenLaws.{drafts_written}

-- What an element keeps of names.

pub record Parts : Type 0 where
  pub own : List Path
  pub specs : List Mention
  pub bounds : List DraftNode
  pub value : Option DraftExpr
  pub result : Option DraftExpr
  pub inner : List Mention

abbrev pub parts : Draft → Parts
parts d = record { own = d.own; specs = d.specs; bounds = d.bounds; value = d.value; result = d.result; inner = d.inner }

pub record PartsAt (A : ℕ → ℕ → Type 0) (e : ℕ) (s : Parts) : Type 0 where
  pub own : Every (λ p. A e p.place) s.own
  pub specs : Every (λ m. A e m.path.place) s.specs
  pub bounds : NamesAt (A e) s.bounds
  pub value : NamesAt (A e) (nodes_of s.value)
  pub result : NamesAt (A e) (nodes_of s.result)
  pub inner : Every (λ m. A e m.path.place) s.inner

-- of all elements, and of what is read of the open one
pub record WalkAt (A : ℕ → ℕ → Type 0) (w : Walk) : Type 0 where
  pub parts : EachFrom (PartsAt A) 0 (map parts w.elements)
  pub reading : ReadAt (A w.current) w.reading

mentions_at : (B : ℕ → Type 0) (which : Role) (ps : List Path) → Every (λ p. B p.place) ps → Every (λ m. B m.path.place) (mentions which ps)
mentions_at B which [] h = tt
mentions_at B which (p ∷ ps) h = (h.0, mentions_at B which ps h.1)

-- the open element's parts changed, to parts that may stand there
parts_changed : (A : ℕ → ℕ → Type 0) (f : Draft → Draft) (g : Parts → Parts) (w : Walk) → ((d : Draft) → parts (f d) ≡ g (parts d))
    → ((s : Parts) → PartsAt A w.current s → PartsAt A w.current (g s)) → EachFrom (PartsAt A) 0 (map parts w.elements)
    → EachFrom (PartsAt A) 0 (map parts (adjusted w.current f w.elements))
parts_changed A f g w same on h =
    subst (EachFrom (PartsAt A) 0) (sym (map-adjusted parts g w.current f w.elements same))
    (each_adjusted (PartsAt A) (PartsAt A) g w.current 0 w.current (map parts w.elements) (omega arith) (λ e x other p. p) (λ x at p. on x p) h)

parts_same : (A : ℕ → ℕ → Type 0) (f : Draft → Draft) (w : Walk) → ((d : Draft) → parts (f d) ≡ parts d) → EachFrom (PartsAt A) 0 (map parts w.elements)
    → EachFrom (PartsAt A) 0 (map parts (adjusted w.current f w.elements))
parts_same A f w same h = subst (EachFrom (PartsAt A) 0) (sym (map-adjusted_same parts w.current f w.elements same)) h

parts_meant : (text : List ℕ) (a : Action) (m : Meaning) (t : Token) (w : Walk) → map parts (meant text a m t w).elements ≡ map parts w.elements
parts_meant text a (meaning.Mark m) t w = map-adjusted_same parts w.current _ w.elements (λ d. refl)
parts_meant text a (meaning.Direction way) t w = map-adjusted_same parts w.current _ w.elements (λ d. refl)
parts_meant text a (meaning.PartOf part) t w = map-adjusted_same parts w.current _ w.elements (λ d. refl)
parts_meant text a (meaning.Kind k) t w = map-adjusted_same parts w.current _ w.elements (λ d. refl)
parts_meant text a meaning.Def t w = map-adjusted_same parts w.current _ w.elements (λ d. refl)
parts_meant text a meaning.Comment t w = map-adjusted_same parts w.current _ w.elements (λ d. refl)
parts_meant text a meaning.Name t w = ap (map parts) (elements_name a t (name_meaning (bytes_of text t)) w)
parts_meant text a (meaning.Operator o) t w = ap (map parts) (elements_operator a o t.from w)
parts_meant text a other t w = refl

current_name : (a : Action) (t : Token) (bytes : List ℕ) (w : Walk) → (meant_name a t bytes w).current ≡ w.current
current_name action.Name t bytes w = refl
current_name action.Short t bytes w = refl
current_name action.Segment t bytes w = refl
current_name action.Step t bytes w = refl
current_name other t bytes w = refl

current_operator : (a : Action) (o : Operator) (place : ℕ) (w : Walk) → (meant_operator a o place w).current ≡ w.current
current_operator action.Star o place w = refl
current_operator other o place w = refl

current_meant : (text : List ℕ) (a : Action) (m : Meaning) (t : Token) (w : Walk) → (meant text a m t w).current ≡ w.current
current_meant text a meaning.Name t w = current_name a t (name_meaning (bytes_of text t)) w
current_meant text a (meaning.Operator o) t w = current_operator a o t.from w
current_meant text a other t w = refl

taken_at : (A : ℕ → ℕ → Type 0) (t : Tables) (text : List ℕ) (a : Action) (ts : List Token) (w : Walk) → Every (λ x. A w.current x.from) (take 1 ts)
    → WalkAt A w → WalkAt A (taken_from t text a ts w)
taken_at A t text a [] w here h = h
taken_at A t text a (x ∷ ts) w here h =
    let m = meaning_of t x.kind in
    let v = record w { rest = ts } in
    record {
      parts = subst (EachFrom (PartsAt A) 0) (sym (parts_meant text a m x v)) h.parts;
      reading = subst (λ c. ReadAt (A c) (meant text a m x v).reading) (sym (current_meant text a m x v))
          (meant_at (A w.current) text a m x v here.0 h.reading);
    }

-- The beginning and the end of a production.

specialised_at : (A : ℕ → ℕ → Type 0) (which : Role) (r : Reading) (w : Walk) → NamesAt (A w.current) r.nodes
    → EachFrom (PartsAt A) 0 (map parts w.elements) → EachFrom (PartsAt A) 0 (map parts (specialised which r w).elements)
specialised_at A which r w n h = parts_changed A _ (λ s. record s { specs = s.specs ++ mentions which (names r.nodes) }) w (λ d. refl)
    (λ s p. record {
      own = p.own;
      bounds = p.bounds;
      value = p.value;
      result = p.result;
      inner = p.inner;
      specs =
          every_append (λ m. A w.current m.path.place) s.specs (mentions which (names r.nodes)) p.specs (mentions_at (A w.current) which (names r.nodes) n);
    }) h

-- the first of some names
first_at : (B : ℕ → Type 0) (ps : List Path) → 1 ≤ length ps → Every (λ p. B p.place) ps → B (first_name ps).place
first_at B [] one h = absurd (omega (arith, one))
first_at B (p ∷ ps) one h = h.0

path_at : (B : ℕ → Type 0) (place : ℕ) (ps : List Path) → 1 ≤ length ps → Every (λ p. B p.place) ps → B (path_or place ps).place
path_at B place [] one h = absurd (omega (arith, one))
path_at B place (p ∷ ps) one h = h.0

given_at : (A : ℕ → ℕ → Type 0) (d : Taking) (f : Frame) (r : Reading) (w : Walk) → NamesAt (A w.current) r.nodes
    → ItemNamed (action.Take d) r.nodes → EachFrom (PartsAt A) 0 (map parts w.elements)
    → EachFrom (PartsAt A) 0 (map parts (given d f r w).elements)
given_at A taking.Bounds f r w n one h = parts_changed A _ (λ s. record s { bounds = r.nodes }) w (λ d. refl)
    (λ s p. record { own = p.own; specs = p.specs; bounds = n; value = p.value; result = p.result; inner = p.inner }) h
given_at A taking.Value f r w n one h = parts_changed A _ (λ s. record s { value = Some (expression r) }) w (λ d. refl)
    (λ s p. record { own = p.own; specs = p.specs; bounds = p.bounds; value = n; result = p.result; inner = p.inner }) h
given_at A taking.Result f r w n one h = parts_changed A _ (λ s. record s { result = Some (expression r) }) w (λ d. refl)
    (λ s p. record { own = p.own; specs = p.specs; bounds = p.bounds; value = p.value; result = n; inner = p.inner }) h
given_at A taking.Alias f r w n one h =
    parts_changed A _ (λ s. record s { inner = s.inner ++ mention role.Alias (first_name (names r.nodes)) ∷ [] }) w (λ d. refl)
    (λ s p. record {
      own = p.own;
      specs = p.specs;
      bounds = p.bounds;
      value = p.value;
      result = p.result;
      inner =
          every_append (λ m. A w.current m.path.place) s.inner (mention role.Alias (first_name (names r.nodes)) ∷ []) p.inner
          (first_at (A w.current) (names r.nodes) one n, tt);
    }) h
given_at A taking.Import f r w n one h =
    parts_changed A _ (λ s. record s { inner = s.inner ++ mention role.Import (path_or f.place (names r.nodes)) ∷ [] }) w (λ d. refl)
    (λ s p. record {
      own = p.own;
      specs = p.specs;
      bounds = p.bounds;
      value = p.value;
      result = p.result;
      inner =
          every_append (λ m. A w.current m.path.place) s.inner (mention role.Import (path_or f.place (names r.nodes)) ∷ []) p.inner
          (path_at (A w.current) f.place (names r.nodes) one n, tt);
    }) h
given_at A taking.Subclass f r w n one h = specialised_at A role.Subclass r w n h
given_at A taking.Typing f r w n one h = specialised_at A role.Typing r w n h
given_at A taking.Subsetting f r w n one h = specialised_at A role.Subsetting r w n h
given_at A taking.Redefinition f r w n one h = specialised_at A role.Redefinition r w n h
given_at A taking.ReferenceSubsetting f r w n one h = specialised_at A role.ReferenceSubsetting r w n h

entered_at : (A : ℕ → ℕ → Type 0) (a : Action) (w : Walk) → WalkAt A w → WalkAt A (entered a w)
entered_at A (action.Element k) w h =
    let es = adjusted w.current (with_item (item.Member (length w.members))) w.elements in
    let x = draft k (Some w.current) in
    let long : length w.elements ≡ 0 + length (map parts w.elements) = omega (arith, length-map w.elements parts) in
    let same = map-adjusted_same parts w.current (with_item (item.Member (length w.members))) w.elements (λ d. refl) in
    let bare : PartsAt A (length w.elements) (parts x) = record { own = tt; specs = tt; bounds = tt; value = tt; result = tt; inner = tt } in
    record {
      parts = subst (EachFrom (PartsAt A) 0) (sym (map-append parts es (x ∷ []) ∙ ap (λ ys. ys ++ parts x ∷ []) same))
          (each_push (PartsAt A) (length w.elements) 0 (map parts w.elements) (parts x) long h.parts bare);
      reading = none_read (A (length w.elements));
    }
entered_at A (action.Take d) w h = record { parts = h.parts; reading = none_read (A w.current) }
entered_at A action.NamedEnd w h = record { parts = h.parts; reading = record { names = tt; root = h.reading.root } }
entered_at A action.Level w h = record { parts = h.parts; reading = record { names = h.reading.names; root = h.reading.root } }
entered_at A action.Tail w h = record {
  parts = h.parts;
  reading = record {
    names = joined_at (A w.current) w.reading.nodes w.reading.operator h.reading.names;
    root = h.reading.root;
  };
}
entered_at A other w h = h

left_at : (A : ℕ → ℕ → Type 0) (a : Action) (w v : Walk) → v.current ≡ (entered a w).current → ItemNamed a v.reading.nodes
    → ReadAt (A w.current) w.reading → WalkAt A v → WalkAt A (left a (saved a w) v)
left_at A (action.Element k) w v now one r h = record {
  parts = parts_changed A (named v.reading) (λ s. record s { own = names v.reading.nodes }) v (λ d. refl)
      (λ s p. record { own = h.reading.names; specs = p.specs; bounds = p.bounds; value = p.value; result = p.result; inner = p.inner }) h.parts;
  reading = r;
}
left_at A (action.Take d) w v now one r h =
    let f = saved (action.Take d) w in
    let u = record v { reading = w.reading } in
    let read : ReadAt (A v.current) w.reading = subst (λ c. ReadAt (A c) w.reading) (sym now) r in
    record {
      parts = given_at A d f v.reading u h.reading.names one h.parts;
      reading = subst (λ c. ReadAt (A c) (given d f v.reading u).reading) (sym (current_given d f v.reading u))
          (subst (ReadAt (A v.current)) (sym (reading_given d f v.reading u)) read);
    }
left_at A action.NamedEnd w v now one r h = h
left_at A action.Level w v now one r h = record {
  parts = h.parts;
  reading =
      record { names = applied_at (A v.current) v.reading.nodes v.reading.operator h.reading.names; root = h.reading.root };
}
left_at A action.Tail w v now one r h = h
left_at A other w v now one r h = h

-- The walk: own tokens stand where the names of their elements may.

abbrev pub TokensAt : (ℕ → ℕ → Type 0) → ℕ → List Token → Type 0
TokensAt A e ts = Every (λ t. A e t.from) ts

abbrev pub OwnAt : (ℕ → ℕ → Type 0) → ℕ → Written → Type 0
OwnAt A e x = TokensAt A e x.own

each_front : {A : Type 0} (P : ℕ → A → Type 0) (n : ℕ) (xs ys : List A) → EachFrom P n (xs ++ ys) → EachFrom P n xs
each_front P n [] ys h = tt
each_front P n (x ∷ xs) ys h = (h.0, each_front P (suc n) xs ys h.1)

each_back : {A : Type 0} (P : ℕ → A → Type 0) (n m : ℕ) (xs ys : List A) → m ≡ n + length xs → EachFrom P n (xs ++ ys) → EachFrom P m ys
each_back P n m [] ys is h = subst (λ k. EachFrom P k ys) (omega (arith, is)) h
each_back P n m (x ∷ xs) ys is h = each_back P (suc n) m xs ys (omega (arith, is)) h.1

-- what stands below a production is the own of the element that is open there
own_below : (A : ℕ → ℕ → Type 0) (a : Action) (around n : ℕ) (own : List Token) → TokensAt A around (unless_element a own)
    → EachFrom (OwnAt A) n (element_of a around own) → TokensAt A (inner_owner a around n) own
own_below A (action.Element k) around n own h e = e.0
own_below A (action.Take d) around n own h e = h
own_below A other around n own h e = h

pub walk_keeps_places : (A : ℕ → ℕ → Type 0) (t : Tables) (text : List ℕ) (a : Action) (f : Forest) (w : Walk) → w.current < length w.elements
    → TokensAt A w.current (own_tokens t f w.rest) → EachFrom (OwnAt A) (length w.elements) (elements_in t w.current (length w.elements) f w.rest)
    → ItemsNamed t text a f w → WalkAt A w → WalkAt A (walk t text a f w)
walk_keeps_places A t text a Nothing w open_ own more named_ h = h
walk_keeps_places A t text a (Leaf k f) w open_ own more named_ h =
    let v = taken t text a w in
    let s = walk_writes t text a (Leaf k Nothing) w open_ in
    let rest : v.rest ≡ drop 1 w.rest = s.rest in
    let long : length v.elements ≡ length w.elements = omega (arith, length_written t text w v (Leaf k Nothing) s) in
    let mine = every_front (λ x. A w.current x.from) (take 1 w.rest) (own_tokens t f (drop 1 w.rest)) own in
    let others = every_back (λ x. A w.current x.from) (take 1 w.rest) (own_tokens t f (drop 1 w.rest)) own in
    walk_keeps_places A t text a f v (omega (arith, open_, long, s.goes.current))
    (subst (λ c. TokensAt A c (own_tokens t f v.rest)) (sym s.goes.current) (subst (λ ts. TokensAt A w.current (own_tokens t f ts)) (sym rest) others))
    (subst (λ c. EachFrom (OwnAt A) (length v.elements) (elements_in t c (length v.elements) f v.rest)) (sym s.goes.current)
    (subst (λ n. EachFrom (OwnAt A) n (elements_in t w.current n f v.rest)) (sym long)
    (subst (λ ts. EachFrom (OwnAt A) (length w.elements) (elements_in t w.current (length w.elements) f ts)) (sym rest) more)))
    named_ (taken_at A t text a w.rest w mine h)
walk_keeps_places A t text a (Branch p below f) w open_ own more named_ h =
    let b = action_at t p in
    let e = entered b w in
    let v = walk t text b below e in
    let l = left b (saved b w) v in
    let mine = own_tokens t below w.rest in
    let here = element_of b w.current mine in
    let n = length w.elements + length here in
    let inner = elements_in t (inner_owner b w.current (length w.elements)) n below w.rest in
    let ts = behind below w.rest in
    let m = n + length inner in
    let rest_ = elements_in t w.current m f ts in
    let own_here = every_front (λ x. A w.current x.from) (unless_element b mine) (own_tokens t f ts) own in
    let own_rest = every_back (λ x. A w.current x.from) (unless_element b mine) (own_tokens t f ts) own in
    let more_here = each_front (OwnAt A) (length w.elements) here (inner ++ rest_) more in
    let more_both = each_back (OwnAt A) (length w.elements) n here (inner ++ rest_) refl more in
    let more_inner = each_front (OwnAt A) n inner rest_ more_both in
    let more_rest = each_back (OwnAt A) n m inner rest_ refl more_both in
    let i = walk_writes t text b below e (open_entered b w open_) in
    let c_is = current_entered b w in
    let n_is = length_entered b w mine in
    let t_is = rest_entered b w in
    let below_own = subst (λ c. TokensAt A c (own_tokens t below e.rest)) (sym c_is)
    (subst (λ xs. TokensAt A (inner_owner b w.current (length w.elements)) (own_tokens t below xs)) (sym t_is)
    (own_below A b w.current (length w.elements) mine own_here more_here)) in
    let below_more = subst (λ c. EachFrom (OwnAt A) (length e.elements) (elements_in t c (length e.elements) below e.rest)) (sym c_is)
    (subst (λ k. EachFrom (OwnAt A) k (elements_in t (inner_owner b w.current (length w.elements)) k below e.rest)) (sym n_is)
    (subst (λ xs. EachFrom (OwnAt A) n (elements_in t (inner_owner b w.current (length w.elements)) n below xs)) (sym t_is) more_inner)) in
    let hv = walk_keeps_places A t text b below e (open_entered b w open_) below_own below_more named_.0 (entered_at A b w h) in
    let hl = left_at A b w v i.goes.current named_.1 h.reading hv in
    let s = walk_writes t text a (Branch p below Nothing) w open_ in
    let rest : l.rest ≡ ts = s.rest ∙ ap (λ k. drop k w.rest) (ap length (append-nil (kinds_in below))) in
    let long : length l.elements ≡ m =
    length_written t text w l (Branch p below Nothing) s
    ∙ ap (λ k. length w.elements + k) (length-append here (inner ++ []) ∙ ap (λ k. length here + length k) (append-nil inner))
    ∙ omega arith in
    walk_keeps_places A t text a f l (omega (arith, open_, long, s.goes.current))
    (subst (λ c. TokensAt A c (own_tokens t f l.rest)) (sym s.goes.current) (subst (λ xs. TokensAt A w.current (own_tokens t f xs)) (sym rest) own_rest))
    (subst (λ c. EachFrom (OwnAt A) (length l.elements) (elements_in t c (length l.elements) f l.rest)) (sym s.goes.current)
    (subst (λ k. EachFrom (OwnAt A) k (elements_in t w.current k f l.rest)) (sym long)
    (subst (λ xs. EachFrom (OwnAt A) m (elements_in t w.current m f xs)) (sym rest) more_rest)))
    named_.2 hl

-- From drafts to references.

is_own_place : List Written → ℕ → ℕ → Type 0
is_own_place ws e place = (x : Written) → slice_get ws e ≡ Some x → IsOwnPlace x place

one_by_one-append : {A B : Type 0} (P : A → B → Type 0) (xs as_ : List A) (ys bs : List B) → OneByOne P xs ys → OneByOne P as_ bs
    → OneByOne P (xs ++ as_) (ys ++ bs)
one_by_one-append P [] as_ [] bs h k = k
one_by_one-append P [] as_ (y ∷ ys) bs h k = absurd h
one_by_one-append P (x ∷ xs) as_ [] bs h k = absurd h
one_by_one-append P (x ∷ xs) as_ (y ∷ ys) bs h k = (h.0, one_by_one-append P xs as_ ys bs h.1 k)

mentions_stand : (ws : List Written) (e : ℕ) (x : Written) (ms : List Mention) → slice_get ws e ≡ Some x
    → Every (λ m. is_own_place ws e m.path.place) ms → OneByOne (StandsAtOwn ws) (map (reference e) ms) (map (λ m. m.path.place) ms)
unfolding is_own_place
mentions_stand ws e x [] at h = tt
mentions_stand ws e x (m ∷ ms) at h = ((x, at, h.0 x at), mentions_stand ws e x ms at h.1)

of_role : (ws : List Written) (e : ℕ) (r : Role) (ps : List Path) → Every (λ p. is_own_place ws e p.place) ps
    → Every (λ m. is_own_place ws e m.path.place) (mentions r ps)
of_role ws e r [] h = tt
of_role ws e r (p ∷ ps) h = (h.0, of_role ws e r ps h.1)

ends_at : (B : ℕ → Type 0) (ns : List DraftNode) → NamesAt B ns → NamesAt B (ends ns)
ends_at B [] h = tt
ends_at B (x ∷ []) h = h
ends_at B (x ∷ y ∷ ns) h =
    let g = every_front (λ p. B p.place) (name_in x.what) (names (y ∷ ns)) h in
    let k = every_back (λ p. B p.place) (name_in x.what) (names (y ∷ ns)) h in
    every_append (λ p. B p.place) (name_in x.what) (names (y ∷ [])) g
    (every_append (λ p. B p.place) (name_in y.what) [] (every_front (λ p. B p.place) (name_in y.what) (names ns) k) tt)

draft_stands : (ws : List Written) (e : ℕ) (d : Draft) → PartsAt (is_own_place ws) e (parts d) → Every (λ m. is_own_place ws e m.path.place) (mentions_of d)
draft_stands ws e d h =
    every_append (λ m. is_own_place ws e m.path.place) (head d) d.inner
    (every_append (λ m. is_own_place ws e m.path.place) (own_mentions d) (bound_mentions d ++ value_mentions d)
    (every_append (λ m. is_own_place ws e m.path.place) (mentions (own_role d.kind) d.own) d.specs (of_role ws e (own_role d.kind) d.own h.own)
    h.specs)
    (every_append (λ m. is_own_place ws e m.path.place) (bound_mentions d) (value_mentions d)
    (of_role ws e role.Bound (names (ends d.bounds)) (ends_at (is_own_place ws e) d.bounds h.bounds))
    (every_append (λ m. is_own_place ws e m.path.place) (mentions role.Value (names (nodes_of d.value))) (mentions role.Value (names (nodes_of d.result)))
    (of_role ws e role.Value (names (nodes_of d.value)) h.value) (of_role ws e role.Value (names (nodes_of d.result)) h.result))))
    h.inner

all_stand : (ws : List Written) (e : ℕ) (ds : List Draft) → ((i : ℕ) → i < e + length ds → (x : Written) × (slice_get ws i ≡ Some x))
    → EachFrom (PartsAt (is_own_place ws)) e (map parts ds) → OneByOne (StandsAtOwn ws) (references_from e ds) (reference_places ds)
all_stand ws e [] has h = tt
all_stand ws e (d ∷ ds) has h =
    let here = has e (omega arith) in
    one_by_one-append (StandsAtOwn ws) (map (reference e) (mentions_of d)) (references_from (suc e) ds) (map (λ m. m.path.place) (mentions_of d))
    (reference_places ds) (mentions_stand ws e here.0 (mentions_of d) here.1 (draft_stands ws e d h.0))
    (all_stand ws (suc e) ds (λ i below. has i (omega (arith, below))) h.1)

get_within : (ws : List Written) (i : ℕ) → i < length ws → (x : Written) × (slice_get ws i ≡ Some x)
get_within [] i below = absurd (omega (arith, below))
get_within (w ∷ ws) zero below = (w, refl)
get_within (w ∷ ws) (suc i) below = get_within ws i (omega (arith, below))

-- an element's own tokens are own places of it
own_places : (ws : List Written) (e : ℕ) (x : Written) (ts : List Token) → slice_get ws e ≡ Some x
    → ((p : ℕ) → IsMember (map (λ (t : Token). t.from) ts) p → IsOwnPlace x p) → TokensAt (is_own_place ws) e ts
unfolding is_own_place
own_places ws e x [] at on = tt
own_places ws e x (t ∷ ts) at on = (
  λ y here. let same : x ≡ y = cc in subst (λ z. IsOwnPlace z t.from) same (on t.from (inl refl)),
  own_places ws e x ts at (λ p h. on p (inr h)),
)

each_own : (ws front xs : List Written) (n : ℕ) → ws ≡ front ++ xs → n ≡ length front → EachFrom (OwnAt (is_own_place ws)) n xs
each_own ws front [] n is long = tt
each_own ws front (x ∷ xs) n is long = (
  own_places ws n x x.own (ap (λ ys. slice_get ys n) is ∙ (ap (slice_get (front ++ x ∷ xs)) long ∙ get_seam front xs x)) (λ p h. h),
  each_own ws (front ++ x ∷ []) xs (suc n) (is ∙ sym (append_assoc front (x ∷ []) xs)) (omega (arith, long, length-append front (x ∷ []))),
)

pub references_stand_at_own : ReferencesStandAtOwn
references_stand_at_own file language text d tokens tree p read =
    let t = tables language in
    let ws = written t tree tokens in
    let w = drafts_of language text tokens tree in
    let same = p.model ∙ ap (model_of file language) (same_drafts language text p.tokens tokens p.tree tree p.read read) in
    let each : EachFrom (OwnAt (is_own_place ws)) 0 ws = each_own ws [] ws 0 refl refl in
    let begun : WalkAt (is_own_place ws) (start tokens) = record {
      parts = (record { own = tt; specs = tt; bounds = tt; value = tt; result = tt; inner = tt }, tt);
      reading = record { names = tt; root = tt };
    } in
    let long : length w.elements ≡ length ws =
    sym (length-map w.elements said) ∙ (ap length (drafts_written language text tokens tree) ∙ length-map ws (finished t text)) in
    let lex : Lex language text tokens = read.lexed.1 in
    let fits = tokens_fit language 0 lex.0 text [] lex.1 in
    let all : tokens ≡ _ = lex.2 in
    let numbers = subst (Every (λ (x : Token). HasNumber x.kind)) (sym all) fits.0 in
    let at : IsAt (kinds_in tree ++ []) (start tokens) = record { kinds = sym read.derived.1 ∙ sym (append-nil (kinds_in tree)); numbers = numbers } in
    let named_ = items_named t (name_claims language) text (grammar_of language) (names_hold language) tree (Inner (grammar_of language).start ∷ [])
    action.Group [] (start tokens) read.derived.0 at in
    let h = walk_keeps_places (is_own_place ws) t text action.Group tree (start tokens) (omega arith) each.0 each.1 named_ begun in
    subst (λ (x : Data). OneByOne (StandsAtOwn ws) x.references x.reference_places) (sym same)
    (all_stand ws 0 w.elements (λ i below. get_within ws i (omega (arith, below, long))) h.parts)
