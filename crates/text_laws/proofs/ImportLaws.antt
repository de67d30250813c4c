-- The name of each import stands among those of its element, at the place that the import keeps.
use Rattle.std.proofs.Common.{◌≡◌, ℕ, zero, suc, ◌+◌, ◌-◌, ◌<◌, ◌≤◌, List, [], ◌∷◌, ◌++◌, length, refl, ap, ◌∙◌, arith, length-append}
use Rattle.std.specs.Prelude.{map, slice_get, Some}
use Rattle.std.specs.Option.{option_map, option_map_or}
use Rattle.std.proofs.lemmas.List.{length-map, map-append}
use Rattle.std.proofs.lemmas.Option.{slice_get-map, slice_get_within}
use Rattle.element_store.specs.declared.numbers.FileNo.{FileNo}
use Rattle.element_store.specs.declared.outcome.Language.{Language}
use Rattle.element_store.specs.declared.outcome.Role.{Role}
use Rattle.element_store.specs.declared.outcome.Role.TheVariants as role
use Rattle.element_store.specs.declared.lists.Item.{Item}
use Rattle.element_store.specs.declared.lists.Item.TheVariants as item
use Rattle.element_store.specs.Condition.{import_place}
use Rattle.token_core.specs.declared.token.Token.{Token}
use Rattle.token_core.specs.Reading.{bytes_of, name_meaning}
use Rattle.ll_core.specs.Derives.{Forest, Nothing, Token as Leaf, Node as Branch}
use Rattle.text_model.specs.declared.action.Action.{Action}
use Rattle.text_model.specs.declared.action.Action.TheVariants as action
use Rattle.text_model.specs.declared.action.Taking.{Taking}
use Rattle.text_model.specs.declared.action.Taking.TheVariants as taking
use Rattle.text_model.specs.declared.action.Operator.{Operator}
use Rattle.text_model.specs.declared.action.Meaning.{Meaning}
use Rattle.text_model.specs.declared.action.Meaning.TheVariants as meaning
use Rattle.text_model.specs.declared.draft.Path.{Path}
use Rattle.text_model.specs.declared.draft.Mention.{Mention}
use Rattle.text_model.specs.declared.draft.Draft.{Draft}
use Rattle.text_model.specs.declared.draft.DraftImport.{DraftImport}
use Rattle.text_model.specs.declared.draft.Reading.{Reading}
use Rattle.text_model.specs.Tables.{Tables, action_at, meaning_of}
use Rattle.text_model.specs.Drafts.{draft, names, first_name, path_or, mention, adjusted, inner_at}
use Rattle.text_model.specs.Walk.{Walk, Frame, with_item, with_inner, import_of as draft_import, saved, entered, given, left, named, meant, meant_name, meant_operator, taken, taken_from, walk}
use Rattle.text_model.specs.Numbering.{head, mentions_of, width, base_from, reference_places, import_of, model_of}
use Rattle.text_laws.specs.Coherent.{stock, IsCoherent}
use Rattle.text_laws.specs.Fits.{Every}
use Rattle.text_laws.proofs.ListLemmas.{get_front, get_last}
use Rattle.text_laws.proofs.FittingLaws.{every_on, every_append}
use Rattle.text_laws.proofs.CoherenceLaws.{alike_coherent, alike_from, entered_on, walk_on, left_on}

-- the import's name is one of its element's, and stands where the import says
pub record IsLinked (ds : List Draft) (i : DraftImport) : Type 0 where
  pub mention : Mention
  pub found : slice_get (inner_at ds i.owner) i.at ≡ Some mention
  pub place : mention.path.place ≡ i.place

-- names stay where they are
Grown : List Draft → List Draft → Type 0
Grown ds es = (e k : ℕ) (m : Mention) → slice_get (inner_at ds e) k ≡ Some m → slice_get (inner_at es e) k ≡ Some m

linked_on : (ds es : List Draft) (is : List DraftImport) → Grown ds es → Every (IsLinked ds) is → Every (IsLinked es) is
unfolding Grown
linked_on ds es is g h = every_on (IsLinked ds) (IsLinked es) is
    (λ i l. record { mention = l.mention; found = g i.owner i.at l.mention l.found; place = l.place }) h

inner_same : (c : ℕ) (f : Draft → Draft) (ds : List Draft) (e : ℕ) → ((d : Draft) → (f d).inner ≡ d.inner) → inner_at (adjusted c f ds) e ≡ inner_at ds e
inner_same c f [] e same = refl
inner_same zero f (d ∷ ds) zero same = same d
inner_same zero f (d ∷ ds) (suc e) same = refl
inner_same (suc c) f (d ∷ ds) zero same = refl
inner_same (suc c) f (d ∷ ds) (suc e) same = inner_same c f ds e same

grown_changed : (c : ℕ) (f : Draft → Draft) (ds : List Draft) → ((d : Draft) → (f d).inner ≡ d.inner) → Grown ds (adjusted c f ds)
unfolding Grown
grown_changed c f ds same e k m at = ap (λ x. slice_get x k) (inner_same c f ds e same) ∙ at

grown_inner : (c : ℕ) (i : Item) (r : Role) (p : Path) (ds : List Draft) → Grown ds (adjusted c (with_inner i r p) ds)
unfolding Grown
grown_inner c i r p [] e k m at = at
grown_inner zero i r p (d ∷ ds) zero k m at = get_front d.inner (mention r p ∷ []) k (slice_get_within d.inner k m at) ∙ at
grown_inner zero i r p (d ∷ ds) (suc e) k m at = at
grown_inner (suc c) i r p (d ∷ ds) zero k m at = at
grown_inner (suc c) i r p (d ∷ ds) (suc e) k m at = grown_inner c i r p ds e k m at

grown_push : (ds xs : List Draft) → Grown ds (ds ++ xs)
unfolding Grown
grown_push [] xs e k m at = cc
grown_push (d ∷ ds) xs zero k m at = at
grown_push (d ∷ ds) xs (suc e) k m at = grown_push ds xs e k m at

inner_last : (c : ℕ) (i : Item) (r : Role) (p : Path) (ds : List Draft) → c < length ds
    → slice_get (inner_at (adjusted c (with_inner i r p) ds) c) (length (inner_at ds c)) ≡ Some (mention r p)
inner_last c i r p [] below = absurd (omega (arith, below))
inner_last zero i r p (d ∷ ds) below = get_last d.inner (mention r p)
inner_last (suc c) i r p (d ∷ ds) below = inner_last c i r p ds (omega (arith, below))

-- so does that of every import
abbrev pub AreLinked : Walk → Type 0
AreLinked w = Every (IsLinked w.elements) w.imports

linked_changed : (f : Draft → Draft) (w : Walk) → ((d : Draft) → (f d).inner ≡ d.inner) → AreLinked w
    → Every (IsLinked (adjusted w.current f w.elements)) w.imports
linked_changed f w same h = linked_on w.elements (adjusted w.current f w.elements) w.imports (grown_changed w.current f w.elements same) h

linked_name : (a : Action) (t : Token) (bytes : List ℕ) (w : Walk) → AreLinked w → AreLinked (meant_name a t bytes w)
linked_name action.Name t bytes w h = h
linked_name action.Short t bytes w h = h
linked_name action.Segment t bytes w h = h
linked_name action.Step t bytes w h = h
linked_name other t bytes w h = h

linked_operator : (a : Action) (o : Operator) (place : ℕ) (w : Walk) → AreLinked w → AreLinked (meant_operator a o place w)
linked_operator action.Star o place w h = h
linked_operator other o place w h = h

linked_meant : (text : List ℕ) (a : Action) (m : Meaning) (t : Token) (w : Walk) → AreLinked w → AreLinked (meant text a m t w)
linked_meant text a (meaning.Mark m) t w h = linked_changed _ w (λ d. refl) h
linked_meant text a (meaning.Direction way) t w h = linked_changed _ w (λ d. refl) h
linked_meant text a (meaning.PartOf part) t w h = linked_changed _ w (λ d. refl) h
linked_meant text a (meaning.Kind k) t w h = linked_changed _ w (λ d. refl) h
linked_meant text a meaning.Def t w h = linked_changed _ w (λ d. refl) h
linked_meant text a meaning.Comment t w h = linked_changed _ w (λ d. refl) h
linked_meant text a meaning.Name t w h = linked_name a t (name_meaning (bytes_of text t)) w h
linked_meant text a (meaning.Operator o) t w h = linked_operator a o t.from w h
linked_meant text a other t w h = h

linked_taken : (t : Tables) (text : List ℕ) (a : Action) (ts : List Token) (w : Walk) → AreLinked w → AreLinked (taken_from t text a ts w)
linked_taken t text a [] w h = h
linked_taken t text a (x ∷ ts) w h = linked_meant text a (meaning_of t x.kind) x (record w { rest = ts }) h

linked_entered : (a : Action) (w : Walk) → AreLinked w → AreLinked (entered a w)
linked_entered (action.Element k) w h =
    let es = adjusted w.current (with_item (item.Member (length w.members))) w.elements in
    linked_on es (es ++ draft k (Some w.current) ∷ []) w.imports (grown_push es (draft k (Some w.current) ∷ []))
    (linked_changed (with_item (item.Member (length w.members))) w (λ d. refl) h)
linked_entered (action.Take d) w h = h
linked_entered action.NamedEnd w h = h
linked_entered action.Level w h = h
linked_entered action.Tail w h = h
linked_entered other w h = h

linked_given : (d : Taking) (f : Frame) (r : Reading) (w : Walk) → w.current < length w.elements → AreLinked w → AreLinked (given d f r w)
linked_given taking.Alias f r w open_ h =
    linked_on w.elements _ w.imports (grown_inner w.current (item.Member (length w.members)) role.Alias (first_name (names r.nodes)) w.elements) h
linked_given taking.Import f r w open_ h =
    let i = item.Import (length w.imports) in
    let p = path_or f.place (names r.nodes) in
    let es = adjusted w.current (with_inner i role.Import p) w.elements in
    every_append (IsLinked es) w.imports (draft_import f r w ∷ []) (linked_on w.elements es w.imports (grown_inner w.current i role.Import p w.elements) h)
    (record { mention = mention role.Import p; found = inner_last w.current i role.Import p w.elements open_; place = refl }, tt)
linked_given other f r w open_ h = linked_changed _ w (λ d. refl) h

linked_left : (a : Action) (f : Frame) (w : Walk) → w.current < length w.elements → AreLinked w → AreLinked (left a f w)
linked_left (action.Element k) f w open_ h = linked_changed (named w.reading) w (λ d. refl) h
linked_left (action.Take d) f w open_ h = linked_given d f w.reading (record w { reading = f.reading }) open_ h
linked_left other f w open_ h = h

-- a walk keeps that
pub walk_linked : (t : Tables) (text : List ℕ) (a : Action) (f : Forest) (w : Walk) → IsCoherent w → AreLinked w → AreLinked (walk t text a f w)
walk_linked t text a Nothing w c h = h
walk_linked t text a (Leaf k rest) w c h = walk_linked t text a rest (taken t text a w) (alike_coherent w (taken t text a w) (alike_from t text a w.rest w) c)
    (linked_taken t text a w.rest w h)
walk_linked t text a (Branch p below rest) w c h =
    let b = action_at t p in
    let v = walk t text b below (entered b w) in
    let ce = entered_on b w c in
    let cv = walk_on t text b below (entered b w) ce.coherent in
    let here : w.current < length v.elements = omega (arith, c.current, length-map w.elements stock, ce.longer, cv.longer) in
    let cu = left_on b (saved b w) v here cv.coherent in
    walk_linked t text a rest (left b (saved b w) v) cu.coherent
    (linked_left b (saved b w) v (omega (arith, cv.coherent.current, length-map v.elements stock))
    (walk_linked t text b below (entered b w) ce.coherent (linked_entered b w h)))

-- The reference's place.

get_back : {A : Type 0} (xs ys : List A) (k : ℕ) → slice_get (xs ++ ys) (length xs + k) ≡ slice_get ys k
get_back [] ys k = ap (slice_get ys) (omega arith)
get_back (x ∷ xs) ys k =
    let e : suc (length xs) + k ≡ suc (length xs + k) = omega arith in
    ap (slice_get (x ∷ (xs ++ ys))) e ∙ get_back xs ys k

base_least : (n e : ℕ) (ds : List Draft) → n ≤ base_from n ds e
base_least n e [] = omega arith
base_least n zero (d ∷ ds) = omega arith
base_least n (suc e) (d ∷ ds) = omega (arith, base_least (n + width d) e ds)

place_found : (n e k j : ℕ) (ds : List Draft) (m : Mention) → slice_get (inner_at ds e) k ≡ Some m → n + j ≡ base_from n ds e + k
    → slice_get (reference_places ds) j ≡ Some m.path.place
place_found n e k j [] m at is = cc
place_found n zero k j (d ∷ ds) m at is =
    let place : Mention → ℕ = λ m. m.path.place in
    let j_is : j ≡ length (map place (head d)) + k = omega (arith, is, length-map (head d) place) in
    let below = slice_get_within d.inner k m at in
    ap (λ x. slice_get (x ++ reference_places ds) j) (map-append place (head d) d.inner)
    ∙ (get_front (map place (head d) ++ map place d.inner) (reference_places ds) j
    (omega (arith, j_is, below, length-append (map place (head d)) (map place d.inner), length-map d.inner place))
    ∙ (ap (slice_get (map place (head d) ++ map place d.inner)) j_is
    ∙ (get_back (map place (head d)) (map place d.inner) k ∙ (slice_get-map place d.inner k ∙ ap (option_map place) at))))
place_found n (suc e) k j (d ∷ ds) m at is =
    let place : Mention → ℕ = λ m. m.path.place in
    let low = base_least (n + width d) e ds in
    let j_is : j ≡ length (map place (mentions_of d)) + (j - width d) = omega (arith, is, low, length-map (mentions_of d) place) in
    ap (slice_get (map place (mentions_of d) ++ reference_places ds)) j_is
    ∙ (get_back (map place (mentions_of d)) (reference_places ds) (j - width d) ∙ place_found (n + width d) e k (j - width d) ds m at (omega (arith, is, low)))

-- an import stands where its draft says
pub import_stands_there : (file : FileNo) (language : Language) (w : Walk) (i : DraftImport) → IsLinked w.elements i
    → import_place (model_of file language w) (import_of w.elements i) ≡ i.place ∷ []
import_stands_there file language w i l =
    ap (λ o. option_map_or (λ place. place ∷ []) o []) (place_found 0 i.owner i.at (base_from 0 w.elements i.owner + i.at) w.elements l.mention l.found
    (omega arith))
    ∙ ap (λ p. p ∷ []) l.place
