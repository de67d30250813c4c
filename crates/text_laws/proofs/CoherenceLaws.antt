-- Every walk over every forest is coherent.
use Rattle.std.proofs.Common.{◌≡◌, ℕ, zero, suc, ◌<◌, ◌≤◌, List, [], ◌∷◌, ◌++◌, length, refl, ap, sym, subst, ◌∙◌, arith, length-append}
use Rattle.std.specs.Prelude.{map, slice_get, Some}
use Rattle.std.proofs.lemmas.List.{map-append, length-map}
use Rattle.element_store.specs.declared.outcome.Role.{Role}
use Rattle.element_store.specs.declared.outcome.Role.TheVariants as role
use Rattle.element_store.specs.declared.lists.Item.TheVariants as item
use Rattle.token_core.specs.declared.token.Token.{Token}
use Rattle.ll_core.specs.Derives.{Forest, Nothing, Token as Leaf, Node}
use Rattle.text_model.specs.declared.action.Action.{Action}
use Rattle.text_model.specs.declared.action.Action.TheVariants.{Name, Short, Segment, Step, Star, NamedEnd, Element, Take, Level, Tail}
use Rattle.text_model.specs.declared.action.Taking.{Taking}
use Rattle.text_model.specs.declared.action.Taking.TheVariants as taking
use Rattle.text_model.specs.declared.action.Operator.{Operator}
use Rattle.text_model.specs.declared.action.Meaning.{Meaning}
use Rattle.text_model.specs.declared.action.Meaning.TheVariants as meaning
use Rattle.text_model.specs.declared.draft.Draft.{Draft}
use Rattle.text_model.specs.declared.draft.Reading.{Reading}
use Rattle.text_model.specs.declared.draft.DraftTarget.TheVariants.{Owned, Alias}
use Rattle.text_model.specs.Tables.{Tables, action_at, meaning_of}
use Rattle.text_model.specs.Drafts.{draft, names, first_name, path_or, mention, mentions, adjusted, inner_at, marked, definition_of}
use Rattle.text_model.specs.Walk.{Walk, Frame, saved, changed, with_item, with_inner, owned_member, entered, specialised, alias_member, import_of, expression, named, given, left, meant_name, meant_operator, meant, taken_from, taken, walk, comment_meaning}
use Rattle.token_core.specs.Reading.{bytes_of, name_meaning}
use Rattle.text_laws.specs.Coherent.{Stock, stock, AreCoherent, IsCoherent}
use Rattle.text_laws.proofs.ListLemmas.{length-adjusted, map-adjusted, map-adjusted_same}
use Rattle.text_laws.proofs.CoherenceSteps.{with_owned, with_held, bare, element_step, alias_step, import_step}

-- Steps that touch neither owning nor holding.

-- owners, items, names of items, members and imports are the same
pub record IsAlike (w v : Walk) : Type 0 where
  pub stocks : map stock v.elements ≡ map stock w.elements
  pub members : v.members ≡ w.members
  pub imports : v.imports ≡ w.imports
  pub current : v.current ≡ w.current

-- such a step keeps a walk coherent
pub alike_coherent : (w v : Walk) → IsAlike w v → IsCoherent w → IsCoherent v
alike_coherent w v a h = subst (λ ss. AreCoherent ss v.members v.imports v.current) (sym a.stocks)
    (subst (λ ms. AreCoherent (map stock w.elements) ms v.imports v.current) (sym a.members)
    (subst (λ is. AreCoherent (map stock w.elements) w.members is v.current) (sym a.imports)
    (subst (λ c. AreCoherent (map stock w.elements) w.members w.imports c) (sym a.current) h)))

pub alike_changed : (f : Draft → Draft) (w : Walk) → ((d : Draft) → stock (f d) ≡ stock d) → IsAlike w (changed f w)
alike_changed f w same = record { stocks = map-adjusted_same stock w.current f w.elements same; members = refl; imports = refl; current = refl }

alike_name : (a : Action) (t : Token) (bytes : List ℕ) (w : Walk) → IsAlike w (meant_name a t bytes w)
alike_name Name t bytes w = record { stocks = refl; members = refl; imports = refl; current = refl }
alike_name Short t bytes w = record { stocks = refl; members = refl; imports = refl; current = refl }
alike_name Segment t bytes w = record { stocks = refl; members = refl; imports = refl; current = refl }
alike_name Step t bytes w = record { stocks = refl; members = refl; imports = refl; current = refl }
alike_name other t bytes w = record { stocks = refl; members = refl; imports = refl; current = refl }

alike_operator : (a : Action) (o : Operator) (place : ℕ) (w : Walk) → IsAlike w (meant_operator a o place w)
alike_operator Star o place w = record { stocks = refl; members = refl; imports = refl; current = refl }
alike_operator other o place w = record { stocks = refl; members = refl; imports = refl; current = refl }

pub alike_meant : (text : List ℕ) (a : Action) (m : Meaning) (t : Token) (w : Walk) → IsAlike w (meant text a m t w)
alike_meant text a meaning.Nothing t w = record { stocks = refl; members = refl; imports = refl; current = refl }
alike_meant text a (meaning.Mark m) t w = alike_changed (λ d. record d { marks = marked m d.marks }) w (λ d. refl)
alike_meant text a (meaning.Direction way) t w = alike_changed (λ d. record d { marks = record d.marks { direction = way } }) w (λ d. refl)
alike_meant text a (meaning.PartOf part) t w = alike_changed (λ d. record d { marks = record d.marks { part_of = part } }) w (λ d. refl)
alike_meant text a (meaning.Visibility v) t w = record { stocks = refl; members = refl; imports = refl; current = refl }
alike_meant text a (meaning.Kind k) t w = alike_changed (λ d. record d { kind = k }) w (λ d. refl)
alike_meant text a meaning.Def t w = alike_changed (λ d. record d { kind = definition_of d.kind }) w (λ d. refl)
alike_meant text a meaning.Comment t w = alike_changed (λ d. record d { body = Some (comment_meaning (bytes_of text t)) }) w (λ d. refl)
alike_meant text a meaning.Text t w = record { stocks = refl; members = refl; imports = refl; current = refl }
alike_meant text a meaning.Integer t w = record { stocks = refl; members = refl; imports = refl; current = refl }
alike_meant text a (meaning.Leaf l) t w = record { stocks = refl; members = refl; imports = refl; current = refl }
alike_meant text a meaning.Name t w = alike_name a t (name_meaning (bytes_of text t)) w
alike_meant text a meaning.Absolute t w = record { stocks = refl; members = refl; imports = refl; current = refl }
alike_meant text a (meaning.Operator o) t w = alike_operator a o t.from w

-- a token changes none of these
pub alike_from : (tables : Tables) (text : List ℕ) (a : Action) (ts : List Token) (w : Walk) → IsAlike w (taken_from tables text a ts w)
alike_from tables text a [] w = record { stocks = refl; members = refl; imports = refl; current = refl }
alike_from tables text a (t ∷ ts) w =
    let s = alike_meant text a (meaning_of tables t.kind) t (record w { rest = ts }) in
    record { stocks = s.stocks; members = s.members; imports = s.imports; current = s.current }

-- A walk that goes on keeps its elements.

pub record GoesOn (w v : Walk) : Type 0 where
  pub coherent : IsCoherent v
  pub longer : length w.elements ≤ length v.elements

pub goes_alike : (w v : Walk) → IsAlike w v → IsCoherent w → GoesOn w v
goes_alike w v a h = record {
  coherent = alike_coherent w v a h;
  longer = omega (arith, ap length a.stocks, length-map w.elements stock, length-map v.elements stock);
}

-- the beginning of a production
pub entered_on : (a : Action) (w : Walk) → IsCoherent w → GoesOn w (entered a w)
entered_on (Element k) w h =
    let es = adjusted w.current (with_item (item.Member (length w.members))) w.elements in
    let len : length (map stock w.elements) ≡ length w.elements = length-map w.elements stock in
    let s = element_step (map stock w.elements) w.members w.imports (owned_member w) (ap Owned (sym len)) h in
    let stocks : map stock (es ++ draft k (Some w.current) ∷ []) ≡ adjusted w.current (with_owned (length w.members)) (map stock w.elements)
    ++ bare w.current ∷ [] =
    map-append stock es (draft k (Some w.current) ∷ [])
    ∙ ap (λ ss. ss ++ bare w.current ∷ []) (map-adjusted stock (with_owned (length w.members)) w.current (with_item (item.Member (length w.members))) w.elements
    (λ d. refl)) in
    record {
      coherent = subst (λ ss. AreCoherent ss (w.members ++ owned_member w ∷ []) w.imports (length w.elements)) (sym stocks)
          (subst (λ n. AreCoherent (adjusted w.current (with_owned (length w.members)) (map stock w.elements) ++ bare w.current ∷ [])
          (w.members ++ owned_member w ∷ []) w.imports n) len s);
      longer = omega (
        arith,
        length-append es (draft k (Some w.current) ∷ []),
        length-adjusted w.current
            (with_item (item.Member (length w.members))) w.elements,
      );
    }
entered_on (Take d) w h = goes_alike w (entered (Take d) w) (record { stocks = refl; members = refl; imports = refl; current = refl }) h
entered_on NamedEnd w h = goes_alike w (entered NamedEnd w) (record { stocks = refl; members = refl; imports = refl; current = refl }) h
entered_on Level w h = goes_alike w (entered Level w) (record { stocks = refl; members = refl; imports = refl; current = refl }) h
entered_on Tail w h = goes_alike w (entered Tail w) (record { stocks = refl; members = refl; imports = refl; current = refl }) h
entered_on other w h = record { coherent = h; longer = omega arith }

-- the names of the element that is open, as its stock has them
inner_read : (ds : List Draft) (c : ℕ) (s : Stock) → slice_get (map stock ds) c ≡ Some s → length (inner_at ds c) ≡ length s.inner
inner_read [] c s at = cc
inner_read (d ∷ ds) zero s at =
    let same : s ≡ stock d = cc in
    sym (length-map d.inner (λ m. m.role)) ∙ ap (λ (x : Stock). length x.inner) (sym same)
inner_read (d ∷ ds) (suc c) s at = inner_read ds c s at

specialised_on : (which : Role) (r : Reading) (w : Walk) → IsCoherent w → GoesOn w (specialised which r w)
specialised_on which r w h = goes_alike w (specialised which r w)
    (alike_changed (λ d. record d { specs = d.specs ++ mentions which (names r.nodes) }) w (λ d. refl)) h

-- one more name of an alias or import, as the stock sees it
pub role_push : (d : Draft) (i : _) (which : Role) (p : _) → stock (with_inner i which p d) ≡ with_held i which (stock d)
role_push d i which p = ap (λ rs. record { owner = d.owner; items = d.items ++ i ∷ []; inner = rs }) (map-append (λ m. m.role) d.inner (mention which p ∷ []))

given_on : (d : Taking) (f : Frame) (r : Reading) (w : Walk) → IsCoherent w → GoesOn w (given d f r w)
given_on taking.Subclass f r w h = specialised_on role.Subclass r w h
given_on taking.Typing f r w h = specialised_on role.Typing r w h
given_on taking.Subsetting f r w h = specialised_on role.Subsetting r w h
given_on taking.Redefinition f r w h = specialised_on role.Redefinition r w h
given_on taking.ReferenceSubsetting f r w h = specialised_on role.ReferenceSubsetting r w h
given_on taking.Bounds f r w h = goes_alike w (given taking.Bounds f r w) (alike_changed (λ d. record d { bounds = r.nodes }) w (λ d. refl)) h
given_on taking.Value f r w h = goes_alike w (given taking.Value f r w) (alike_changed (λ d. record d { value = Some (expression r) }) w (λ d. refl)) h
given_on taking.Result f r w h = goes_alike w (given taking.Result f r w) (alike_changed (λ d. record d { result = Some (expression r) }) w (λ d. refl)) h
given_on taking.Alias f r w h =
    let i = item.Member (length w.members) in
    let p = first_name (names r.nodes) in
    let s = alias_step (map stock w.elements) w.members w.imports (alias_member f r w) (λ x at. ap Alias (inner_read w.elements w.current x at)) h in
    record {
      coherent = subst (λ ss. AreCoherent ss (w.members ++ alias_member f r w ∷ []) w.imports w.current)
          (sym (map-adjusted stock (with_held i role.Alias) w.current (with_inner i role.Alias p) w.elements (λ d. role_push d i role.Alias p))) s;
      longer = omega (arith, length-adjusted w.current (with_inner i role.Alias p) w.elements);
    }
given_on taking.Import f r w h =
    let i = item.Import (length w.imports) in
    let p = path_or f.place (names r.nodes) in
    let s = import_step (map stock w.elements) w.members w.imports (import_of f r w) (λ x at. inner_read w.elements w.current x at) h in
    record {
      coherent = subst (λ ss. AreCoherent ss w.members (w.imports ++ import_of f r w ∷ []) w.current)
          (sym (map-adjusted stock (with_held i role.Import) w.current (with_inner i role.Import p) w.elements (λ d. role_push d i role.Import p))) s;
      longer = omega (arith, length-adjusted w.current (with_inner i role.Import p) w.elements);
    }

-- the end of a production
pub left_on : (a : Action) (f : Frame) (w : Walk) → f.current < length w.elements → IsCoherent w → GoesOn w (left a f w)
left_on (Element k) f w open_ h =
    let a = alike_changed (named w.reading) w (λ d. refl) in
    let g = alike_coherent w (changed (named w.reading) w) a h in
    let len = length-map (changed (named w.reading) w).elements stock in
    let same = length-adjusted w.current (named w.reading) w.elements in
    record {
      coherent = record { current = omega (arith, open_, len, same); owners = g.owners; each = g.each; members = g.members; imports = g.imports };
      longer = omega (arith, same);
    }
left_on (Take d) f w open_ h =
    let g = given_on d f w.reading (record w { reading = f.reading }) h in
    record { coherent = g.coherent; longer = g.longer }
left_on Level f w open_ h = record { coherent = h; longer = omega arith }
left_on other f w open_ h = record { coherent = h; longer = omega arith }

-- a walk keeps coherence, and its elements
pub walk_on : (t : Tables) (text : List ℕ) (a : Action) (f : Forest) (w : Walk) → IsCoherent w → GoesOn w (walk t text a f w)
walk_on t text a Nothing w h = record { coherent = h; longer = omega arith }
walk_on t text a (Leaf k rest) w h =
    let s = goes_alike w (taken t text a w) (alike_from t text a w.rest w) h in
    let r = walk_on t text a rest (taken t text a w) s.coherent in
    record { coherent = r.coherent; longer = omega (arith, s.longer, r.longer) }
walk_on t text a (Node p below rest) w h =
    let b = action_at t p in
    let e = entered_on b w h in
    let i = walk_on t text b below (entered b w) e.coherent in
    let here : w.current < length (walk t text b below (entered b w)).elements = omega (arith, h.current, length-map w.elements stock, e.longer, i.longer) in
    let l = left_on b (saved b w) (walk t text b below (entered b w)) here i.coherent in
    let r = walk_on t text a rest (left b (saved b w) (walk t text b below (entered b w))) l.coherent in
    record { coherent = r.coherent; longer = omega (arith, e.longer, i.longer, l.longer, r.longer) }
