-- The walk over a text, without its places, is the bare walk over its tokens.
use Rattle.std.proofs.Common.{◌≡◌, ℕ, zero, suc, List, [], ◌∷◌, ◌++◌, length, refl, ap, sym, ◌∙◌}
use Rattle.std.specs.Prelude.{map, Option, Some, None, Bool, true, false, ◌||◌, pos, cond}
use Rattle.std.specs.Option.{option_map, unwrap_or}
use Rattle.std.proofs.lemmas.List.{map-append, length-map}
use Rattle.element_store.specs.declared.outcome.Role.{Role}
use Rattle.element_store.specs.declared.outcome.Role.TheVariants as role
use Rattle.element_store.specs.declared.kind.Visibility.TheVariants as visibility
use Rattle.element_store.specs.declared.expression.BinaryOp.TheVariants as binary
use Rattle.element_store.specs.declared.lists.Item.TheVariants as item
use Rattle.token_core.specs.declared.token.Token.{Token}
use Rattle.token_core.specs.Reading.{bytes_of, name_meaning, string_meaning, number_from}
use Rattle.ll_core.specs.Derives.{Forest, Nothing, Token as Leaf, Node}
use Rattle.text_model.specs.declared.action.Action.{Action}
use Rattle.text_model.specs.declared.action.Action.TheVariants.{Name, Short, Segment, Step, Star, NamedEnd, Element, Take, Level, Tail}
use Rattle.text_model.specs.declared.action.Taking.{Taking}
use Rattle.text_model.specs.declared.action.Taking.TheVariants as taking
use Rattle.text_model.specs.declared.action.Operator.{Operator}
use Rattle.text_model.specs.declared.action.Operator.TheVariants as operator
use Rattle.text_model.specs.declared.action.Meaning.{Meaning}
use Rattle.text_model.specs.declared.action.Meaning.TheVariants as meaning
use Rattle.text_model.specs.declared.action.Leaf.TheVariants as leaf
use Rattle.text_model.specs.declared.action.Leaf.{Leaf as LeafWord}
use Rattle.text_model.specs.declared.draft.Path.{Path}
use Rattle.text_model.specs.declared.draft.What.{What}
use Rattle.text_model.specs.declared.draft.What.TheVariants as what
use Rattle.text_model.specs.declared.draft.DraftNode.{DraftNode}
use Rattle.text_model.specs.declared.draft.Draft.{Draft}
use Rattle.text_model.specs.declared.draft.DraftTarget.TheVariants.{Owned, Alias}
use Rattle.text_model.specs.declared.draft.Waiting.{Waiting}
use Rattle.text_model.specs.declared.draft.Seen.{Seen}
use Rattle.text_model.specs.declared.draft.Reading.{Reading}
use Rattle.text_model.specs.Tables.{Tables, action_at, meaning_of}
use Rattle.text_model.specs.Drafts.{draft, node, names, name_in, first_name, path_or, first_segment, text_or, first_text, has_what, is_star, is_all, is_deep, named_changed, last_changed, with_segment, with_step, joining, joined, applying, applied, mention, mentions, marked, adjusted, inner_at}
use Rattle.text_model.specs.Walk.{Walk, Frame, begun_place, begun_visibility, kept, saved, changed, reads, pushed, with_item, with_inner, or_next, owned_member, entered, expression, named, specialised, alias_member, import_of, given, left, path_of, meant_name, meant_operator, leaf_node, is_large, meant_integer, comment_meaning, meant, taken_from, taken, walk}
use Rattle.text_laws.proofs.ListLemmas.{map-adjusted}
use Rattle.print_model.proofs.BareWalk.{Bare, token_of, told, ended, bare_walk}
use Rattle.print_model.specs.Unplaced.{nowhere, bare_path, bare_what, bare_node, bare_mention, bare_draft, bare_member, bare_import, bare_waiting, bare_seen, bare_reading, bare, bare_frame, seen}
use Rattle.print_model.proofs.Names.{whole}

names_bare : (ns : List DraftNode) → names (map bare_node ns) ≡ map bare_path (names ns)
names_bare [] = refl
names_bare (n ∷ ns) = one n.what (names (map bare_node ns)) (names ns) (names_bare ns)
  where
    one : (w : What) (ps qs : List Path) → ps ≡ map bare_path qs → name_in (bare_what w) ++ ps ≡ map bare_path (name_in w ++ qs)
    one (what.Named p) ps qs e = ap (λ xs. bare_path p ∷ xs) e
    one other ps qs e = e

mentions_bare : (r : Role) (ps : List Path) → mentions r (map bare_path ps) ≡ map bare_mention (mentions r ps)
mentions_bare r [] = refl
mentions_bare r (p ∷ ps) = ap (λ xs. mention r (bare_path p) ∷ xs) (mentions_bare r ps)

first_bare : (ps : List Path) → first_name (map bare_path ps) ≡ bare_path (first_name ps)
first_bare [] = refl
first_bare (p ∷ ps) = refl

path_bare : (place : ℕ) (ps : List Path) → path_or 0 (map bare_path ps) ≡ bare_path (path_or place ps)
path_bare place [] = refl
path_bare place (p ∷ ps) = refl

text_bare : (ns : List DraftNode) → first_text (map bare_node ns) ≡ first_text ns
text_bare [] = refl
text_bare (n ∷ ns) = one n.what (first_text (map bare_node ns)) (first_text ns) (text_bare ns)
  where
    one : (w : What) (a b : Option (List ℕ)) → a ≡ b → text_or (bare_what w) a ≡ text_or w b
    one (what.Text bytes) a b e = refl
    one other a b e = e

has_bare : (test : What → Bool) → ((w : What) → test (bare_what w) ≡ test w) → (ns : List DraftNode) → has_what test (map bare_node ns) ≡ has_what test ns
has_bare test same [] = refl
has_bare test same (n ∷ ns) = ap (λ b. b || has_what test (map bare_node ns)) (same n.what) ∙ ap (λ b. test n.what || b) (has_bare test same ns)

star_bare : (w : What) → is_star (bare_what w) ≡ is_star w
star_bare (what.Named p) = refl
star_bare other = refl

all_bare : (w : What) → is_all (bare_what w) ≡ is_all w
all_bare (what.Named p) = refl
all_bare other = refl

deep_bare : (w : What) → is_deep (bare_what w) ≡ is_deep w
deep_bare (what.Named p) = refl
deep_bare other = refl

last_bare : (f : Path → Path) → ((p : Path) → bare_path (f p) ≡ f (bare_path p)) → (ns : List DraftNode)
    → last_changed f (map bare_node ns) ≡ map bare_node (last_changed f ns)
last_bare f same [] = refl
last_bare f same (n ∷ []) = ap (λ w. record { what = w; place = 0 } ∷ []) (one f same n.what)
  where
    one : (f : Path → Path) → ((p : Path) → bare_path (f p) ≡ f (bare_path p)) → (w : What) → named_changed f (bare_what w) ≡ bare_what (named_changed f w)
    one f same (what.Named p) = ap (λ q. what.Named q) (sym (same p))
    one f same other = refl
last_bare f same (n ∷ m ∷ ns) = ap (λ xs. bare_node n ∷ xs) (last_bare f same (m ∷ ns))

joining_bare : (o : Operator) (place : ℕ) → joining o 0 ≡ map bare_node (joining o place)
joining_bare (operator.Binary b) place = refl
joining_bare other place = refl

joined_bare : (ns : List DraftNode) (o : Option Waiting) → joined (map bare_node ns) (option_map bare_waiting o) ≡ map bare_node (joined ns o)
joined_bare ns None = refl
joined_bare ns (Some w) = ap (λ xs. map bare_node ns ++ xs) (joining_bare w.operator w.place) ∙ sym (map-append bare_node ns (joining w.operator w.place))

applying_bare : (o : Operator) (place : ℕ) → applying o 0 ≡ map bare_node (applying o place)
applying_bare operator.If place = refl
applying_bare operator.Not place = refl
applying_bare (operator.Binary binary.Subtract) place = refl
applying_bare (operator.Binary binary.Add) place = refl
applying_bare other place = refl

applied_bare : (ns : List DraftNode) (o : Option Waiting) → applied (map bare_node ns) (option_map bare_waiting o) ≡ map bare_node (applied ns o)
applied_bare ns None = refl
applied_bare ns (Some w) = ap (λ xs. map bare_node ns ++ xs) (applying_bare w.operator w.place) ∙ sym (map-append bare_node ns (applying w.operator w.place))

begun_bare : (s : Option Seen) → begun_place (option_map bare_seen s) [] ≡ 0
begun_bare None = refl
begun_bare (Some s) = refl

seen_bare : (s : Option Seen) → begun_visibility (option_map bare_seen s) ≡ begun_visibility s
seen_bare None = refl
seen_bare (Some s) = refl

next_bare : (s : Option ℕ) (ts : List Token) → or_next (nowhere s) [] ≡ nowhere (or_next s ts)
next_bare None ts = refl
next_bare (Some n) ts = refl

inner_bare : (ds : List Draft) (e : ℕ) → length (inner_at (map bare_draft ds) e) ≡ length (inner_at ds e)
inner_bare [] e = refl
inner_bare (d ∷ ds) zero = length-map d.inner bare_mention
inner_bare (d ∷ ds) (suc e) = inner_bare ds e

-- a change of the element that is open
changed_bare : (f g : Draft → Draft) (w : Walk) → ((d : Draft) → bare_draft (f d) ≡ g (bare_draft d)) → bare (changed f w) ≡ changed g (bare w)
changed_bare f g w same = ap (λ es. record (bare w) { elements = es }) (map-adjusted bare_draft g w.current f w.elements same)

-- and of what was read
reads_bare : (f g : Reading → Reading) (w : Walk) → bare_reading (f w.reading) ≡ g (bare_reading w.reading) → bare (reads f w) ≡ reads g (bare w)
reads_bare f g w same = ap (λ r. record (bare w) { reading = r }) same

saved_bare : (a : Action) (w : Walk) → saved a (bare w) ≡ bare_frame (saved a w)
saved_bare a w = ap (λ r. record {
  current = w.current;
  reading = r;
  place = begun_place (option_map bare_seen w.waiting) [];
  visibility =
      begun_visibility (option_map bare_seen w.waiting);
}) (kept_bare a w.reading)
    ∙ (ap (λ p. record {
      current = w.current;
      reading = bare_reading (kept a w.reading);
      place = p;
      visibility =
          begun_visibility (option_map bare_seen w.waiting);
    }) (begun_bare w.waiting)
    ∙ ap (λ v. record { current = w.current; reading = bare_reading (kept a w.reading); place = 0; visibility = v }) (seen_bare w.waiting))
  where
    kept_bare : (a : Action) (r : Reading) → kept a (bare_reading r) ≡ bare_reading (kept a r)
    kept_bare (Element k) r = refl
    kept_bare (Take d) r = refl
    kept_bare Level r = refl
    kept_bare other r = refl

entered_bare : (a : Action) (w : Walk) → bare (entered a w) ≡ entered a (bare w)
entered_bare (Element k) w =
    let es = adjusted w.current (with_item (item.Member (length w.members))) w.elements in
    let changed_es : map bare_draft es ≡ adjusted w.current (with_item (item.Member (length w.members))) (map bare_draft w.elements) =
    map-adjusted bare_draft (with_item (item.Member (length w.members))) w.current (with_item (item.Member (length w.members))) w.elements (λ d. refl) in
    ap (λ xs. record (bare (entered (Element k) w)) { elements = xs }) (map-append bare_draft es (draft k (Some w.current) ∷ [])
    ∙ (ap (λ xs. xs ++ draft k (Some w.current) ∷ []) changed_es
    ∙ ap (λ n. adjusted w.current (with_item (item.Member n)) (map bare_draft w.elements) ++ draft k (Some w.current) ∷ [])
    (sym (length-map w.members bare_member))))
    ∙ (ap (λ xs. record (entered (Element k) (bare w)) { members = xs; current = length w.elements }) (map-append bare_member w.members (owned_member w ∷ [])
    ∙ ap (λ m. map bare_member w.members ++ m ∷ []) (owned_bare w))
    ∙ ap (λ n. record (entered (Element k) (bare w)) { current = n }) (sym (length-map w.elements bare_draft)))
  where
    owned_bare : (w : Walk) → bare_member (owned_member w) ≡ owned_member (bare w)
    owned_bare w =
        ap (λ n. record (bare_member (owned_member w)) { target = Owned n }) (sym (length-map w.elements bare_draft))
        ∙ (ap (λ v. record (owned_member (bare w)) { visibility = unwrap_or v visibility.Public; place = 0 }) (sym (seen_bare w.waiting))
        ∙ ap (λ p. record (owned_member (bare w)) { place = p }) (sym (begun_bare w.waiting)))
entered_bare (Take d) w = refl
entered_bare NamedEnd w = reads_bare (λ r. record r { name = Some (first_segment (first_name (names r.nodes)).path); nodes = [] })
    (λ r. record r { name = Some (first_segment (first_name (names r.nodes)).path); nodes = [] }) w
    (ap (λ s. record (bare_reading w.reading) { name = Some (first_segment s); nodes = [] })
    (sym (ap (λ ps. (first_name ps).path) (names_bare w.reading.nodes) ∙ ap (λ (p : Path). p.path) (first_bare (names w.reading.nodes)))))
entered_bare Level w = ap (λ s. record (bare w) { reading = record (bare_reading w.reading) { operator = None; start = s } })
    (sym (next_bare w.reading.start w.rest))
entered_bare Tail w = ap (λ ns. record (bare w) { reading = record (bare_reading w.reading) { nodes = ns; operator = None } })
    (sym (joined_bare w.reading.nodes w.reading.operator))
entered_bare other w = refl

start_bare : (s : Option ℕ) → 0 ≡ unwrap_or (nowhere s) 0
start_bare None = refl
start_bare (Some n) = refl

specialised_bare : (which : Role) (r : Reading) (w : Walk) → bare (specialised which r w) ≡ specialised which (bare_reading r) (bare w)
specialised_bare which r w = changed_bare _ (λ d. record d { specs = d.specs ++ mentions which (names (map bare_node r.nodes)) }) w (λ d.
    ap (λ xs. record (bare_draft d) { specs = xs }) (map-append bare_mention d.specs (mentions which (names r.nodes))
    ∙ ap (λ xs. map bare_mention d.specs ++ xs) (sym (mentions_bare which (names r.nodes)) ∙ ap (mentions which) (sym (names_bare r.nodes)))))

given_bare : (d : Taking) (f : Frame) (r : Reading) (w : Walk) → bare (given d f r w) ≡ given d (bare_frame f) (bare_reading r) (bare w)
given_bare taking.Subclass f r w = specialised_bare role.Subclass r w
given_bare taking.Typing f r w = specialised_bare role.Typing r w
given_bare taking.Subsetting f r w = specialised_bare role.Subsetting r w
given_bare taking.Redefinition f r w = specialised_bare role.Redefinition r w
given_bare taking.ReferenceSubsetting f r w = specialised_bare role.ReferenceSubsetting r w
given_bare taking.Bounds f r w = changed_bare (λ d. record d { bounds = r.nodes }) (λ d. record d { bounds = map bare_node r.nodes }) w (λ d. refl)
given_bare taking.Value f r w = changed_bare _ (λ d. record d { value = Some (expression (bare_reading r)) }) w
    (λ d. ap (λ n. record (bare_draft d) { value = Some (record { start = n; nodes = map bare_node r.nodes }) }) (start_bare r.start))
given_bare taking.Result f r w = changed_bare _ (λ d. record d { result = Some (expression (bare_reading r)) }) w
    (λ d. ap (λ n. record (bare_draft d) { result = Some (record { start = n; nodes = map bare_node r.nodes }) }) (start_bare r.start))
given_bare taking.Alias f r w =
    ap (λ xs. record (bare (changed (with_inner (item.Member (length w.members)) role.Alias (first_name (names r.nodes))) w)) { members = xs })
    (map-append bare_member w.members (alias_member f r w ∷ [])
    ∙ ap (λ n. map bare_member w.members ++ record (bare_member (alias_member f r w)) { target = Alias n } ∷ []) (sym (inner_bare w.elements w.current)))
    ∙ (ap (λ (v : Walk). record v { members = map bare_member w.members ++ alias_member (bare_frame f) (bare_reading r) (bare w) ∷ [] })
    (changed_bare (with_inner (item.Member (length w.members)) role.Alias (first_name (names r.nodes)))
    (with_inner (item.Member (length w.members)) role.Alias (bare_path (first_name (names r.nodes)))) w
    (λ d. ap (λ xs. record (bare_draft d) { items = d.items ++ item.Member (length w.members) ∷ []; inner = xs })
    (map-append bare_mention d.inner (mention role.Alias (first_name (names r.nodes)) ∷ []))))
    ∙ (ap (λ p. record (changed (with_inner (item.Member (length w.members)) role.Alias p) (bare w)) {
      members =
          map bare_member w.members ++ alias_member (bare_frame f) (bare_reading r) (bare w) ∷ [];
    })
    (sym (ap first_name (names_bare r.nodes) ∙ first_bare (names r.nodes)))
    ∙ ap (λ n. record (changed (with_inner (item.Member n) role.Alias (first_name (names (map bare_node r.nodes)))) (bare w)) {
      members =
          map bare_member w.members ++ alias_member (bare_frame f) (bare_reading r) (bare w) ∷ [];
    })
    (sym (length-map w.members bare_member))))
given_bare taking.Import f r w =
    ap (λ xs. record (bare (changed (with_inner (item.Import (length w.imports)) role.Import (path_or f.place (names r.nodes))) w)) { imports = xs })
    (map-append bare_import w.imports (import_of f r w ∷ [])
    ∙ ap (λ i. map bare_import w.imports ++ i ∷ []) (import_bare f r w))
    ∙ (ap (λ (v : Walk). record v { imports = map bare_import w.imports ++ import_of (bare_frame f) (bare_reading r) (bare w) ∷ [] })
    (changed_bare (with_inner (item.Import (length w.imports)) role.Import (path_or f.place (names r.nodes)))
    (with_inner (item.Import (length w.imports)) role.Import (bare_path (path_or f.place (names r.nodes)))) w
    (λ d. ap (λ xs. record (bare_draft d) { items = d.items ++ item.Import (length w.imports) ∷ []; inner = xs })
    (map-append bare_mention d.inner (mention role.Import (path_or f.place (names r.nodes)) ∷ []))))
    ∙ (ap (λ p. record (changed (with_inner (item.Import (length w.imports)) role.Import p) (bare w)) {
      imports =
          map bare_import w.imports ++ import_of (bare_frame f) (bare_reading r) (bare w) ∷ [];
    })
    (sym (ap (path_or 0) (names_bare r.nodes) ∙ path_bare f.place (names r.nodes)))
    ∙ ap (λ n. record (changed (with_inner (item.Import n) role.Import (path_or 0 (names (map bare_node r.nodes)))) (bare w)) {
      imports =
          map bare_import w.imports ++ import_of (bare_frame f) (bare_reading r) (bare w) ∷ [];
    })
    (sym (length-map w.imports bare_import))))
  where
    path_place : (ps : List Path) → (path_or 0 (map bare_path ps)).place ≡ 0
    path_place [] = refl
    path_place (p ∷ ps) = refl

    import_bare : (f : Frame) (r : Reading) (w : Walk) → bare_import (import_of f r w) ≡ import_of (bare_frame f) (bare_reading r) (bare w)
    import_bare f r w =
        ap (λ n. record (bare_import (import_of f r w)) { at = n }) (sym (inner_bare w.elements w.current))
        ∙ (ap (λ b. record (import_of (bare_frame f) (bare_reading r) (bare w)) {
          place = 0;
          star = b;
          recursive = has_what is_deep r.nodes;
          all =
              has_what is_all r.nodes;
        }) (sym (has_bare is_star star_bare r.nodes))
        ∙ (ap (λ b. record (import_of (bare_frame f) (bare_reading r) (bare w)) { place = 0; recursive = b; all = has_what is_all r.nodes })
        (sym (has_bare is_deep deep_bare r.nodes))
        ∙ (ap (λ b. record (import_of (bare_frame f) (bare_reading r) (bare w)) { place = 0; all = b }) (sym (has_bare is_all all_bare r.nodes))
        ∙ ap (λ p. record (import_of (bare_frame f) (bare_reading r) (bare w)) { place = p })
        (sym (ap (λ ps. (path_or 0 ps).place) (names_bare r.nodes) ∙ path_place (names r.nodes))))))

left_bare : (a : Action) (f : Frame) (w : Walk) → bare (left a f w) ≡ left a (bare_frame f) (bare w)
left_bare (Element k) f w = ap (λ (v : Walk). record v { current = f.current; reading = bare_reading f.reading })
    (changed_bare (named w.reading) (named (bare_reading w.reading)) w (λ d.
    ap (λ ps. record (bare_draft d) { short = w.reading.short; name = w.reading.name; own = ps; locale = first_text w.reading.nodes })
    (sym (names_bare w.reading.nodes))
    ∙ ap (λ t. record (bare_draft d) { short = w.reading.short; name = w.reading.name; own = names (map bare_node w.reading.nodes); locale = t })
    (sym (text_bare w.reading.nodes))))
left_bare (Take d) f w = given_bare d f w.reading (record w { reading = f.reading })
left_bare Level f w = ap (λ ns. record (bare w) {
  reading =
      record (bare_reading w.reading) { nodes = ns; operator = option_map bare_waiting f.reading.operator };
})
    (sym (applied_bare w.reading.nodes w.reading.operator))
left_bare other f w = refl

pushed_bare : (x : What) (place : ℕ) (w : Walk) → bare (pushed x place w) ≡ pushed (bare_what x) 0 (bare w)
pushed_bare x place w = ap (λ ns. record (bare w) { reading = record (bare_reading w.reading) { nodes = ns } })
    (map-append bare_node w.reading.nodes (node x place ∷ []))

name_bare : (a : Action) (t u : Token) (bytes : List ℕ) (w : Walk) → u.from ≡ 0 → bare (meant_name a t bytes w) ≡ meant_name a u bytes (bare w)
name_bare Name t u bytes w e = refl
name_bare Short t u bytes w e = refl
name_bare Segment t u bytes w e = ap (λ ns. record (bare w) { reading = record (bare_reading w.reading) { nodes = ns } })
    (sym (last_bare (with_segment bytes) (λ p. refl) w.reading.nodes))
name_bare Step t u bytes w e = ap (λ ns. record (bare w) { reading = record (bare_reading w.reading) { nodes = ns } })
    (sym (last_bare (with_step bytes) (λ p. refl) w.reading.nodes))
name_bare other t u bytes w e =
    ap (λ ns. record (bare w) { reading = record (bare_reading w.reading) { nodes = ns; root = None } })
    (map-append bare_node w.reading.nodes (node (what.Named (path_of w.reading.root t bytes)) (unwrap_or w.reading.root t.from) ∷ [])
    ∙ ap (λ n. map bare_node w.reading.nodes ++ n ∷ []) (begun w.reading.root t u bytes e))
  where
    begun : (r : Option ℕ) (t u : Token) (bytes : List ℕ) → u.from ≡ 0
        → bare_node (node (what.Named (path_of r t bytes)) (unwrap_or r t.from))
        ≡ node (what.Named (path_of (nowhere r) u bytes)) (unwrap_or (nowhere r) u.from)
    begun None t u bytes e = ap (λ n. node (what.Named (record { place = n; absolute = false; path = bytes ∷ []; chain = [] })) n) (sym e)
    begun (Some n) t u bytes e = refl

operator_bare : (a : Action) (o : Operator) (place : ℕ) (w : Walk) → bare (meant_operator a o place w) ≡ meant_operator a o 0 (bare w)
operator_bare Star o place w = pushed_bare what.Star place w
operator_bare other o place w = refl

integer_bare : (n place : ℕ) (w : Walk) → bare (meant_integer n place w) ≡ meant_integer n 0 (bare w)
integer_bare n place w =
    pushed_bare (what.Integer (pos (cond (is_large n) 0 n))) place (record w { large = w.large ++ cond (is_large n) (place ∷ []) [] })
    ∙ ap (λ xs. pushed (what.Integer (pos (cond (is_large n) 0 n))) 0 (record (bare w) { large = xs })) (large_bare w.large (is_large n) place)
  where
    large_bare : (xs : List ℕ) (b : Bool) (place : ℕ) → map {B = ℕ} (λ n. 0) (xs ++ cond b (place ∷ []) []) ≡ map {B = ℕ} (λ n. 0) xs ++ cond b (0 ∷ []) []
    large_bare xs true place = map-append {B = ℕ} (λ n. 0) xs (place ∷ [])
    large_bare xs false place = map-append {B = ℕ} (λ n. 0) xs []

leaf_bare : (l : LeafWord) → bare_what (leaf_node l) ≡ leaf_node l
leaf_bare (leaf.Boolean b) = refl
leaf_bare leaf.Null = refl
leaf_bare leaf.All = refl
leaf_bare leaf.Deep = refl

-- a token's meaning, where the token is the whole of its own text
meant_bare : (text other : List ℕ) (a : Action) (m : Meaning) (t u : Token) (w : Walk) → u.from ≡ 0 → bytes_of other u ≡ bytes_of text t
    → bare (meant text a m t w) ≡ meant other a m u (bare w)
meant_bare text other a meaning.Nothing t u w from same = refl
meant_bare text other a (meaning.Mark m) t u w from same = changed_bare _ (λ d. record d { marks = marked m d.marks }) w (λ d. refl)
meant_bare text other a (meaning.Direction way) t u w from same =
    changed_bare (λ d. record d { marks = record d.marks { direction = way } }) (λ d. record d { marks = record d.marks { direction = way } }) w (λ d. refl)
meant_bare text other a (meaning.PartOf part) t u w from same =
    changed_bare (λ d. record d { marks = record d.marks { part_of = part } }) (λ d. record d { marks = record d.marks { part_of = part } }) w (λ d. refl)
meant_bare text other a (meaning.Visibility v) t u w from same = ap (λ n. record (bare w) { waiting = Some (record { place = n; visibility = v }) }) (sym from)
meant_bare text other a (meaning.Kind k) t u w from same = changed_bare (λ d. record d { kind = k }) (λ d. record d { kind = k }) w (λ d. refl)
meant_bare text other a meaning.Def t u w from same = changed_bare _ _ w (λ d. refl)
meant_bare text other a meaning.Comment t u w from same =
    changed_bare (λ d. record d { body = Some (comment_meaning (bytes_of text t)) }) (λ d. record d { body = Some (comment_meaning (bytes_of text t)) }) w
    (λ d. refl)
    ∙ ap (λ bs. changed (λ d. record d { body = Some (comment_meaning bs) }) (bare w)) (sym same)
meant_bare text other a meaning.Text t u w from same =
    pushed_bare (what.Text (string_meaning (bytes_of text t))) t.from w
    ∙ (ap (λ bs. pushed (what.Text (string_meaning bs)) 0 (bare w)) (sym same)
    ∙ ap (λ n. pushed (what.Text (string_meaning (bytes_of other u))) n (bare w)) (sym from))
meant_bare text other a meaning.Integer t u w from same =
    integer_bare (number_from 0 (bytes_of text t)) t.from w
    ∙ (ap (λ bs. meant_integer (number_from 0 bs) 0 (bare w)) (sym same) ∙ ap (λ n. meant_integer (number_from 0 (bytes_of other u)) n (bare w)) (sym from))
meant_bare text other a (meaning.Leaf l) t u w from same =
    pushed_bare (leaf_node l) t.from w ∙ (ap (λ x. pushed x 0 (bare w)) (leaf_bare l) ∙ ap (λ n. pushed (leaf_node l) n (bare w)) (sym from))
meant_bare text other a meaning.Name t u w from same = name_bare a t u (name_meaning (bytes_of text t)) w from
    ∙ ap (λ bs. meant_name a u (name_meaning bs) (bare w)) (sym same)
meant_bare text other a meaning.Absolute t u w from same = ap (λ n. record (bare w) { reading = record (bare_reading w.reading) { root = Some n } }) (sym from)
meant_bare text other a (meaning.Operator o) t u w from same = operator_bare a o t.from w ∙ ap (λ n. meant_operator a o n (bare w)) (sym from)

-- no step but a token takes one
entered_rest : (a : Action) (w : Walk) → (entered a w).rest ≡ w.rest
entered_rest (Element k) w = refl
entered_rest (Take d) w = refl
entered_rest NamedEnd w = refl
entered_rest Level w = refl
entered_rest Tail w = refl
entered_rest other w = refl

left_rest : (a : Action) (f : Frame) (w : Walk) → (left a f w).rest ≡ w.rest
left_rest (Element k) f w = refl
left_rest (Take d) f w = given_rest d f w.reading (record w { reading = f.reading })
  where
    given_rest : (d : Taking) (f : Frame) (r : Reading) (w : Walk) → (given d f r w).rest ≡ w.rest
    given_rest taking.Alias f r w = refl
    given_rest taking.Import f r w = refl
    given_rest taking.Subclass f r w = refl
    given_rest taking.Typing f r w = refl
    given_rest taking.Subsetting f r w = refl
    given_rest taking.Redefinition f r w = refl
    given_rest taking.ReferenceSubsetting f r w = refl
    given_rest taking.Bounds f r w = refl
    given_rest taking.Value f r w = refl
    given_rest taking.Result f r w = refl
left_rest Level f w = refl
left_rest other f w = refl

meant_rest : (text : List ℕ) (a : Action) (m : Meaning) (t : Token) (w : Walk) → (meant text a m t w).rest ≡ w.rest
meant_rest text a meaning.Name t w = name_rest a t (name_meaning (bytes_of text t)) w
  where
    name_rest : (a : Action) (t : Token) (bytes : List ℕ) (w : Walk) → (meant_name a t bytes w).rest ≡ w.rest
    name_rest Name t bytes w = refl
    name_rest Short t bytes w = refl
    name_rest Segment t bytes w = refl
    name_rest Step t bytes w = refl
    name_rest other t bytes w = refl
meant_rest text a (meaning.Operator o) t w = operator_rest a o t.from w
  where
    operator_rest : (a : Action) (o : Operator) (place : ℕ) (w : Walk) → (meant_operator a o place w).rest ≡ w.rest
    operator_rest Star o place w = refl
    operator_rest other o place w = refl
meant_rest text a meaning.Nothing t w = refl
meant_rest text a (meaning.Mark m) t w = refl
meant_rest text a (meaning.Direction way) t w = refl
meant_rest text a (meaning.PartOf part) t w = refl
meant_rest text a (meaning.Visibility v) t w = refl
meant_rest text a (meaning.Kind k) t w = refl
meant_rest text a meaning.Def t w = refl
meant_rest text a meaning.Comment t w = refl
meant_rest text a meaning.Text t w = refl
meant_rest text a meaning.Integer t w = refl
meant_rest text a (meaning.Leaf l) t w = refl
meant_rest text a meaning.Absolute t w = refl

-- a walk with its tokens, without places
abbrev pub erased : List ℕ → Walk → Bare
erased text w = record { now = bare w; rest = map (seen text) w.rest }

taken_bare : (t : Tables) (text : List ℕ) (a : Action) (w : Walk) (ts : List Token) → w.rest ≡ ts
    → told t a (map (seen text) ts) (bare w) ≡ erased text (taken_from t text a ts w)
taken_bare t text a w [] e = ap (λ ts. record { now = bare w; rest = map (seen text) ts }) (sym e)
taken_bare t text a w (u ∷ ts) e =
    let m = meaning_of t u.kind in
    ap (λ v. record { now = v; rest = map (seen text) ts })
    (sym (meant_bare text (bytes_of text u) a m u (token_of (seen text u)) (record w { rest = ts }) refl (whole (bytes_of text u))))
    ∙ ap (λ us. record { now = bare (meant text a m u (record w { rest = ts })); rest = map (seen text) us })
    (sym (meant_rest text a m u (record w { rest = ts })))

-- the walk over a text, without its places, is the bare walk
pub walk_bare : (t : Tables) (text : List ℕ) (a : Action) (f : Forest) (w : Walk) → bare_walk t a f (erased text w) ≡ erased text (walk t text a f w)
walk_bare t text a Nothing w = refl
walk_bare t text a (Leaf k rest) w = ap (bare_walk t a rest) (taken_bare t text a w w.rest refl) ∙ walk_bare t text a rest (taken t text a w)
walk_bare t text a (Node p below rest) w =
    let b = action_at t p in
    let v = walk t text b below (entered b w) in
    ap (bare_walk t a rest)
    (ap (λ (c : Bare). ended b (bare w) (bare_walk t b below c))
    (ap (λ x. record { now = x; rest = map (seen text) w.rest }) (sym (entered_bare b w))
    ∙ ap (λ ts. record { now = bare (entered b w); rest = map (seen text) ts }) (sym (entered_rest b w)))
    ∙ (ap (ended b (bare w)) (walk_bare t text b below (entered b w))
    ∙ (ap (λ f. record { now = left b f (bare v); rest = map (seen text) v.rest }) (saved_bare b w)
    ∙ (ap (λ x. record { now = x; rest = map (seen text) v.rest }) (sym (left_bare b (saved b w) v))
    ∙ ap (λ ts. record { now = bare (left b (saved b w) v); rest = map (seen text) ts }) (sym (left_rest b (saved b w) v))))))
    ∙ walk_bare t text a rest (left b (saved b w) v)
