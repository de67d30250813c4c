-- Lists of nodes and of elements, as the code changes them.
use Rattle.std.proofs.Common.{◌≡◌, ◌<◌, ◌≤◌, ◌+◌, ℕ, zero, suc, List, [], ◌∷◌, ◌++◌, length, refl, ap, sym, ◌∙◌, append_assoc, arith}
use Rattle.std.proofs.lemmas.List.{append-nil, reverse-append}
use Rattle.std.specs.Prelude.{Bool, true, false, ◌||◌, Option, Some, None, slice_set, get_or, take, reverse}
use Rattle.element_store.specs.declared.kind.Kind.{Kind}
use Rattle.element_store.specs.declared.lists.Item.TheVariants as item
use Rattle.text_model.specs.declared.action.Action.TheVariants.{Element}
use Rattle.text_model.specs.declared.draft.Draft.{Draft}
use Rattle.text_model.specs.declared.draft.DraftMember.{DraftMember}
use Rattle.std.specs.Prelude.{slice_get}
use Rattle.std.specs.Option.{option_copied}
use Rattle.std.specs.Slice.{IsItemAt}
use Rattle.std.proofs.Common.{Bor}
use Rattle.std.proofs.lemmas.Option.{slice_get_past, slice_get_read}
use Rattle.token_core.specs.declared.token.Token.{Token}
use Rattle.token_core.specs.declared.token.TokenKind.TheVariants as kind
use Rattle.token_core.specs.Reading.{bytes_of, comment_meaning}
use Rattle.text_model.specs.declared.action.Action.{Action}
use Rattle.text_model.specs.declared.draft.Mention.{Mention}
use Rattle.text_model.specs.Tables.{Tables, meaning_of}
use Rattle.text_model.specs.Profile.{token_place}
use Rattle.text_model.specs.Walk.{Walk, changed, entered, fresh, meant, owned_member, taken, taken_from, with_item}
use Rattle.element_store.specs.declared.outcome.Role.{Role}
use Rattle.text_model.specs.declared.draft.Path.{Path}
use Rattle.text_model.specs.declared.draft.What.{What}
use Rattle.text_model.specs.declared.draft.What.TheVariants as what
use Rattle.text_model.specs.declared.draft.DraftNode.{DraftNode}
use Rattle.text_model.specs.Drafts.{adjusted, draft, first_text, has_what, inner_at, last_changed, mention, mentions, name_in, named_changed, names, text_or}
use Rattle.draft_walk.specs.Telling.{first_path, or_path, or_text}

or_false : (b : Bool) → (b || false) ≡ (false || b)
or_false true = refl
or_false false = refl

or_assoc : (a b c : Bool) → (a || (b || c)) ≡ ((a || b) || c)
or_assoc true b c = refl
or_assoc false b c = refl

pub names_append : (xs ys : List DraftNode) → names (xs ++ ys) ≡ names xs ++ names ys
names_append [] ys = refl
names_append (x ∷ xs) ys = ap (λ t. name_in x.what ++ t) (names_append xs ys) ∙ sym (append_assoc (name_in x.what) (names xs) (names ys))

-- a node more
pub names_push : (xs : List DraftNode) (x : DraftNode) → names (xs ++ x ∷ []) ≡ names xs ++ name_in x.what
names_push xs x = names_append xs (x ∷ []) ∙ ap (λ t. names xs ++ t) (append-nil (name_in x.what))

text_later : (w v : What) (o : Option (List ℕ)) → text_or w (or_text o v) ≡ or_text (text_or w o) v
text_later (what.Integer i) v o = refl
text_later (what.Boolean b) v o = refl
text_later (what.Text t) v o = refl
text_later what.Null v o = refl
text_later (what.Named p) v o = refl
text_later (what.Unary op) v o = refl
text_later (what.Binary op) v o = refl
text_later what.If v o = refl
text_later what.Star v o = refl
text_later what.All v o = refl
text_later what.Deep v o = refl

pub first_text_push : (xs : List DraftNode) (x : DraftNode) → first_text (xs ++ x ∷ []) ≡ or_text (first_text xs) x.what
first_text_push [] x = refl
first_text_push (y ∷ xs) x = ap (text_or y.what) (first_text_push xs x) ∙ text_later y.what x.what (first_text xs)

pub mentions_append : (r : Role) (ps qs : List Path) → mentions r (ps ++ qs) ≡ mentions r ps ++ mentions r qs
mentions_append r [] qs = refl
mentions_append r (p ∷ ps) qs = ap (λ t. mention r p ∷ t) (mentions_append r ps qs)

-- the name read last, changed
pub last_changed_push : (f : Path → Path) (xs : List DraftNode) (n : DraftNode)
    → last_changed f (xs ++ n ∷ []) ≡ xs ++ record n { what = named_changed f n.what } ∷ []
last_changed_push f [] n = refl
last_changed_push f (x ∷ []) n = refl
last_changed_push f (x ∷ y ∷ xs) n = ap (λ t. x ∷ t) (last_changed_push f (y ∷ xs) n)

-- no such item
pub adjusted_past : {A : Type 0} (c : ℕ) (f : A → A) (xs : List A) → length xs ≤ c → adjusted c f xs ≡ xs
adjusted_past c f [] past = refl
adjusted_past zero f (x ∷ xs) past = absurd (omega (arith, past))
adjusted_past (suc c) f (x ∷ xs) past = ap (λ t. x ∷ t) (adjusted_past c f xs (omega (arith, past)))

-- the item, as it is written back
pub adjusted_set : {A : Type 0} (xs : List A) (c : ℕ) (f : A → A) (x y : A) → c < length xs → x ≡ get_or xs c x → y ≡ f x → slice_set xs c y ≡ adjusted c f xs
adjusted_set [] c f x y below at is = absurd (omega (arith, below))
adjusted_set (z ∷ xs) zero f x y below at is = ap (λ a. a ∷ xs) (is ∙ ap f at)
adjusted_set (z ∷ xs) (suc c) f x y below at is = ap (λ t. z ∷ t) (adjusted_set xs c f x y (omega (arith, below)) at is)

pub length_adjusted : {A : Type 0} (c : ℕ) (f : A → A) (xs : List A) → length (adjusted c f xs) ≡ length xs
length_adjusted c f [] = refl
length_adjusted zero f (x ∷ xs) = refl
length_adjusted (suc c) f (x ∷ xs) = ap suc (length_adjusted c f xs)

-- the innermost first
pub reverse_push : {A : Type 0} (xs : List A) (x : A) → reverse (xs ++ x ∷ []) ≡ x ∷ reverse xs
reverse_push xs x = reverse-append xs (x ∷ [])

-- a change of the element that is open, as the code makes it
pub changed_is : (w : Walk) (f : Draft → Draft) (x y : Draft) → w.current < length w.elements → x ≡ get_or w.elements w.current x → y ≡ f x
    → record w { elements = slice_set w.elements w.current y } ≡ changed f w
changed_is w f x y below at is = ap (λ es. record w { elements = es }) (adjusted_set w.elements w.current f x y below at is)

-- the names of aliases and imports of an element
pub inner_is : (ds : List Draft) (c : ℕ) (d : Draft) → c < length ds → d ≡ get_or ds c d → length d.inner ≡ length (inner_at ds c)
inner_is [] c d below at = absurd (omega (arith, below))
inner_is (x ∷ ds) zero d below at = ap (λ (y : Draft). length y.inner) at
inner_is (x ∷ ds) (suc c) d below at = inner_is ds c d (omega (arith, below)) at

-- an element that begins, where nothing is read
pub element_entered : (w v u : Walk) (k : Kind) (n : ℕ) (d : Draft) (m : DraftMember) → w.reading ≡ fresh → v ≡ changed (with_item (item.Member n)) w
    → n ≡ length w.members
    → u ≡ record v { elements = v.elements ++ d ∷ []; members = v.members ++ m ∷ []; current = length v.elements; waiting = None }
    → d ≡ draft k (Some m.owner) → m ≡ owned_member w → u ≡ entered (Element k) w
element_entered w v u k n d m read listed number opened drafted owned =
    opened
    ∙ (ap (λ (x : Walk). record x { elements = x.elements ++ d ∷ []; members = x.members ++ m ∷ []; current = length x.elements; waiting = None }) listed
    ∙ (ap (λ j. record w {
      elements = adjusted w.current (with_item (item.Member j)) w.elements ++ d ∷ [];
      members = w.members ++ m ∷ [];
      current =
          length (adjusted w.current (with_item (item.Member j)) w.elements);
      waiting = None;
    }) number
    ∙ (ap (λ x. record w {
      elements = adjusted w.current (with_item (item.Member (length w.members))) w.elements ++ x ∷ [];
      members = w.members ++ m ∷ [];
      current = length (adjusted w.current (with_item (item.Member (length w.members))) w.elements);
      waiting = None;
    }) drafted
    ∙ (ap (λ x. record w {
      elements = adjusted w.current (with_item (item.Member (length w.members))) w.elements ++ draft k (Some x.owner) ∷ [];
      members =
          w.members ++ x ∷ [];
      current = length (adjusted w.current (with_item (item.Member (length w.members))) w.elements);
      waiting = None;
    }) owned
    ∙ (ap (λ c. record w {
      elements = adjusted w.current (with_item (item.Member (length w.members))) w.elements ++ draft k (Some w.current) ∷ [];
      members =
          w.members ++ owned_member w ∷ [];
      current = c;
      waiting = None;
    })
    (length_adjusted w.current (with_item (item.Member (length w.members))) w.elements)
    ∙ ap (λ r. record w {
      elements = adjusted w.current (with_item (item.Member (length w.members))) w.elements ++ draft k (Some w.current) ∷ [];
      members =
          w.members ++ owned_member w ∷ [];
      current = length w.elements;
      waiting = None;
      reading = r;
    }) read)))))

-- whether nodes have a sort, one more
pub has_take : (t : What → Bool) (xs : List DraftNode) (i : ℕ) (d : DraftNode) → i < length xs
    → has_what t (take (suc i) xs) ≡ (has_what t (take i xs) || t (get_or xs i d).what)
has_take t [] i d below = absurd (omega (arith, below))
has_take t (x ∷ xs) zero d below = or_false (t x.what)
has_take t (x ∷ xs) (suc i) d below = ap (λ b. t x.what || b) (has_take t xs i d (omega (arith, below)))
    ∙ or_assoc (t x.what) (has_what t (take i xs)) (t (get_or xs i d).what)

-- the first of names, one node more
first_joined : (ps qs : List Path) (w : What) → qs ≡ name_in w → first_path (ps ++ qs) ≡ or_path (first_path ps) w
first_joined [] qs w is = ap first_path is
first_joined (p ∷ ps) qs w is = refl

pub first_path_push : (xs : List DraftNode) (x : DraftNode) → first_path (names (xs ++ x ∷ [])) ≡ or_path (first_path (names xs)) x.what
first_path_push xs x = ap first_path (names_push xs x) ∙ first_joined (names xs) (name_in x.what) x.what refl

-- the mentions of names, one node more
pub mention_more : (r : Role) (old into new : List Mention) (qs : List Path) (ys : List DraftNode) (x : DraftNode)
    → into ≡ old ++ mentions r (names ys) → qs ≡ name_in x.what → new ≡ into ++ mentions r qs → new ≡ old ++ mentions r (names (ys ++ x ∷ []))
mention_more r old into new qs ys x so_far is added =
    added ∙ (ap (λ t. t ++ mentions r qs) so_far
    ∙ (append_assoc old (mentions r (names ys)) (mentions r qs)
    ∙ ap (λ t. old ++ t) (sym (mentions_append r (names ys) qs) ∙ ap (mentions r) (ap (λ t. names ys ++ t) is ∙ sym (names_push ys x)))))

-- the last node, taken, changed and put back
pub last_is : (f : Path → Path) (old new rest : List DraftNode) (n m : DraftNode) → old ≡ rest ++ n ∷ [] → m ≡ record n { what = named_changed f n.what }
    → new ≡ rest ++ m ∷ [] → new ≡ last_changed f old
last_is f old new rest n m was is put = put ∙ (ap (λ x. rest ++ x ∷ []) is ∙ (sym (last_changed_push f rest n) ∙ sym (ap (last_changed f) was)))

-- a comment that is taken
pub comment_taken : (tables : Tables) (text : List ℕ) (a : Action) (w v : Walk) (t : Token) (ts : List Token) (body : List ℕ)
    → w.rest ≡ t ∷ ts → v ≡ record w { rest = ts } → t.kind ≡ kind.Comment → body ≡ comment_meaning (bytes_of text t)
    → changed (λ d. record d { body = Some body }) v ≡ taken tables text a w
comment_taken tables text a w v t ts body rest passed sort says =
    ap (changed (λ d. record d { body = Some body })) passed
    ∙ (ap (λ b. changed (λ d. record d { body = Some b }) (record w { rest = ts })) says
    ∙ (sym (ap (λ k. meant text a (meaning_of tables k) t (record w { rest = ts })) sort)
    ∙ sym (ap (λ us. taken_from tables text a us w) rest)))

-- the place of a token, or the end of the text
abbrev pub place_or : List ℕ → Option Token → ℕ
place_or text None = length text
place_or text (Some t) = t.from

pub place_is : (text : List ℕ) (ts : List Token) (n : ℕ) → place_or text (slice_get ts n) ≡ token_place text ts n
place_is text [] n = refl
place_is text (t ∷ ts) zero = refl
place_is text (t ∷ ts) (suc n) = place_is text ts n

pub item_copied : {A : Type 0} (xs : List A) (i : ℕ) (o : Option (Bor A)) → IsItemAt xs i o → slice_get xs i ≡ option_copied o
item_copied xs i None h = slice_get_past xs i h.3
item_copied xs i (Some x) h = slice_get_read xs (length xs) i x.now refl h.3.0 h.1

pub has_next : (t : What → Bool) (xs : List DraftNode) (i : ℕ) (d : DraftNode) → i < length xs
    → has_what t (take (i + 1) xs) ≡ (has_what t (take i xs) || t (get_or xs i d).what)
has_next t xs i d below = let e : i + 1 ≡ suc i = omega arith in ap (λ k. has_what t (take k xs)) e ∙ has_take t xs i d below
