-- The walk over a derivation keeps the drafts of other elements, and gives each role to a kind that it fits.
use Rattle.std.proofs.Common.{◌≡◌, ℕ, ◌+◌, ◌<◌, ◌≤◌, Bool, true, false, cond, List, [], ◌∷◌, ◌++◌, length, refl, ap, sym, subst, ◌∙◌, arith, append_assoc, length-append}
use Rattle.std.specs.Prelude.{not, ◌||◌, Option, Some, None}
use Rattle.element_store.specs.declared.kind.Kind.{Kind}
use Rattle.element_store.specs.declared.outcome.Role.{Role}
use Rattle.element_store.specs.declared.outcome.Role.TheVariants as role
use Rattle.element_store.specs.declared.lists.Item.{Item}
use Rattle.element_store.specs.declared.lists.Item.TheVariants as item
use Rattle.element_store.specs.Condition.{role_fits}
use Rattle.token_core.specs.declared.token.Token.{Token}
use Rattle.token_core.specs.Reading.{bytes_of, name_meaning}
use Rattle.ll_core.specs.declared.grammar.Symbol.{Symbol}
use Rattle.ll_core.specs.declared.grammar.Symbol.TheVariants.{Terminal, Inner}
use Rattle.ll_core.specs.Table.{Rule, Table}
use Rattle.ll_core.specs.Derives.{Forest, Nothing, Token as Leaf, Node as Branch, IsDerivation, tokens}
use Rattle.text_model.specs.declared.action.Action.{Action}
use Rattle.text_model.specs.declared.action.Action.TheVariants as action
use Rattle.text_model.specs.declared.action.Taking.{Taking}
use Rattle.text_model.specs.declared.action.Taking.TheVariants as taking
use Rattle.text_model.specs.declared.action.Operator.{Operator}
use Rattle.text_model.specs.declared.action.Meaning.{Meaning}
use Rattle.text_model.specs.declared.action.Meaning.TheVariants as meaning
use Rattle.text_model.specs.declared.draft.Path.{Path}
use Rattle.text_model.specs.declared.draft.Mention.{Mention}
use Rattle.text_model.specs.declared.draft.Draft.{Draft}
use Rattle.text_model.specs.declared.draft.Reading.{Reading}
use Rattle.text_model.specs.Tables.{Tables, action_at, meaning_of}
use Rattle.text_model.specs.Drafts.{draft, names, first_name, path_or, mention, mentions, own_role, adjusted}
use Rattle.text_model.specs.Walk.{meant_name, meant_operator, Walk, Frame, saved, changed, with_item, with_inner, entered, expression, given, specialised, left, named, meant, taken, taken_from, walk}
use Rattle.text_model.specs.Numbering.{draft_at}
use Rattle.text_laws.specs.Fits.{Every}
use Rattle.text_model.specs.Roles.{Class, AnyKind, TypeKind, CommentKind, passes_class, covers, class_of, State, state, RoleClaim, role_claim_at, meets_all, token_state, claimed, states, production_state, closes, takes, needs_of, is_role, is_stronger, all_roles}
use Rattle.text_model.specs.Wholes.{meaning_at}
use Rattle.text_laws.proofs.ListLemmas.{length-adjusted}
use Rattle.text_laws.proofs.FittingLaws.{every_append, rest_entered, rest_left}
use Rattle.text_laws.proofs.WholeLaws.{IsAt, at_taken, at_same, walk_at}
use Rattle.text_laws.proofs.RoleLaws.{role_of, needed_fits, covers_passes, own_class, state_meets, rule_roles, at_adjusted, at_other, at_front, at_last, every_adjusted_at, DraftRoles, RolesAt, weaken, roles_read, roles_changed, joined_free, applied_free, taken_roles, type_own, comment_own}

-- Other elements' drafts stay.

pub record KeepsOthers (w v : Walk) : Type 0 where
  pub same : (e : ℕ) → e < length w.elements → (e ≡ w.current → ⊥) → draft_at v.elements e ≡ draft_at w.elements e
  pub current : v.current ≡ w.current
  pub longer : length w.elements ≤ length v.elements

keeps_read : (w v : Walk) → v.elements ≡ w.elements → v.current ≡ w.current → KeepsOthers w v
keeps_read w v elements current = record {
  same = λ e below other. ap (λ ds. draft_at ds e) elements;
  current = current;
  longer =
      omega (arith, ap length elements);
}

keeps_changed : (f : Draft → Draft) (w v : Walk) → v.elements ≡ adjusted w.current f w.elements → v.current ≡ w.current → KeepsOthers w v
keeps_changed f w v elements current = record {
  same = λ e below other. ap (λ ds. draft_at ds e) elements ∙ at_other w.elements w.current e f other;
  current = current;
  longer = omega (arith, ap length elements, length-adjusted w.current f w.elements);
}

keeps_through : (w v u : Walk) → KeepsOthers w v → KeepsOthers v u → KeepsOthers w u
keeps_through w v u a b = record {
  same = λ e below other. b.same e (omega (arith, below, a.longer)) (λ is. other (is ∙ a.current)) ∙ a.same e below other;
  current = b.current ∙ a.current;
  longer = omega (arith, a.longer, b.longer);
}

keeps_name : (a : Action) (t : Token) (bytes : List ℕ) (w : Walk) → KeepsOthers w (meant_name a t bytes w)
keeps_name action.Name t bytes w = keeps_read w _ refl refl
keeps_name action.Short t bytes w = keeps_read w _ refl refl
keeps_name action.Segment t bytes w = keeps_read w _ refl refl
keeps_name action.Step t bytes w = keeps_read w _ refl refl
keeps_name other t bytes w = keeps_read w _ refl refl

keeps_operator : (a : Action) (o : Operator) (place : ℕ) (w : Walk) → KeepsOthers w (meant_operator a o place w)
keeps_operator action.Star o place w = keeps_read w _ refl refl
keeps_operator other o place w = keeps_read w _ refl refl

keeps_meant : (text : List ℕ) (a : Action) (m : Meaning) (t : Token) (w : Walk) → KeepsOthers w (meant text a m t w)
keeps_meant text a (meaning.Mark m) t w = keeps_changed _ w _ refl refl
keeps_meant text a (meaning.Direction way) t w = keeps_changed _ w _ refl refl
keeps_meant text a (meaning.PartOf part) t w = keeps_changed _ w _ refl refl
keeps_meant text a (meaning.Kind k) t w = keeps_changed _ w _ refl refl
keeps_meant text a meaning.Def t w = keeps_changed _ w _ refl refl
keeps_meant text a meaning.Comment t w = keeps_changed _ w _ refl refl
keeps_meant text a meaning.Name t w = keeps_name a t (name_meaning (bytes_of text t)) w
keeps_meant text a (meaning.Operator o) t w = keeps_operator a o t.from w
keeps_meant text a other t w = keeps_read w _ refl refl

keeps_taken : (t : Tables) (text : List ℕ) (a : Action) (ts : List Token) (w : Walk) → KeepsOthers w (taken_from t text a ts w)
keeps_taken t text a [] w = keeps_read w w refl refl
keeps_taken t text a (x ∷ ts) w = let k = keeps_meant text a (meaning_of t x.kind) x (record w { rest = ts })
    in record { same = k.same; current = k.current; longer = k.longer }

keeps_given : (d : Taking) (f : Frame) (r : Reading) (w : Walk) → KeepsOthers w (given d f r w)
keeps_given taking.Bounds f r w = keeps_changed _ w _ refl refl
keeps_given taking.Value f r w = keeps_changed _ w _ refl refl
keeps_given taking.Result f r w = keeps_changed _ w _ refl refl
keeps_given taking.Alias f r w = keeps_changed _ w _ refl refl
keeps_given taking.Import f r w = keeps_changed _ w _ refl refl
keeps_given other f r w = keeps_changed _ w _ refl refl

node_keeps : (a : Action) (w v : Walk) → w.current < length w.elements → KeepsOthers (entered a w) v → KeepsOthers w (left a (saved a w) v)
node_keeps (action.Element k) w v open_ g =
    let es = adjusted w.current (with_item (item.Member (length w.members))) w.elements in
    let len = length-adjusted w.current (with_item (item.Member (length w.members))) w.elements in
    let two = length-append es (draft k (Some w.current) ∷ []) in
    record {
      same = λ e below other. at_other v.elements v.current e (named v.reading) (λ is. omega (arith, below, is, g.current))
          ∙ (g.same e (omega (arith, below, len, two)) (λ is. omega (arith, below, is))
          ∙ (at_front es (draft k (Some w.current) ∷ []) e (omega (arith, below, len))
          ∙ at_other w.elements w.current e (with_item (item.Member (length w.members))) other));
      current = refl;
      longer = omega (arith, g.longer, len, two, length-adjusted v.current (named v.reading) v.elements);
    }
node_keeps (action.Take d) w v open_ g =
    let k = keeps_given d (saved (action.Take d) w) v.reading (record v { reading = w.reading }) in
    let l : KeepsOthers v (left (action.Take d) (saved (action.Take d) w) v) = record { same = k.same; current = k.current; longer = k.longer } in
    keeps_through w v (left (action.Take d) (saved (action.Take d) w) v)
    (keeps_through w (entered (action.Take d) w) v (keeps_read w (entered (action.Take d) w) refl refl) g) l
node_keeps other w v open_ g = keeps_through w v (left other (saved other w) v)
    (keeps_through w (entered other w) v (keeps_read w (entered other w) refl refl) g) (keeps_read v (left other (saved other w) v) refl refl)

entered_within : (a : Action) (w : Walk) → w.current < length w.elements → (entered a w).current < length (entered a w).elements
entered_within (action.Element k) w h =
    let es = adjusted w.current (with_item (item.Member (length w.members))) w.elements in
    omega (arith, length-append es (draft k (Some w.current) ∷ []), length-adjusted w.current (with_item (item.Member (length w.members))) w.elements)
entered_within other w h = h

-- a walk changes none of the elements before but the open one
pub walk_keeps : (t : Tables) (text : List ℕ) (a : Action) (f : Forest) (w : Walk) → w.current < length w.elements → KeepsOthers w (walk t text a f w)
walk_keeps t text a Nothing w h = keeps_read w w refl refl
walk_keeps t text a (Leaf k rest) w h =
    let s = keeps_taken t text a w.rest w in
    keeps_through w (taken t text a w) (walk t text a rest (taken t text a w)) s
    (walk_keeps t text a rest (taken t text a w) (omega (arith, h, s.current, s.longer)))
walk_keeps t text a (Branch p below rest) w h =
    let b = action_at t p in
    let v = walk t text b below (entered b w) in
    let n = node_keeps b w v h (walk_keeps t text b below (entered b w) (entered_within b w h)) in
    keeps_through w (left b (saved b w) v) (walk t text a rest (left b (saved b w) v)) n
    (walk_keeps t text a rest (left b (saved b w) v) (omega (arith, h, n.current, n.longer)))

-- A production, where what is said of the walk below it is known.

cond_some : (b : Bool) (x s : State) → cond b (Some x) None ≡ Some s → (b ≡ true) × (x ≡ s)
cond_some true x s e = (refl, cc)
cond_some false x s e = cc

mentions_role : (r : Role) (k : Kind) (ps : List Path) → role_fits r k ≡ true → Every (λ m. role_fits m.role k ≡ true) (mentions r ps)
mentions_role r k [] e = tt
mentions_role r k (p ∷ ps) e = (e, mentions_role r k ps e)

element_roles : (k : Kind) (w v : Walk) (s s' e : State) → closes s (Some e) ≡ Some s' → RolesAt s w
    → (RolesAt (state (class_of k) false false) (entered (action.Element k) w) → RolesAt e v)
    → KeepsOthers (entered (action.Element k) w) v → RolesAt s' (left (action.Element k) (saved (action.Element k) w) v)
element_roles k w v s s' e is h on g =
    let es = adjusted w.current (with_item (item.Member (length w.members))) w.elements in
    let len = length-adjusted w.current (with_item (item.Member (length w.members))) w.elements in
    let two = length-append es (draft k (Some w.current) ∷ []) in
    let begun = roles_changed s (with_item (item.Member (length w.members))) w (λ d. (refl, refl, refl, refl)) h in
    let here : draft_at (es ++ draft k (Some w.current) ∷ []) (length w.elements) ≡ draft k (Some w.current) =
    at_last es (draft k (Some w.current)) (length w.elements) (sym len) in
    let inner : RolesAt (state (class_of k) false false) (entered (action.Element k) w) = record {
      fits = every_append DraftRoles es (draft k (Some w.current) ∷ []) begun.fits (record { specs = tt; own = tt; inner = tt }, tt);
      class = subst (λ (x : Draft). passes_class (class_of k) x.kind ≡ true) (sym here) (own_class k);
      clear = λ f. subst (λ (x : Draft). x.specs ≡ []) (sym here) refl;
      own = subst (λ (x : Draft). x.own ≡ []) (sym here) refl;
      free = λ f. refl;
      within = omega (arith, len, two);
    } in
    let r = on inner in
    let c = cond_some (not e.loose || (covers e.class TypeKind || covers e.class CommentKind)) s s' is in
    let d = draft_at v.elements v.current in
    let own : Every (λ m. role_fits m.role d.kind ≡ true) (mentions (own_role d.kind) (names v.reading.nodes)) =
    own_names e v.reading d.kind c.0 r.free r.class in
    let outer : draft_at (adjusted v.current (named v.reading) v.elements) w.current
    ≡ with_item (item.Member (length w.members)) (draft_at w.elements w.current) =
    at_other v.elements v.current w.current (named v.reading) (λ is. omega (arith, is, g.current, h.within))
    ∙ (g.same w.current (omega (arith, h.within, len, two)) (λ is. omega (arith, is, h.within))
    ∙ (at_front es (draft k (Some w.current) ∷ []) w.current (omega (arith, h.within, len))
    ∙ at_adjusted w.elements w.current (with_item (item.Member (length w.members))) h.within)) in
    subst (λ x. RolesAt x (left (action.Element k) (saved (action.Element k) w) v)) c.1 (record {
      fits = every_adjusted_at DraftRoles v.current (named v.reading) v.elements (λ x. record { specs = x.specs; own = own; inner = x.inner }) r.fits;
      class = subst (λ (x : Draft). passes_class s.class x.kind ≡ true) (sym outer) h.class;
      clear = λ f. subst (λ (x : Draft). x.specs ≡ []) (sym outer) (h.clear f);
      own = subst (λ (x : Draft). x.own ≡ []) (sym outer) h.own;
      free = h.free;
      within = omega (arith, h.within, g.longer, len, two, length-adjusted v.current (named v.reading) v.elements);
    }) where
      own_names : (e : State) (x : Reading) (kind : Kind) → (not e.loose || (covers e.class TypeKind || covers e.class CommentKind)) ≡ true
          → (e.loose ≡ false → names x.nodes ≡ []) → passes_class e.class kind ≡ true
          → Every (λ m. role_fits m.role kind ≡ true) (mentions (own_role kind) (names x.nodes))
      own_names e x kind ok free class = go e.loose refl (covers e.class TypeKind) refl (covers e.class CommentKind) refl ok where
        go : (l : Bool) → e.loose ≡ l → (a : Bool) → covers e.class TypeKind ≡ a → (b : Bool) → covers e.class CommentKind ≡ b → (not l || (a || b)) ≡ true
            → Every (λ m. role_fits m.role kind ≡ true) (mentions (own_role kind) (names x.nodes))
        go false is a a' b b' ok = subst (λ ps. Every (λ m. role_fits m.role kind ≡ true) (mentions (own_role kind) ps)) (sym (free is)) tt
        go true is true a' b b' ok = mentions_role (own_role kind) kind (names x.nodes) (type_own kind (covers_passes e.class TypeKind kind a' class))
        go true is false a' true b' ok = mentions_role (own_role kind) kind (names x.nodes) (comment_own kind (covers_passes e.class CommentKind kind b' class))
        go true is false a' false b' ok = cc

-- names that are given for a role
specs_roles : (d : Taking) (n : Class) (s : State) (r : Reading) (w : Walk) → covers s.class (needs_of d) ≡ true → RolesAt s w
    → RolesAt (state s.class true s.loose) (specialised (role_of d) r w)
specs_roles d n s r w need h =
    let f : Draft → Draft = λ x. record x { specs = x.specs ++ mentions (role_of d) (names r.nodes) } in
    let x = draft_at w.elements w.current in
    let here : draft_at (adjusted w.current f w.elements) w.current ≡ f x = at_adjusted w.elements w.current f h.within in
    record {
      fits = every_adjusted_at DraftRoles w.current f w.elements (λ k. record {
        specs = every_append (λ (m : Mention). role_fits m.role x.kind ≡ true) x.specs (mentions (role_of d) (names r.nodes)) k.specs
            (mentions_role (role_of d) x.kind (names r.nodes) (needed_fits d x.kind (covers_passes s.class (needs_of d) x.kind need h.class)));
        own = k.own;
        inner = k.inner;
      }) h.fits;
      class = subst (λ (y : Draft). passes_class s.class y.kind ≡ true) (sym here) h.class;
      clear = λ e. cc;
      own = subst (λ (y : Draft). y.own ≡ []) (sym here) h.own;
      free = h.free;
      within = omega (arith, h.within, length-adjusted w.current f w.elements);
    }

inner_roles : (i : Item) (which : Role) (p : Path) (s : State) (w : Walk) → ((k : Kind) → role_fits which k ≡ true) → RolesAt s w
    → RolesAt s (changed (with_inner i which p) w)
inner_roles i which p s w fits h =
    let f : Draft → Draft = with_inner i which p in
    let here : draft_at (adjusted w.current f w.elements) w.current ≡ f (draft_at w.elements w.current) = at_adjusted w.elements w.current f h.within in
    record {
      fits = every_adjusted_at DraftRoles w.current f w.elements (λ k. record {
        specs = k.specs;
        own = k.own;
        inner = every_append (λ (m : Mention). (k : Kind)
            → role_fits m.role k ≡ true) (draft_at w.elements w.current).inner (mention which p ∷ []) k.inner (fits, tt);
      }) h.fits;
      class = subst (λ (y : Draft). passes_class s.class y.kind ≡ true) (sym here) h.class;
      clear = λ e. subst (λ (y : Draft). y.specs ≡ []) (sym here) (h.clear e);
      own = subst (λ (y : Draft). y.own ≡ []) (sym here) h.own;
      free = h.free;
      within = omega (arith, h.within, length-adjusted w.current f w.elements);
    }

given_roles : (d : Taking) (f : Frame) (r : Reading) (w : Walk) (s : State) → covers s.class (needs_of d) ≡ true → RolesAt s w
    → RolesAt (state s.class (s.taken || is_role d) s.loose) (given d f r w)
given_roles d f r w s need h = go d need where
  or_true : (b : Bool) → (b || true) ≡ true
  or_true true = refl
  or_true false = refl

  or_same : (b : Bool) → (b || false) ≡ b
  or_same true = refl
  or_same false = refl

  with_role : (d : Taking) → covers s.class (needs_of d) ≡ true → RolesAt (state s.class (s.taken || true) s.loose) (specialised (role_of d) r w)
  with_role d need = subst (λ b. RolesAt (state s.class b s.loose) (specialised (role_of d) r w)) (sym (or_true s.taken)) (specs_roles d AnyKind s r w need h)

  without : (v : Walk) → RolesAt s v → RolesAt (state s.class (s.taken || false) s.loose) v
  without v k = subst (λ b. RolesAt (state s.class b s.loose) v) (sym (or_same s.taken)) k

  go : (d : Taking) → covers s.class (needs_of d) ≡ true → RolesAt (state s.class (s.taken || is_role d) s.loose) (given d f r w)
  go taking.Subclass need = with_role taking.Subclass need
  go taking.Typing need = with_role taking.Typing need
  go taking.Subsetting need = with_role taking.Subsetting need
  go taking.Redefinition need = with_role taking.Redefinition need
  go taking.ReferenceSubsetting need = with_role taking.ReferenceSubsetting need
  go taking.Bounds need = without _ (roles_changed s (λ x. record x { bounds = r.nodes }) w (λ x. (refl, refl, refl, refl)) h)
  go taking.Value need = without _ (roles_changed s (λ x. record x { value = Some (expression r) }) w (λ x. (refl, refl, refl, refl)) h)
  go taking.Result need = without _ (roles_changed s (λ x. record x { result = Some (expression r) }) w (λ x. (refl, refl, refl, refl)) h)
  go taking.Alias need =
      let k = inner_roles (item.Member (length w.members)) role.Alias (first_name (names r.nodes)) s w (λ x. refl) h in
      without _ (record { fits = k.fits; class = k.class; clear = k.clear; own = k.own; free = k.free; within = k.within })
  go taking.Import need =
      let k = inner_roles (item.Import (length w.imports)) role.Import (path_or f.place (names r.nodes)) s w (λ x. refl) h in
      without _ (record { fits = k.fits; class = k.class; clear = k.clear; own = k.own; free = k.free; within = k.within })

some_state : (t : Tables) (claims : List RoleClaim) (a : Action) (ss : List Symbol) (o : Option State) (s : State) → states t claims a ss o ≡ Some s
    → (x : State) × (o ≡ Some x)
some_state t claims a ss None s is = cc
some_state t claims a ss (Some x) s is = (x, refl)

closes_some : (s : State) (o : Option State) (s' : State) → closes s o ≡ Some s' → (e : State) × (o ≡ Some e)
closes_some s None s' is = cc
closes_some s (Some e) s' is = (e, refl)

takes_some : (d : Taking) (s : State) (o : Option State) (s' : State) → takes d s o ≡ Some s' → (e : State) × (o ≡ Some e)
takes_some d s None s' is = cc
takes_some d s (Some e) s' is = (e, refl)

-- a state that is stronger than one is one
pub stronger_some : (o : Option State) (e : State) → is_stronger o (Some e) ≡ true → (x : State) × (o ≡ Some x)
stronger_some None e is = cc
stronger_some (Some x) e is = (x, refl)

node_roles : (t : Tables) (claims : List RoleClaim) (a : Action) (ss : List Symbol) (w v : Walk) (s s' : State) → production_state t claims a ss s ≡ Some s'
    → RolesAt s w
    → ((x y : State) → states t claims a ss (Some x) ≡ Some y → RolesAt x (entered a w) → RolesAt y v) → KeepsOthers (entered a w) v
    → RolesAt s' (left a (saved a w) v)
node_roles t claims (action.Element k) ss w v s s' is h on g =
    let c = closes_some s (states t claims (action.Element k) ss (Some (state (class_of k) false false))) s' is in
    element_roles k w v s s' c.0 (ap (closes s) (sym c.1) ∙ is) h (λ inner. on (state (class_of k) false false) c.0 c.1 inner) g
node_roles t claims (action.Take d) ss w v s s' is h on g =
    let c = takes_some d s (states t claims (action.Take d) ss (Some (state s.class s.taken false))) s' is in
    let e = cond_some (covers c.0.class (needs_of d)) (state c.0.class (c.0.taken || is_role d) s.loose) s' (ap (takes d s) (sym c.1) ∙ is) in
    let begun : RolesAt (state s.class s.taken false) (entered (action.Take d) w) =
    record { fits = h.fits; class = h.class; clear = h.clear; own = h.own; free = λ f. refl; within = h.within } in
    let r = on (state s.class s.taken false) c.0 c.1 begun in
    let back : RolesAt (state c.0.class c.0.taken s.loose) (record v { reading = w.reading }) =
    record { fits = r.fits; class = r.class; clear = r.clear; own = r.own; free = h.free; within = r.within } in
    subst (λ x. RolesAt x (left (action.Take d) (saved (action.Take d) w) v)) e.1
    (given_roles d (saved (action.Take d) w) v.reading (record v { reading = w.reading }) (state c.0.class c.0.taken s.loose) e.0 back)
node_roles t claims action.NamedEnd ss w v s s' is h on g = on s s' is (roles_read s w (entered action.NamedEnd w) refl refl (λ f. refl) h)
node_roles t claims action.Level ss w v s s' is h on g =
    let r = on s s' is (roles_read s w (entered action.Level w) refl refl (λ f. h.free f) h) in
    roles_read s' v (left action.Level (saved action.Level w) v) refl refl (λ f. applied_free v.reading.nodes v.reading.operator (r.free f)) r
node_roles t claims action.Tail ss w v s s' is h on g = on s s' is
    (roles_read s w (entered action.Tail w) refl refl (λ f. joined_free w.reading.nodes w.reading.operator (h.free f)) h)
node_roles t claims other ss w v s s' is h on g = on s s' is h

-- a walk over a derivation is at the state that the claims give
pub walk_roles : (t : Tables) (claims : List RoleClaim) (text : List ℕ) (g : Table) → all_roles t claims 0 g.rules ≡ true
    → (f : Forest) (ss : List Symbol) (a : Action) (ks : List ℕ) (w : Walk) (s s' : State)
    → IsDerivation g ss f → IsAt (tokens f ++ ks) w → states t claims a ss (Some s) ≡ Some s' → RolesAt s w → RolesAt s' (walk t text a f w)
walk_roles t claims text g ok Nothing [] a ks w s s' d at e h = let same : s ≡ s' = cc in subst (λ x. RolesAt x w) same h
walk_roles t claims text g ok Nothing (Terminal k ∷ ss) a ks w s s' d at e h = absurd d
walk_roles t claims text g ok Nothing (Inner b ∷ ss) a ks w s s' d at e h = absurd d
walk_roles t claims text g ok (Leaf j f) [] a ks w s s' d at e h = absurd d
walk_roles t claims text g ok (Leaf j f) (Inner b ∷ ss) a ks w s s' d at e h = absurd d
walk_roles t claims text g ok (Leaf j f) (Terminal k ∷ ss) a ks w s s' d at e h =
    let x = some_state t claims a ss (token_state a (meaning_at t k) s) s' e in
    let same : meaning_at t j ≡ meaning_at t k = ap (meaning_at t) d.0 in
    let one = taken_roles t text a j (tokens f ++ ks) w w.rest s x.0 refl at (ap (λ m. token_state a m s) same ∙ x.1) h in
    walk_roles t claims text g ok f ss a ks (taken t text a w) x.0 s' d.1 (at_taken t text a j (tokens f ++ ks) w w.rest refl at)
    (ap (states t claims a ss) (sym x.1) ∙ e) one
walk_roles t claims text g ok (Branch p below f) [] a ks w s s' d at e h = absurd d
walk_roles t claims text g ok (Branch p below f) (Terminal k ∷ ss) a ks w s s' d at e h = absurd d
walk_roles t claims text g ok (Branch p below f) (Inner c ∷ ss) a ks w s s' d at e h =
    let r : Rule = d.0.0 in
    let b = action_at t p in
    let v = walk t text b below (entered b w) in
    let x = some_state t claims a ss (claimed (role_claim_at claims c) s) s' e in
    let zero_add : 0 + p ≡ p = omega arith in
    let meets = subst (λ y. meets_all t claims (role_claim_at claims y) b r.right ≡ true) d.0.2
    (subst (λ q. meets_all t claims (role_claim_at claims r.left) (action_at t q) r.right ≡ true) zero_add (rule_roles t claims 0 p g.rules r ok d.0.1)) in
    let strong : is_stronger (production_state t claims b r.right s) (Some x.0) ≡ true =
    ap (is_stronger (production_state t claims b r.right s)) (sym x.1) ∙ state_meets t claims (role_claim_at claims c) b r.right meets s in
    let y = stronger_some (production_state t claims b r.right s) x.0 strong in
    let here : IsAt (tokens below ++ (tokens f ++ ks)) w = record { kinds = at.kinds ∙ append_assoc (tokens below) (tokens f) ks; numbers = at.numbers } in
    let begun : IsAt (tokens below ++ (tokens f ++ ks)) (entered b w) = at_same (tokens below ++ (tokens f ++ ks)) w (entered b w) (rest_entered b w) here in
    let one = node_roles t claims b r.right w v s y.0 y.1 h
    (λ q q' z k. walk_roles t claims text g ok below r.right b (tokens f ++ ks) (entered b w) q q' d.0.3 begun z k)
    (walk_keeps t text b below (entered b w) (entered_within b w h.within)) in
    let weak = weaken y.0 x.0 (left b (saved b w) v) (ap (λ o. is_stronger o (Some x.0)) (sym y.1) ∙ strong) one in
    let after : IsAt (tokens f ++ ks) (left b (saved b w) v) =
    at_same (tokens f ++ ks) v (left b (saved b w) v) (rest_left b (saved b w) v) (walk_at t text b below (tokens f ++ ks) (entered b w) begun) in
    walk_roles t claims text g ok f ss a ks (left b (saved b w) v) x.0 s' d.1 after (ap (states t claims a ss) (sym x.1) ∙ e) weak
