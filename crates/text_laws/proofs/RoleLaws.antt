-- What the claims about roles say holds of the walk over each derivation.
use Rattle.std.proofs.Common.{◌≡◌, ℕ, zero, suc, ◌+◌, ◌<◌, Bool, true, false, ◌&&◌, cond, List, [], ◌∷◌, ◌++◌, length, refl, ap, sym, subst, ◌∙◌, arith}
use Rattle.std.specs.Prelude.{slice_get, not, ◌||◌, Option, Some, None}
use Rattle.std.specs.List.{list_all}
use Rattle.element_store.specs.declared.kind.Kind.{Kind}
use Rattle.element_store.specs.declared.kind.Kind.TheVariants as kind
use Rattle.element_store.specs.declared.outcome.Role.{Role}
use Rattle.element_store.specs.declared.outcome.Role.TheVariants as role
use Rattle.element_store.specs.Kinds.{is_type, is_feature, is_comment}
use Rattle.element_store.specs.Condition.{role_fits}
use Rattle.token_core.specs.declared.token.Token.{Token}
use Rattle.token_core.specs.Reading.{bytes_of, name_meaning}
use Rattle.ll_core.specs.declared.grammar.Symbol.{Symbol}
use Rattle.ll_core.specs.Table.{Rule}
use Rattle.text_model.specs.declared.action.Action.{Action}
use Rattle.text_model.specs.declared.action.Action.TheVariants as action
use Rattle.text_model.specs.declared.action.Taking.{Taking}
use Rattle.text_model.specs.declared.action.Taking.TheVariants as taking
use Rattle.text_model.specs.declared.action.Operator.{Operator}
use Rattle.text_model.specs.declared.action.Meaning.{Meaning}
use Rattle.text_model.specs.declared.action.Meaning.TheVariants as meaning
use Rattle.text_model.specs.declared.draft.Path.{Path}
use Rattle.text_model.specs.declared.draft.Draft.{Draft}
use Rattle.text_model.specs.Tables.{Tables, action_at, meaning_of}
use Rattle.text_model.specs.Drafts.{definition_of, name_in, names, named_changed, last_changed, joining, joined, applying, applied, mentions, own_role, adjusted}
use Rattle.token_core.specs.Terminals.{terminal, HasNumber}
use Rattle.text_model.specs.declared.action.Operator.TheVariants as operator
use Rattle.element_store.specs.declared.expression.BinaryOp.TheVariants as binary
use Rattle.text_model.specs.declared.action.Leaf.{Leaf as LeafWord}
use Rattle.text_model.specs.declared.action.Leaf.TheVariants as leaf
use Rattle.text_model.specs.declared.draft.What.{What}
use Rattle.text_model.specs.declared.draft.What.TheVariants as what
use Rattle.text_model.specs.declared.draft.DraftNode.{DraftNode}
use Rattle.text_model.specs.declared.draft.Waiting.{Waiting}
use Rattle.text_model.specs.Profile.{kinds_of}
use Rattle.text_model.specs.Wholes.{meaning_at}
use Rattle.text_laws.proofs.WholeLaws.{IsAt, meaning_same}
use Rattle.text_model.specs.Walk.{leaf_node, meant_name, meant_operator, Walk, changed, meant, taken_from}
use Rattle.text_model.specs.Numbering.{draft_at}
use Rattle.text_laws.specs.Fits.{Every}
use Rattle.text_model.specs.Roles.{Class, AnyKind, TypeKind, FeatureKind, CommentKind, RootKind, passes_class, covers, class_of, State, state, RoleClaim, role_claim_at, claimed, production_state, needs_of, begins_name, token_state, implies, is_stronger, flags, meets_roles, meets_all, all_roles}
use Rattle.text_laws.proofs.ListLemmas.{length-adjusted}
use Rattle.linker_base.proofs.Cases.{both_true}
use Rattle.text_laws.proofs.ListLemmas.{names-append}

-- Classes.

pub feature_type : (k : Kind) → is_feature k ≡ true → is_type k ≡ true
feature_type kind.Root e = cc
feature_type kind.Namespace e = cc
feature_type kind.Package e = cc
feature_type kind.Comment e = cc
feature_type kind.Documentation e = cc
feature_type other e = refl

-- a class that another covers
pub covers_passes : (n m : Class) (k : Kind) → covers n m ≡ true → passes_class n k ≡ true → passes_class m k ≡ true
covers_passes n AnyKind k e h = refl
covers_passes TypeKind TypeKind k e h = h
covers_passes FeatureKind TypeKind k e h = feature_type k h
covers_passes FeatureKind FeatureKind k e h = h
covers_passes CommentKind CommentKind k e h = h
covers_passes RootKind RootKind k e h = h
covers_passes n m k e h = cc

-- each kind passes its own class
pub own_class : (k : Kind) → passes_class (class_of k) k ≡ true
own_class k = go (is_feature k) refl (is_type k) refl (is_comment k) refl where
  go : (f : Bool) → is_feature k ≡ f → (t : Bool) → is_type k ≡ t → (c : Bool) → is_comment k ≡ c
      → passes_class (cond f FeatureKind (cond t TypeKind (cond c CommentKind AnyKind))) k ≡ true
  go true f t t' c c' = f
  go false f true t c c' = t
  go false f false t true c = c
  go false f false t false c = refl

pub definition_type : (k : Kind) → is_type k ≡ true → is_type (definition_of k) ≡ true
definition_type kind.Attribute e = refl
definition_type kind.Enumeration e = refl
definition_type kind.Occurrence e = refl
definition_type kind.Item e = refl
definition_type kind.Part e = refl
definition_type kind.Port e = refl
definition_type kind.Connection e = refl
definition_type kind.Interface e = refl
definition_type kind.Action e = refl
definition_type kind.Calc e = refl
definition_type kind.Constraint e = refl
definition_type kind.Requirement e = refl
definition_type other e = e

-- what a taking gives fits a kind of the class that it needs
abbrev pub role_of : Taking → Role
role_of taking.Subclass = role.Subclass
role_of taking.Typing = role.Typing
role_of taking.Subsetting = role.Subsetting
role_of taking.Redefinition = role.Redefinition
role_of taking.ReferenceSubsetting = role.ReferenceSubsetting
role_of other = role.Value

-- a role fits the kinds that its taking needs
pub needed_fits : (d : Taking) (k : Kind) → passes_class (needs_of d) k ≡ true → role_fits (role_of d) k ≡ true
needed_fits taking.Subclass k e = e
needed_fits taking.Typing k e = e
needed_fits taking.Subsetting k e = e
needed_fits taking.Redefinition k e = e
needed_fits taking.ReferenceSubsetting k e = e
needed_fits other k e = refl

-- own names fit a type or a comment
pub type_own : (k : Kind) → is_type k ≡ true → role_fits (own_role k) k ≡ true
type_own kind.Comment e = refl
type_own other e = e

-- what a comment is about fits it
pub comment_own : (k : Kind) → is_comment k ≡ true → role_fits (own_role k) k ≡ true
comment_own kind.Comment e = refl
comment_own other e = cc

-- Facts of the tests.

four_pass : (test : State → Bool) (n : Class) → list_all test (flags n) ≡ true → (t l : Bool) → test (state n t l) ≡ true
four_pass test n e t l =
    let a = both_true (test (state n false false)) (list_all test (state n false true ∷ state n true false ∷ state n true true ∷ [])) e in
    let b = both_true (test (state n false true)) (list_all test (state n true false ∷ state n true true ∷ [])) a.1 in
    let c = both_true (test (state n true false)) (list_all test (state n true true ∷ [])) b.1 in
    let d = both_true (test (state n true true)) (list_all test []) c.1 in
    go t l a.0 b.0 c.0 d.0 where
      go : (t l : Bool) → test (state n false false) ≡ true → test (state n false true) ≡ true → test (state n true false) ≡ true
          → test (state n true true) ≡ true → test (state n t l) ≡ true
      go false false a b c d = a
      go false true a b c d = b
      go true false a b c d = c
      go true true a b c d = d

-- what the test says of one production and one state
pub state_meets : (t : Tables) (claims : List RoleClaim) (c : RoleClaim) (a : Action) (ss : List Symbol) → meets_all t claims c a ss ≡ true → (s : State)
    → is_stronger (production_state t claims a ss s) (claimed c s) ≡ true
state_meets t claims c a ss ok s =
    let test : State → Bool = meets_roles t claims c a ss in
    let x0 = both_true (list_all test (flags AnyKind)) (list_all test (flags TypeKind)
    && (list_all test (flags FeatureKind) && (list_all test (flags CommentKind) && list_all test (flags RootKind)))) ok in
    let x1 = both_true (list_all test (flags TypeKind)) (list_all test (flags FeatureKind)
    && (list_all test (flags CommentKind) && list_all test (flags RootKind))) x0.1 in
    let x2 = both_true (list_all test (flags FeatureKind)) (list_all test (flags CommentKind) && list_all test (flags RootKind)) x1.1 in
    let x3 = both_true (list_all test (flags CommentKind)) (list_all test (flags RootKind)) x2.1 in
    go s.class x0.0 x1.0 x2.0 x3.0 x3.1 where
      go : (n : Class) → list_all (meets_roles t claims c a ss) (flags AnyKind) ≡ true → list_all (meets_roles t claims c a ss) (flags TypeKind) ≡ true
          → list_all (meets_roles t claims c a ss) (flags FeatureKind) ≡ true
          → list_all (meets_roles t claims c a ss) (flags CommentKind) ≡ true → list_all (meets_roles t claims c a ss) (flags RootKind) ≡ true
          → meets_roles t claims c a ss (state n s.taken s.loose) ≡ true
      go AnyKind p q u v x = four_pass (meets_roles t claims c a ss) AnyKind p s.taken s.loose
      go TypeKind p q u v x = four_pass (meets_roles t claims c a ss) TypeKind q s.taken s.loose
      go FeatureKind p q u v x = four_pass (meets_roles t claims c a ss) FeatureKind u s.taken s.loose
      go CommentKind p q u v x = four_pass (meets_roles t claims c a ss) CommentKind v s.taken s.loose
      go RootKind p q u v x = four_pass (meets_roles t claims c a ss) RootKind x s.taken s.loose

-- what it says of one of all
pub rule_roles : (t : Tables) (claims : List RoleClaim) (n p : ℕ) (rs : List Rule) (r : Rule) → all_roles t claims n rs ≡ true → slice_get rs p ≡ Some r
    → meets_all t claims (role_claim_at claims r.left) (action_at t (n + p)) r.right ≡ true
rule_roles t claims n p [] r ok at = cc
rule_roles t claims n zero (x ∷ rs) r ok at =
    let same : x ≡ r = cc in
    let b = both_true (meets_all t claims (role_claim_at claims x.left) (action_at t n) x.right) (all_roles t claims (suc n) rs) ok in
    let z : n ≡ n + 0 = omega arith in
    subst (λ k. meets_all t claims (role_claim_at claims r.left) (action_at t k) r.right ≡ true) z
    (subst (λ (y : Rule). meets_all t claims (role_claim_at claims y.left) (action_at t n) y.right ≡ true) same b.0)
rule_roles t claims n (suc p) (x ∷ rs) r ok at =
    let b = both_true (meets_all t claims (role_claim_at claims x.left) (action_at t n) x.right) (all_roles t claims (suc n) rs) ok in
    let z : suc n + p ≡ n + suc p = omega arith in
    subst (λ k. meets_all t claims (role_claim_at claims r.left) (action_at t k) r.right ≡ true) z (rule_roles t claims (suc n) p rs r b.1 at)

-- The draft that is open, and the others.

-- the draft that is changed
pub at_adjusted : (ds : List Draft) (c : ℕ) (f : Draft → Draft) → c < length ds → draft_at (adjusted c f ds) c ≡ f (draft_at ds c)
at_adjusted [] c f below = absurd (omega (arith, below))
at_adjusted (d ∷ ds) zero f below = refl
at_adjusted (d ∷ ds) (suc c) f below = at_adjusted ds c f (omega (arith, below))

-- the others
pub at_other : (ds : List Draft) (c e : ℕ) (f : Draft → Draft) → (e ≡ c → ⊥) → draft_at (adjusted c f ds) e ≡ draft_at ds e
at_other [] c e f other = refl
at_other (d ∷ ds) zero zero f other = absurd (other refl)
at_other (d ∷ ds) zero (suc e) f other = refl
at_other (d ∷ ds) (suc c) zero f other = refl
at_other (d ∷ ds) (suc c) (suc e) f other = at_other ds c e f (λ same. other (ap suc same))

-- a draft before the end
pub at_front : (ds xs : List Draft) (e : ℕ) → e < length ds → draft_at (ds ++ xs) e ≡ draft_at ds e
at_front [] xs e below = absurd (omega (arith, below))
at_front (d ∷ ds) xs zero below = refl
at_front (d ∷ ds) xs (suc e) below = at_front ds xs e (omega (arith, below))

-- the last draft
pub at_last : (ds : List Draft) (d : Draft) (n : ℕ) → n ≡ length ds → draft_at (ds ++ d ∷ []) n ≡ d
at_last [] d zero is = refl
at_last [] d (suc n) is = absurd (omega (arith, is))
at_last (x ∷ ds) d zero is = absurd (omega (arith, is))
at_last (x ∷ ds) d (suc n) is = at_last ds d n (omega (arith, is))

-- one draft changed, where all are good
pub every_adjusted_at : (P : Draft → Type 0) (c : ℕ) (f : Draft → Draft) (ds : List Draft) → (P (draft_at ds c) → P (f (draft_at ds c))) → Every P ds
    → Every P (adjusted c f ds)
every_adjusted_at P c f [] on e = tt
every_adjusted_at P zero f (d ∷ ds) on e = (on e.0, e.1)
every_adjusted_at P (suc c) f (d ∷ ds) on e = (e.0, every_adjusted_at P c f ds on e.1)

-- What stands before and after.

-- the roles of a draft's names fit its kind
pub record DraftRoles (d : Draft) : Type 0 where
  pub specs : Every (λ m. role_fits m.role d.kind ≡ true) d.specs
  pub own : Every (λ m. role_fits m.role d.kind ≡ true) (mentions (own_role d.kind) d.own)
  pub inner : Every (λ m. (k : Kind) → role_fits m.role k ≡ true) d.inner

-- the open element and the reading are at a state
pub record RolesAt (s : State) (w : Walk) : Type 0 where
  pub fits : Every DraftRoles w.elements
  pub class : passes_class s.class (draft_at w.elements w.current).kind ≡ true
  pub clear : s.taken ≡ false → (draft_at w.elements w.current).specs ≡ []
  pub own : (draft_at w.elements w.current).own ≡ []
  pub free : s.loose ≡ false → names w.reading.nodes ≡ []
  pub within : w.current < length w.elements

implied : (a b : Bool) → implies a b ≡ true → b ≡ false → a ≡ false
implied true b e f = cc
implied false b e f = refl

-- what is at a state is at each weaker one
pub weaken : (s e : State) (w : Walk) → is_stronger (Some s) (Some e) ≡ true → RolesAt s w → RolesAt e w
weaken s e w is h =
    let a = both_true (covers s.class e.class) (implies s.taken e.taken && implies s.loose e.loose) is in
    let b = both_true (implies s.taken e.taken) (implies s.loose e.loose) a.1 in
    record {
      fits = h.fits;
      class = covers_passes s.class e.class (draft_at w.elements w.current).kind a.0 h.class;
      clear = λ f. h.clear (implied s.taken e.taken b.0 f);
      own = h.own;
      free = λ f. h.free (implied s.loose e.loose b.1 f);
      within = h.within;
    }

-- a step that touches the reading alone
pub roles_read : (s : State) (w v : Walk) → v.elements ≡ w.elements → v.current ≡ w.current → (s.loose ≡ false → names v.reading.nodes ≡ []) → RolesAt s w
    → RolesAt s v
roles_read s w v elements current free h = record {
  fits = subst (Every DraftRoles) (sym elements) h.fits;
  class = subst (λ ds. passes_class s.class (draft_at ds v.current).kind ≡ true) (sym elements)
      (subst (λ c. passes_class s.class (draft_at w.elements c).kind ≡ true) (sym current) h.class);
  clear = λ f. subst (λ ds. (draft_at ds v.current).specs ≡ []) (sym elements) (subst (λ c. (draft_at w.elements c).specs ≡ []) (sym current) (h.clear f));
  own = subst (λ ds. (draft_at ds v.current).own ≡ []) (sym elements) (subst (λ c. (draft_at w.elements c).own ≡ []) (sym current) h.own);
  free = free;
  within = omega (arith, h.within, current, ap length elements);
}

-- a step that touches the open draft's other parts alone
pub roles_changed : (s : State) (f : Draft → Draft) (w : Walk)
    → ((d : Draft) → ((f d).kind ≡ d.kind) × ((f d).specs ≡ d.specs) × ((f d).own ≡ d.own) × ((f d).inner ≡ d.inner)) → RolesAt s w → RolesAt s (changed f w)
roles_changed s f w same h =
    let d = draft_at w.elements w.current in
    let here : draft_at (adjusted w.current f w.elements) w.current ≡ f d = at_adjusted w.elements w.current f h.within in
    record {
      fits = every_adjusted_at DraftRoles w.current f w.elements (λ k. record {
        specs = subst (λ x. Every (λ m. role_fits m.role x ≡ true) (f d).specs) (sym (same d).0)
            (subst (λ x. Every (λ m. role_fits m.role d.kind ≡ true) x) (sym (same d).1) k.specs);
        own = subst (λ x. Every (λ m. role_fits m.role x ≡ true) (mentions (own_role x) (f d).own)) (sym (same d).0)
            (subst (λ x. Every (λ m. role_fits m.role d.kind ≡ true) (mentions (own_role d.kind) x)) (sym (same d).2) k.own);
        inner = subst (λ x. Every (λ m. (k : Kind) → role_fits m.role k ≡ true) x) (sym (same d).3) k.inner;
      }) h.fits;
      class = subst (λ (x : Draft). passes_class s.class x.kind ≡ true) (sym here) (subst (λ k. passes_class s.class k ≡ true) (sym (same d).0) h.class);
      clear = λ e. subst (λ (x : Draft). x.specs ≡ []) (sym here) ((same d).1 ∙ h.clear e);
      own = subst (λ (x : Draft). x.own ≡ []) (sym here) ((same d).2 ∙ h.own);
      free = h.free;
      within = omega (arith, h.within, length-adjusted w.current f w.elements);
    }

-- Names in the reading.

empty_both : {A : Type 0} (xs ys : List A) → xs ++ ys ≡ [] → (xs ≡ []) × (ys ≡ [])
empty_both [] ys e = (refl, e)
empty_both (x ∷ xs) ys e = cc

pushed_free : (ns : List DraftNode) (x : DraftNode) → name_in x.what ≡ [] → names ns ≡ [] → names (ns ++ x ∷ []) ≡ []
pushed_free ns x none free = names-append ns (x ∷ []) ∙ (ap (λ ps. ps ++ (name_in x.what ++ [])) free ∙ ap (λ ps. ps ++ []) none)

last_free : (f : Path → Path) (ns : List DraftNode) → names ns ≡ [] → names (last_changed f ns) ≡ []
last_free f [] e = refl
last_free f (x ∷ []) e = one x.what (empty_both (name_in x.what) [] e).0 where
  one : (w : What) → name_in w ≡ [] → name_in (named_changed f w) ++ [] ≡ []
  one (what.Named p) e = cc
  one other e = ap (λ ps. ps ++ []) e
last_free f (x ∷ y ∷ ns) e =
    let b = empty_both (name_in x.what) (names (y ∷ ns)) e in
    ap (λ ps. ps ++ names (last_changed f (y ∷ ns))) b.0 ∙ last_free f (y ∷ ns) b.1

leaf_free : (l : LeafWord) → name_in (leaf_node l) ≡ []
leaf_free (leaf.Boolean b) = refl
leaf_free leaf.Null = refl
leaf_free other = refl

joining_free : (o : Operator) (place : ℕ) → names (joining o place) ≡ []
joining_free (operator.Binary b) place = refl
joining_free other place = refl

applying_free : (o : Operator) (place : ℕ) → names (applying o place) ≡ []
applying_free operator.If place = refl
applying_free operator.Not place = refl
applying_free (operator.Binary binary.Subtract) place = refl
applying_free (operator.Binary binary.Add) place = refl
applying_free other place = refl

-- operators bring no names
pub joined_free : (ns : List DraftNode) (o : Option Waiting) → names ns ≡ [] → names (joined ns o) ≡ []
joined_free ns None e = e
joined_free ns (Some w) e = names-append ns (joining w.operator w.place)
    ∙ (ap (λ ps. ps ++ names (joining w.operator w.place)) e ∙ joining_free w.operator w.place)

-- nor do signs
pub applied_free : (ns : List DraftNode) (o : Option Waiting) → names ns ≡ [] → names (applied ns o) ≡ []
applied_free ns None e = e
applied_free ns (Some w) e = names-append ns (applying w.operator w.place)
    ∙ (ap (λ ps. ps ++ names (applying w.operator w.place)) e ∙ applying_free w.operator w.place)

-- Tokens.

same_state : (s s' : State) (w : Walk) → Some s ≡ Some s' → RolesAt s w → RolesAt s' w
same_state s s' w is h = let e : s ≡ s' = cc in subst (λ x. RolesAt x w) e h

pub or_false : (a b : Bool) → (a || b) ≡ false → (a ≡ false) × (b ≡ false)
or_false true b e = cc
or_false false b e = (refl, e)

roles_loose : (s : State) (b : Bool) (w v : Walk) → v.elements ≡ w.elements → v.current ≡ w.current
    → (b ≡ false → names w.reading.nodes ≡ [] → names v.reading.nodes ≡ []) → RolesAt s w
    → RolesAt (state s.class s.taken (s.loose || b)) v
roles_loose s b w v elements current free h =
    let k : RolesAt (state s.class s.taken (s.loose || b)) w =
    record { fits = h.fits; class = h.class; clear = h.clear; own = h.own; free = λ f. h.free (or_false s.loose b f).0; within = h.within } in
    roles_read (state s.class s.taken (s.loose || b)) w v elements current (λ f. free (or_false s.loose b f).1 (h.free (or_false s.loose b f).0)) k

name_roles : (a : Action) (t : Token) (bytes : List ℕ) (w : Walk) (s s' : State) → Some (state s.class s.taken (s.loose || begins_name a)) ≡ Some s'
    → RolesAt s w → RolesAt s' (meant_name a t bytes w)
name_roles action.Name t bytes w s s' is h = same_state (state s.class s.taken (s.loose || false)) s' (meant_name action.Name t bytes w) is
    (roles_loose s false w (meant_name action.Name t bytes w) refl refl (λ b e. e) h)
name_roles action.Short t bytes w s s' is h = same_state (state s.class s.taken (s.loose || false)) s' (meant_name action.Short t bytes w) is
    (roles_loose s false w (meant_name action.Short t bytes w) refl refl (λ b e. e) h)
name_roles action.Segment t bytes w s s' is h = same_state (state s.class s.taken (s.loose || false)) s' (meant_name action.Segment t bytes w) is
    (roles_loose s false w (meant_name action.Segment t bytes w) refl refl (λ b e. last_free _ w.reading.nodes e) h)
name_roles action.Step t bytes w s s' is h = same_state (state s.class s.taken (s.loose || false)) s' (meant_name action.Step t bytes w) is
    (roles_loose s false w (meant_name action.Step t bytes w) refl refl (λ b e. last_free _ w.reading.nodes e) h)
name_roles other t bytes w s s' is h = same_state (state s.class s.taken (s.loose || true)) s' (meant_name other t bytes w) is
    (roles_loose s true w (meant_name other t bytes w) refl refl (λ b e. cc) h)

operator_roles : (a : Action) (o : Operator) (place : ℕ) (w : Walk) (s : State) → RolesAt s w → RolesAt s (meant_operator a o place w)
operator_roles action.Star o place w s h = roles_read s w (meant_operator action.Star o place w) refl refl
    (λ f. pushed_free w.reading.nodes _ refl (h.free f)) h
operator_roles other o place w s h = roles_read s w (meant_operator other o place w) refl refl (λ f. h.free f) h

-- the kind of a draft with no names yet
kind_roles : (n : Class) (l : Bool) (s : State) (f : Draft → Draft) (w : Walk)
    → ((d : Draft) → ((f d).specs ≡ d.specs) × ((f d).own ≡ d.own) × ((f d).inner ≡ d.inner)) → s.taken ≡ false → (l ≡ false → s.loose ≡ false)
    → passes_class n (f (draft_at w.elements w.current)).kind ≡ true → RolesAt s w → RolesAt (state n false l) (changed f w)
kind_roles n l s f w same clear free class h =
    let d = draft_at w.elements w.current in
    let here : draft_at (adjusted w.current f w.elements) w.current ≡ f d = at_adjusted w.elements w.current f h.within in
    let specs : (f d).specs ≡ [] = (same d).0 ∙ h.clear clear in
    let own : (f d).own ≡ [] = (same d).1 ∙ h.own in
    record {
      fits = every_adjusted_at DraftRoles w.current f w.elements (λ k. record {
        specs = subst (λ x. Every (λ m. role_fits m.role (f d).kind ≡ true) x) (sym specs) tt;
        own = subst (λ x. Every (λ m. role_fits m.role (f d).kind ≡ true) (mentions (own_role (f d).kind) x)) (sym own) tt;
        inner = subst (λ x. Every (λ m. (k : Kind) → role_fits m.role k ≡ true) x) (sym (same d).2) k.inner;
      }) h.fits;
      class = subst (λ (x : Draft). passes_class n x.kind ≡ true) (sym here) class;
      clear = λ e. subst (λ (x : Draft). x.specs ≡ []) (sym here) specs;
      own = subst (λ (x : Draft). x.own ≡ []) (sym here) own;
      free = λ e. h.free (free e);
      within = omega (arith, h.within, length-adjusted w.current f w.elements);
    }

meant_roles : (text : List ℕ) (a : Action) (m : Meaning) (t : Token) (w : Walk) (s s' : State) → token_state a m s ≡ Some s' → RolesAt s w
    → RolesAt s' (meant text a m t w)
meant_roles text a meaning.Nothing t w s s' is h = same_state s s' w is h
meant_roles text a (meaning.Mark m) t w s s' is h = same_state s s' _ is (roles_changed s _ w (λ d. (refl, refl, refl, refl)) h)
meant_roles text a (meaning.Direction way) t w s s' is h = same_state s s' _ is (roles_changed s _ w (λ d. (refl, refl, refl, refl)) h)
meant_roles text a (meaning.PartOf part) t w s s' is h = same_state s s' _ is (roles_changed s _ w (λ d. (refl, refl, refl, refl)) h)
meant_roles text a (meaning.Visibility v) t w s s' is h =
    same_state s s' _ is (roles_read s w (meant text a (meaning.Visibility v) t w) refl refl (λ f. h.free f) h)
meant_roles text a (meaning.Kind k) t w s s' is h = go s.taken refl is where
  go : (b : Bool) → s.taken ≡ b → cond b None (Some (state (class_of k) false s.loose)) ≡ Some s' → RolesAt s' (meant text a (meaning.Kind k) t w)
  go true same is = cc
  go false same is = same_state (state (class_of k) false s.loose) s' (meant text a (meaning.Kind k) t w) is
      (kind_roles (class_of k) s.loose s (λ d. record d { kind = k }) w (λ d. (refl, refl, refl)) same (λ e. e) (own_class k) h)
meant_roles text a meaning.Def t w s s' is h = go s.taken refl (covers s.class TypeKind) refl is where
  go : (b : Bool) → s.taken ≡ b → (c : Bool) → covers s.class TypeKind ≡ c → cond (b || not c) None (Some (state TypeKind false s.loose)) ≡ Some s'
      → RolesAt s' (meant text a meaning.Def t w)
  go true same c covered is = cc
  go false same false covered is = cc
  go false same true covered is = same_state (state TypeKind false s.loose) s' (meant text a meaning.Def t w) is
      (kind_roles TypeKind s.loose s (λ d. record d { kind = definition_of d.kind }) w (λ d. (refl, refl, refl)) same (λ e. e)
      (definition_type (draft_at w.elements w.current).kind (covers_passes s.class TypeKind (draft_at w.elements w.current).kind covered h.class)) h)
meant_roles text a meaning.Comment t w s s' is h = same_state s s' _ is (roles_changed s _ w (λ d. (refl, refl, refl, refl)) h)
meant_roles text a meaning.Text t w s s' is h = same_state s s' _ is
    (roles_read s w (meant text a meaning.Text t w) refl refl (λ f. pushed_free w.reading.nodes _ refl (h.free f)) h)
meant_roles text a meaning.Integer t w s s' is h = same_state s s' _ is
    (roles_read s w (meant text a meaning.Integer t w) refl refl (λ f. pushed_free w.reading.nodes _ refl (h.free f)) h)
meant_roles text a (meaning.Leaf l) t w s s' is h = same_state s s' _ is
    (roles_read s w (meant text a (meaning.Leaf l) t w) refl refl (λ f. pushed_free w.reading.nodes _ (leaf_free l) (h.free f)) h)
meant_roles text a meaning.Name t w s s' is h = name_roles a t (name_meaning (bytes_of text t)) w s s' is h
meant_roles text a meaning.Absolute t w s s' is h = same_state s s' _ is (roles_read s w (meant text a meaning.Absolute t w) refl refl (λ f. h.free f) h)
meant_roles text a (meaning.Operator o) t w s s' is h = same_state s s' _ is (operator_roles a o t.from w s h)

-- a token takes a state to the next
pub taken_roles : (t : Tables) (text : List ℕ) (a : Action) (k : ℕ) (ks : List ℕ) (w : Walk) (ts : List Token) (s s' : State) → w.rest ≡ ts → IsAt (k ∷ ks) w
    → token_state a (meaning_at t k) s ≡ Some s' → RolesAt s w
    → RolesAt s' (taken_from t text a ts w)
taken_roles t text a k ks w [] s s' is at e h = let x : kinds_of w.rest ≡ [] = ap kinds_of is in let y : kinds_of w.rest ≡ k ∷ ks = at.kinds in cc
taken_roles t text a k ks w (x ∷ ts) s s' is at e h =
    let all : kinds_of (x ∷ ts) ≡ k ∷ ks = ap kinds_of (sym is) ∙ at.kinds in
    let one : terminal x.kind ≡ k = cc in
    let n = subst (Every (λ (y : Token). HasNumber y.kind)) is at.numbers in
    let m : meaning_at t k ≡ meaning_of t x.kind = ap (meaning_at t) (sym one) ∙ meaning_same t x.kind n.0 in
    meant_roles text a (meaning_of t x.kind) x (record w { rest = ts }) s s' (ap (λ y. token_state a y s) (sym m) ∙ e)
    (roles_read s w (record w { rest = ts }) refl refl (λ f. h.free f) h)
