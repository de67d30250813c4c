-- What productions do to the kind of the element that is open and to its names, as a test of the tables alone.
use Rattle.std.specs.Prelude.{ℕ, suc, Bool, true, false, not, ◌&&◌, ◌||◌, cond, Option, Some, None, List, [], ◌∷◌, slice_index_or}
use Rattle.std.specs.List.{list_all}
use Rattle.ll_core.specs.declared.grammar.Symbol.{Symbol}
use Rattle.ll_core.specs.declared.grammar.Symbol.TheVariants.{Terminal, Inner}
use Rattle.ll_core.specs.Table.{Rule, Table}
use Rattle.element_store.specs.declared.kind.Kind.{Kind}
use Rattle.element_store.specs.declared.kind.Kind.TheVariants as kind
use Rattle.element_store.specs.Kinds.{is_type, is_feature, is_comment}
use Rattle.text_model.specs.declared.action.Action.{Action}
use Rattle.text_model.specs.declared.action.Action.TheVariants as action
use Rattle.text_model.specs.declared.action.Taking.{Taking}
use Rattle.text_model.specs.declared.action.Taking.TheVariants as taking
use Rattle.text_model.specs.declared.action.Meaning.{Meaning}
use Rattle.text_model.specs.declared.action.Meaning.TheVariants as meaning
use Rattle.text_model.specs.Tables.{Tables, action_at}
use Rattle.text_model.specs.Wholes.{meaning_at}

-- Classes of kinds: any, types, features, comments, the root.

abbrev pub is_root : Kind → Bool
is_root kind.Root = true
is_root other = false

pub data Class : Type 0 where
  AnyKind : Class
  TypeKind : Class
  FeatureKind : Class
  CommentKind : Class
  RootKind : Class

abbrev pub passes_class : Class → Kind → Bool
passes_class AnyKind k = true
passes_class TypeKind k = is_type k
passes_class FeatureKind k = is_feature k
passes_class CommentKind k = is_comment k
passes_class RootKind k = is_root k

-- kinds of the first class are of the second
abbrev pub covers : Class → Class → Bool
covers n AnyKind = true
covers TypeKind TypeKind = true
covers FeatureKind TypeKind = true
covers FeatureKind FeatureKind = true
covers CommentKind CommentKind = true
covers RootKind RootKind = true
covers n m = false

abbrev pub class_of : Kind → Class
class_of k = cond (is_feature k) FeatureKind (cond (is_type k) TypeKind (cond (is_comment k) CommentKind AnyKind))

-- the class of the element that is open, whether names were taken for a role of it, and whether names were left in it
pub record State : Type 0 where
  pub class : Class
  pub taken : Bool
  pub loose : Bool

abbrev pub state : Class → Bool → Bool → State
state n t l = record { class = n; taken = t; loose = l }

-- what a symbol needs and leaves of the class, whether it has words of kinds, takes names for a role, and leaves names
pub record RoleClaim : Type 0 where
  pub needs : Class
  pub leaves : Option Class
  pub kinds : Bool
  pub takes : Bool
  pub loose : Bool

abbrev pub role_claim : Class → Option Class → Bool → Bool → Bool → RoleClaim
role_claim needs leaves kinds takes loose =
    record { needs = needs; leaves = leaves; kinds = kinds; takes = takes; loose = loose }

abbrev pub role_claim_at : List RoleClaim → ℕ → RoleClaim
role_claim_at claims a = slice_index_or claims a (role_claim RootKind None true true true)

abbrev pub class_after : Option Class → Class → Class
class_after None n = n
class_after (Some m) n = m

abbrev pub claimed : RoleClaim → State → Option State
claimed c s =
    cond (covers s.class c.needs && not (s.taken && c.kinds))
    (Some (state (class_after c.leaves s.class) (s.taken || c.takes) (s.loose || c.loose))) None

abbrev pub begins_name : Action → Bool
begins_name action.Name = false
begins_name action.Short = false
begins_name action.Segment = false
begins_name action.Step = false
begins_name other = true

-- a word of a kind stands before names are taken for roles
abbrev pub token_state : Action → Meaning → State → Option State
token_state a (meaning.Kind k) s = cond s.taken None (Some (state (class_of k) false s.loose))
token_state a meaning.Def s = cond (s.taken || not (covers s.class TypeKind)) None (Some (state TypeKind false s.loose))
token_state a meaning.Name s = Some (state s.class s.taken (s.loose || begins_name a))
token_state a other s = Some s

abbrev pub states : Tables → List RoleClaim → Action → List Symbol → Option State → Option State
states t claims a ss None = None
states t claims a [] (Some s) = Some s
states t claims a (Terminal k ∷ ss) (Some s) = states t claims a ss (token_state a (meaning_at t k) s)
states t claims a (Inner b ∷ ss) (Some s) = states t claims a ss (claimed (role_claim_at claims b) s)

-- what a role needs
abbrev pub needs_of : Taking → Class
needs_of taking.Subclass = TypeKind
needs_of taking.Typing = TypeKind
needs_of taking.Subsetting = TypeKind
needs_of taking.Redefinition = FeatureKind
needs_of taking.ReferenceSubsetting = TypeKind
needs_of other = AnyKind

abbrev pub is_role : Taking → Bool
is_role taking.Subclass = true
is_role taking.Typing = true
is_role taking.Subsetting = true
is_role taking.Redefinition = true
is_role taking.ReferenceSubsetting = true
is_role other = false

-- names that are left in an element are its own, in a type or a comment
abbrev pub closes : State → Option State → Option State
closes s None = None
closes s (Some e) = cond (not e.loose || (covers e.class TypeKind || covers e.class CommentKind)) (Some s) None

abbrev pub takes : Taking → State → Option State → Option State
takes d s None = None
takes d s (Some e) = cond (covers e.class (needs_of d)) (Some (state e.class (e.taken || is_role d) s.loose)) None

abbrev pub production_state : Tables → List RoleClaim → Action → List Symbol → State → Option State
production_state t claims (action.Element k) ss s =
    closes s (states t claims (action.Element k) ss (Some (state (class_of k) false false)))
production_state t claims (action.Take d) ss s =
    takes d s (states t claims (action.Take d) ss (Some (state s.class s.taken false)))
production_state t claims a ss s = states t claims a ss (Some s)

abbrev pub implies : Bool → Bool → Bool
implies a b = not a || b

-- the first says at least what the second says
abbrev pub is_stronger : Option State → Option State → Bool
is_stronger o None = true
is_stronger None (Some e) = false
is_stronger (Some s) (Some e) = covers s.class e.class && (implies s.taken e.taken && implies s.loose e.loose)

abbrev pub flags : Class → List State
flags n = state n false false ∷ state n false true ∷ state n true false ∷ state n true true ∷ []

abbrev pub meets_roles : Tables → List RoleClaim → RoleClaim → Action → List Symbol → State → Bool
meets_roles t claims c a ss s = is_stronger (production_state t claims a ss s) (claimed c s)

abbrev pub meets_all : Tables → List RoleClaim → RoleClaim → Action → List Symbol → Bool
meets_all t claims c a ss =
    list_all (meets_roles t claims c a ss) (flags AnyKind)
    && (list_all (meets_roles t claims c a ss) (flags TypeKind)
    && (list_all (meets_roles t claims c a ss) (flags FeatureKind)
    && (list_all (meets_roles t claims c a ss) (flags CommentKind)
    && list_all (meets_roles t claims c a ss) (flags RootKind))))

abbrev pub all_roles : Tables → List RoleClaim → ℕ → List Rule → Bool
all_roles t claims p [] = true
all_roles t claims p (r ∷ rs) =
    meets_all t claims (role_claim_at claims r.left) (action_at t p) r.right && all_roles t claims (suc p) rs

-- the claims hold of each production, and a file leaves its root as it is
abbrev pub are_roles : Tables → List RoleClaim → Table → Bool
are_roles t claims g =
    all_roles t claims 0 g.rules
    && is_stronger (claimed (role_claim_at claims g.start) (state RootKind false false))
    (Some (state RootKind true true))
