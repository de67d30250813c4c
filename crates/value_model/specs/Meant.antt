-- Which feature is meant in a target, and whose expression decides; over links of which no more come: what is open
-- counts as refused.
use Rattle.std.specs.Prelude.{ℕ, zero, suc, Bool, true, false, cond, not, ◌&&◌, ◌||◌, List, [], ◌∷◌, ◌++◌, get_or, slice_get, Option, None, Some, is_some}
use Rattle.std.specs.List.{list_any, flat_map}
use Rattle.std.specs.Option.{option_map}
use Rattle.element_store.specs.declared.numbers.ElementNo.{ElementNo}
use Rattle.element_store.specs.declared.numbers.FileNo.{FileNo}
use Rattle.element_store.specs.declared.expression.Node.{Node}
use Rattle.element_store.specs.declared.records.Element.{Element}
use Rattle.element_store.specs.declared.records.Member.{Member}
use Rattle.element_store.specs.declared.records.Target.{Target}
use Rattle.element_store.specs.declared.records.Target.TheVariants.{Owned, Alias}
use Rattle.element_store.specs.Kinds.{is_feature, is_type}
use Rattle.element_store.specs.Model.{Data, root_element}
use Rattle.element_store.specs.Numbers.{those_where}
use Rattle.element_store.specs.Condition.{members_of}
use Rattle.element_store.specs.BaseRules.{first_of as this_or}
use Rattle.demand_core.specs.Computation.{◌>>=◌, joined}
use Rattle.demand_core.specs.Computed.{each_once}
use Rattle.link_model.specs.declared.keys.LinkFact.TheVariants.{File}
use Rattle.link_model.specs.Keys.{same_element, is_in}
use Rattle.link_model.specs.Outside.{Library, model_in}
use Rattle.link_model.specs.Readers.{LinkWorld, most, target}
use Rattle.link_model.specs.Names.{redefinitions}
use Rattle.link_model.specs.Inheritance.{reached, enumeration}
use Rattle.link_model.specs.Settled.{in_settled, settled_redefined}

-- the expression that a feature has of its own: its value, or the result of its body
pub record Own : Type 0 where
  pub of_result : Bool
  pub nodes : List Node

abbrev pub own : Element → Option Own
own x = this_or (option_map (λ nodes. record { of_result = false; nodes = nodes }) x.value)
    (option_map (λ nodes. record { of_result = true; nodes = nodes }) x.result)

-- an owned member's element
abbrev pub owned_by : FileNo → Target → List ElementNo
owned_by f (Owned e) = record { file = f; index = e } ∷ []
owned_by f (Alias r) = []

abbrev pub owned_at : FileNo → Option Member → List ElementNo
owned_at f None = []
owned_at f (Some m) = owned_by f m.target

-- the only one of a list
abbrev pub only : {A : Type 0} → List A → Option A
only [] = None
only (x ∷ []) = Some x
only (x ∷ y ∷ ys) = None

-- a feature with the expression that it has of its own
pub record Decider : Type 0 where
  pub feature : ElementNo
  pub own : Own

module _ (w : LinkWorld) where
  abbrev pub model_at : FileNo → Data
  model_at f = model_in (w.outer (File f))

  abbrev pub element_at : ElementNo → Element
  element_at e = get_or (model_at e.file).elements e.index root_element

  abbrev pub feature_at : ElementNo → Bool
  feature_at e = is_feature (element_at e).kind

  abbrev pub type_at : ElementNo → Bool
  type_at e = is_type (element_at e).kind

  -- an enumerated value: a feature that an enumeration definition owns
  abbrev pub enumerated_at : ElementNo → Bool
  enumerated_at e = is_some (enumeration (model_at e.file) e (element_at e))

  -- the features that a type owns, whoever sees them
  abbrev pub owned_features : ElementNo → List ElementNo
  owned_features u = those_where feature_at
      (flat_map (λ k. owned_at u.file (slice_get (model_at u.file).members k)) (members_of (model_at u.file) u.index))

  -- g is f, or has f among its redefined ones
  abbrev pub stands_for : ElementNo → ElementNo → Bool
  stands_for f g = same_element g f || is_in f (settled_redefined g w)

  -- another of these has g among its redefined ones
  abbrev pub is_redefined_among : List ElementNo → ElementNo → Bool
  is_redefined_among gs g = list_any (λ h. not (same_element h g) && is_in g (settled_redefined h w)) gs

  -- the linked targets of the redefinitions of f, in written order
  abbrev pub redefined : ElementNo → List ElementNo
  redefined f = in_settled (redefinitions f >>= joined target) w

  -- The depth-first walk over linked redefinitions without repeats, from those to do on; what is no feature is passed
  -- over.
  unfoldable pub walk : ℕ → List ElementNo → List ElementNo → List ElementNo
  walk zero seen todo = []
  walk (suc n) seen [] = []
  walk (suc n) seen (g ∷ todo) =
      let passed = is_in g seen || not (feature_at g) in
      cond passed [] (g ∷ []) ++ walk n (cond passed seen (g ∷ seen)) (cond passed [] (redefined g) ++ todo)

  abbrev pub own_at : ElementNo → Option Decider
  own_at g = option_map (λ x. record { feature = g; own = x }) (own (element_at g))

  abbrev pub first_own : List ElementNo → Option Decider
  first_own [] = None
  first_own (g ∷ gs) = this_or (own_at g) (first_own gs)

  -- THE DECIDER: the first feature with an expression of its own in the walk from f on
  abbrev pub decider : ElementNo → Option Decider
  decider f = first_own (walk most [] (f ∷ []))

  module _ (lib : Library) where
    -- the features that t and the types reached from it own that stand for f
    abbrev pub standing_for : ElementNo → ElementNo → List ElementNo
    standing_for f t = each_once same_element
        (those_where (stands_for f)
        (flat_map owned_features (each_once same_element (t ∷ in_settled (reached lib t) w))))

    -- those that no other redefines
    abbrev pub sole_of : ElementNo → List ElementNo → Option ElementNo
    sole_of f [] = Some f
    sole_of f (g ∷ gs) = only (those_where (λ h. not (is_redefined_among (g ∷ gs) h)) (g ∷ gs))

    -- MEANT. The feature meant for f in a target, or none where there are several.
    abbrev pub meant : ElementNo → Option ElementNo → Option ElementNo
    meant f None = Some f
    meant f (Some t) = sole_of f (standing_for f t)
