-- What the readers of a model tell of its records.
use Rattle.std.specs.Prelude.{◌≡◌, ℕ, ◌<◌, ◌≤◌, ◌↔◌, Bool, true, false, ◌&&◌, nat_eq, nat_lt, Option, Some, List, [], ◌∷◌}
use Rattle.std.specs.Prelude.{length, slice_get}
use Rattle.std.specs.Option.{option_and_then}
use Rattle.element_store.specs.declared.records.Element.{Element}
use Rattle.element_store.specs.declared.records.Member.{Member}
use Rattle.element_store.specs.declared.records.Target.{Target}
use Rattle.element_store.specs.declared.records.Target.TheVariants.{Owned, Alias}
use Rattle.element_store.specs.declared.records.Reference.{Reference}
use Rattle.element_store.specs.declared.expression.Node.{Node}
use Rattle.element_store.specs.declared.outcome.Role.{Role}
use Rattle.element_store.specs.declared.outcome.Role.TheVariants as role
use Rattle.element_store.specs.Numbers.{numbers_from, those_where}
use Rattle.element_store.specs.Model.{Data}
use Rattle.element_store.specs.Condition.{nodes_in}

-- the target stands in the model
abbrev pub TargetStands : Data → Target → Type 0
TargetStands d (Owned e) = e < length d.elements
TargetStands d (Alias r) = r < length d.references

-- the member of that number owns the element
abbrev pub Owns : Data → ℕ → ℕ → Type 0
Owns d e m = (x : Member) × (slice_get d.members m ≡ Some x) × (x.target ≡ Owned e)

-- how many references have an earlier context
abbrev pub before_context : List Reference → ℕ → ℕ
before_context references e = length (those_where (λ r. nat_lt r.context e) references)

-- the references before this number are those whose context stands before the element
abbrev pub ArePartedAt : List Reference → ℕ → ℕ → Type 0
ArePartedAt references e n =
    (n ≤ length references)
    × ((i : ℕ) (r : Reference) → slice_get references i ≡ Some r → (r.context < e) ↔ (i < n))

-- the references from the one number up to, without, the other are those whose context is the element
pub record AreReferencesOf (references : List Reference) (e from upto : ℕ) : Type 0 where
  pub order : (from ≤ upto) × (upto ≤ length references)
  pub own : (i : ℕ) (r : Reference) → slice_get references i ≡ Some r
      → (r.context ≡ e) ↔ ((from ≤ i) × (i < upto))

-- the value of an element, or its result expression
abbrev pub expression_in : Bool → Element → Option (List Node)
expression_in true e = e.result
expression_in false e = e.value

-- how many nodes it has
abbrev pub nodes_of : Data → Bool → ℕ → ℕ
nodes_of d of_result e = nodes_in (option_and_then (expression_in of_result) (slice_get d.elements e))

-- the place of a node among those of the elements' expressions
abbrev pub node_at : List (List ℕ) → ℕ → ℕ → Option ℕ
node_at places e node = option_and_then (λ ps. slice_get ps node) (slice_get places e)

-- there is a place for the node
abbrev pub HasNode : List (List ℕ) → ℕ → ℕ → Type 0
HasNode places e node = (ps : List ℕ) × (slice_get places e ≡ Some ps) × (node < length ps)

-- the place of one of the nodes of an element's result expression, or of its value
abbrev pub place_in : Data → Bool → ℕ → ℕ → Option ℕ
place_in d true e node = node_at d.result_places e node
place_in d false e node = node_at d.value_places e node

-- there is an item
abbrev pub is_any : {A : Type 0} → List A → Bool
is_any [] = false
is_any (x ∷ xs) = true

-- the reference says what a feature redefines
abbrev pub is_redefinition : Role → Bool
is_redefinition role.Redefinition = true
is_redefinition other = false

-- the redefinitions that an element owns, by their numbers
abbrev pub redefinitions_in : List Reference → ℕ → List ℕ
redefinitions_in references e = numbers_from 0 (λ r. nat_eq r.context e && is_redefinition r.role) references

-- the target is owned, and has a redefinition
abbrev pub is_redefining : List Reference → Target → Bool
is_redefining references (Owned e) = is_any (redefinitions_in references e)
is_redefining references (Alias r) = false

-- the owned members of a namespace whose feature has a redefinition, by their numbers
abbrev pub redefining_in : List Member → List Reference → ℕ → List ℕ
redefining_in members references e =
    numbers_from 0 (λ m. nat_eq m.owner e && is_redefining references m.target) members

abbrev pub redefining_of : Data → ℕ → List ℕ
redefining_of d e = redefining_in d.members d.references e
