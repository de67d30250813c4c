-- Expressions as lists of nodes in postfix order, after KerML's Expressions (8.3.4.8) and Multiplicities (8.3.4.11).
use Rattle.std.specs.Prelude.{◌≡◌, ℕ, zero, suc, Bool, true, false, Option, Some, None, List, [], ◌∷◌, ◌++◌, refl}
use Rattle.element_store.specs.declared.expression.Node.{Node}
use Rattle.element_store.specs.declared.expression.Node.TheVariants.{Named, Unary, Binary, If}
use Rattle.element_store.specs.declared.expression.Limit.{Limit}
use Rattle.element_store.specs.declared.expression.Limit.TheVariants as limit
use Rattle.element_store.specs.declared.expression.Bounds.{Bounds}
use Rattle.element_store.specs.declared.expression.UnaryOp.TheVariants.{Minus}
use Rattle.element_store.specs.declared.expression.BinaryOp.TheVariants.{Add}

-- how many values stand after a node, where so many stood before it: an operator takes its operands and leaves one
abbrev pub stand_after : Node → ℕ → Option ℕ
stand_after (Unary op) zero = None
stand_after (Unary op) (suc n) = Some (suc n)
stand_after (Binary op) zero = None
stand_after (Binary op) (suc zero) = None
stand_after (Binary op) (suc (suc n)) = Some (suc n)
stand_after If zero = None
stand_after If (suc zero) = None
stand_after If (suc (suc zero)) = None
stand_after If (suc (suc (suc n))) = Some (suc n)
stand_after leaf n = Some (suc n)

-- how many values stand after all nodes
abbrev pub stand : List Node → Option ℕ → Option ℕ
stand nodes None = None
stand [] (Some n) = Some n
stand (node ∷ nodes) (Some n) = stand nodes (stand_after node n)

abbrev pub is_one : Option ℕ → Bool
is_one (Some (suc zero)) = true
is_one other = false

-- the nodes are one whole expression: no operand is missing, and one value is left
abbrev pub is_whole : List Node → Bool
is_whole nodes = is_one (stand nodes (Some 0))

-- the references that the nodes name, in order
abbrev pub names_in : List Node → List ℕ
names_in [] = []
names_in (Named r ∷ nodes) = r ∷ names_in nodes
names_in (other ∷ nodes) = names_in nodes

abbrev pub name_of : Option Limit → List ℕ
name_of (Some (limit.Named r)) = r ∷ []
name_of other = []

-- the references that bounds name, the lower one's first
abbrev pub names_of_bounds : Option Bounds → List ℕ
names_of_bounds None = []
names_of_bounds (Some b) = name_of b.lower ++ name_of b.upper

-- shown: `a + -b`, a sum without its second operand, and two expressions in place of one
pub sum_is_whole : is_whole (Named 0 ∷ Named 1 ∷ Unary Minus ∷ Binary Add ∷ []) ≡ true
sum_is_whole = refl

pub operand_is_missing : is_whole (Named 0 ∷ Binary Add ∷ []) ≡ false
operand_is_missing = refl

pub two_are_not_one : is_whole (Named 0 ∷ Named 1 ∷ []) ≡ false
two_are_not_one = refl
