-- Where the trees end and begin that a list of nodes spells on the way.
use Rattle.std.specs.Prelude.{◌≡◌, ℕ, suc, ◌-◌, ◌<◌, ◌≤◌, List, [], ◌∷◌, take, length, get_or}
use Rattle.element_store.specs.declared.expression.Node.{Node}
use Rattle.value_model.specs.Trees.{Tree, trees_from, first_tree}

-- the trees that stand after so many nodes, the last one first
unfoldable pub trees_at : List Node → ℕ → List Tree
trees_at nodes n = trees_from 0 (take n nodes) []

-- the tree that ends before the node of that number
unfoldable pub tree_before : List Node → ℕ → Tree
tree_before nodes n = first_tree (trees_from 0 (take n nodes) [])

-- the tree that the node n ends begins at the node b: beside it there stands what stood before b
pub record BeginsAt (nodes : List Node) (n b : ℕ) : Type 0 where
  pub before : b ≤ n
  pub trees : trees_at nodes (suc n) ≡ tree_before nodes (suc n) ∷ trees_at nodes b

-- where the trees begin that the first nodes end
pub record AreBegins (nodes : List Node) (begins : List ℕ) : Type 0 where
  pub few : length begins ≤ length nodes
  pub each : (n : ℕ) → n < length begins → BeginsAt nodes n (get_or begins n 0)

-- where the tree begins that ends before the node n
abbrev pub begin_before : List ℕ → ℕ → ℕ
begin_before begins n = get_or begins (n - 1) 0
