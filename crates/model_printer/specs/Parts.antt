-- What is left to write of an expression: its parts by where they end, and the tokens between them.
use Rattle.std.specs.Prelude.{◌≡◌, ℕ, suc, ◌+◌, ◌<◌, ◌≤◌, ◌-◌, ltb, List, [], ◌∷◌, ◌++◌, take, length, get_or, codes}
use Rattle.std.specs.Fmt.{signed_decimal}
use Rattle.element_store.specs.declared.expression.Node.{Node}
use Rattle.element_store.specs.declared.expression.Node.TheVariants as node
use Rattle.element_store.specs.Model.{Data}
use Rattle.print_model.specs.Printed.{Printed, sign, word, number, text}
use Rattle.print_model.specs.Trees.{Tree, Before, Between, Choice, boolean, level, level_between, named, printed, token_between, within}
use Rattle.print_model.specs.Heads.{first_tree, path_at, spelt}
use Rattle.model_printer.specs.declared.expressions.Work.{Work}
use Rattle.model_printer.specs.declared.expressions.Work.TheVariants.{Part, Mark, Operator, Else}
use Rattle.model_printer.specs.Signs.{sign_bytes}

-- the trees that stand after so many nodes, the last one first
unfoldable pub trees_at : Data → List Node → ℕ → List Tree
trees_at d nodes n = spelt d (take n nodes) []

-- the tree that ends before the node of that number
unfoldable pub tree_before : Data → List Node → ℕ → Tree
tree_before d nodes n = first_tree (spelt d (take n nodes) [])

-- the tree that the node n ends begins at the node b: beside it there stands what stood before b
pub record BeginsAt (d : Data) (nodes : List Node) (n b : ℕ) : Type 0 where
  pub before : b ≤ n
  pub trees : trees_at d nodes (suc n) ≡ tree_before d nodes (suc n) ∷ trees_at d nodes b

-- where the trees begin that the first nodes end
pub record AreBegins (d : Data) (nodes : List Node) (begins : List ℕ) : Type 0 where
  pub few : length begins ≤ length nodes
  pub each : (n : ℕ) → n < length begins → BeginsAt d nodes n (get_or begins n 0)

-- where the tree begins that ends before the node n
abbrev pub begin_before : List ℕ → ℕ → ℕ
begin_before begins n = get_or begins (n - 1) 0

-- the level of a node: that of the expression that it ends
abbrev pub level_of : Node → ℕ
level_of node.If = 0
level_of (node.Binary o) = level_between o
level_of (node.Unary o) = 9
level_of other = 10

-- the tokens of a literal or a name
abbrev pub leaf_tokens : Data → Node → List Printed
leaf_tokens d (node.Integer i) = number (signed_decimal i) ∷ []
leaf_tokens d (node.Boolean b) = boolean d.language b ∷ []
leaf_tokens d (node.Text bytes) = text bytes ∷ []
leaf_tokens d node.Null = word d.language (codes "null") ∷ []
leaf_tokens d (node.Named r) = named d.language (path_at d r)
leaf_tokens d other = []

-- how many turns it takes at most to write a tree, brackets included
abbrev pub turns_of : Tree → ℕ
turns_of (Before o a) = 2 + turns_of a
turns_of (Between o a b) = 3 + (turns_of a + turns_of b)
turns_of (Choice a b c) = 4 + (turns_of a + (turns_of b + turns_of c))
turns_of leaf = 2

module _ (d : Data) (nodes : List Node) where
  -- the tokens of a work
  abbrev pub work_tokens : Work → List Printed
  work_tokens (Part n wanted) =
      within (ltb (level (tree_before d nodes n)) wanted) (printed d.language (tree_before d nodes n))
  work_tokens (Mark s) = sign (sign_bytes s) ∷ []
  work_tokens (Operator o) = token_between d.language o ∷ []
  work_tokens Else = word d.language (codes "else") ∷ []

  -- the tokens of works, the next one first
  abbrev pub tokens_left : List Work → List Printed
  tokens_left [] = []
  tokens_left (w ∷ ws) = work_tokens w ++ tokens_left ws

  -- the turns of a work
  abbrev pub work_turns : Work → ℕ
  work_turns (Part n wanted) = turns_of (tree_before d nodes n)
  work_turns other = 1

  -- the turns of works
  abbrev pub turns_left : List Work → ℕ
  turns_left [] = 0
  turns_left (w ∷ ws) = work_turns w + turns_left ws

  -- a part ends there
  abbrev pub IsWork : Work → Type 0
  IsWork (Part n wanted) = (0 < n) × (n ≤ length nodes)
  IsWork other = Unit {0}

  -- so do those of works
  abbrev pub AreWorks : List Work → Type 0
  AreWorks [] = Unit {0}
  AreWorks (w ∷ ws) = IsWork w × AreWorks ws
