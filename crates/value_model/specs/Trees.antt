-- Expressions as trees, which the lists of their nodes in postfix order spell; after KerML's Expressions (8.3.4.8).
use Rattle.std.specs.Prelude.{ℕ, ℤ, suc, Bool, List, [], ◌∷◌, ◌++◌}
use Rattle.element_store.specs.declared.expression.Node.{Node}
use Rattle.element_store.specs.declared.expression.Node.TheVariants as node
use Rattle.element_store.specs.declared.expression.UnaryOp.{UnaryOp}
use Rattle.element_store.specs.declared.expression.BinaryOp.{BinaryOp}

-- An expression: a literal, a reference's number, or an operator with its operands. An operator has the number of its
-- node, by which its place is found; a literal is never refused, and a name is refused at its reference.
pub data Tree : Type 0 where
  Number : ℤ → Tree
  Truth : Bool → Tree
  Words : List ℕ → Tree
  Nil : Tree
  Name : ℕ → Tree
  One : ℕ → UnaryOp → Tree → Tree
  Two : ℕ → BinaryOp → Tree → Tree → Tree
  Choice : ℕ → Tree → Tree → Tree → Tree

-- The trees that stand after the node of that number, the last one first: an operator takes its operands. Where one is
-- missing nothing changes.
abbrev pub grown : ℕ → Node → List Tree → List Tree
grown n (node.Integer z) ts = Number z ∷ ts
grown n (node.Boolean b) ts = Truth b ∷ ts
grown n (node.Text x) ts = Words x ∷ ts
grown n node.Null ts = Nil ∷ ts
grown n (node.Named r) ts = Name r ∷ ts
grown n (node.Unary op) (t ∷ ts) = One n op t ∷ ts
grown n (node.Binary op) (u ∷ t ∷ ts) = Two n op t u ∷ ts
grown n node.If (v ∷ u ∷ t ∷ ts) = Choice n t u v ∷ ts
grown n other ts = ts

-- the trees after all nodes, the first of which has the number n
abbrev pub trees_from : ℕ → List Node → List Tree → List Tree
trees_from n [] ts = ts
trees_from n (node ∷ nodes) ts = trees_from (suc n) nodes (grown n node ts)

abbrev pub first_tree : List Tree → Tree
first_tree [] = Nil
first_tree (t ∷ ts) = t

-- THE TREE that a whole list of nodes spells
abbrev pub tree : List Node → Tree
tree nodes = first_tree (trees_from 0 nodes [])

-- the references that a tree names, from left to right
abbrev pub named_in : Tree → List ℕ
named_in (Number z) = []
named_in (Truth b) = []
named_in (Words x) = []
named_in Nil = []
named_in (Name r) = r ∷ []
named_in (One n op t) = named_in t
named_in (Two n op t u) = named_in t ++ named_in u
named_in (Choice n t u v) = named_in t ++ (named_in u ++ named_in v)
