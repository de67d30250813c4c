-- A tree names what its nodes name.
use Rattle.std.proofs.Common.{ℕ, suc, List, [], ◌∷◌, ◌++◌, inl, inr, ◌⊎◌}
use Rattle.linker_base.specs.Members.{IsMember}
use Rattle.linker_base.proofs.MemberLaws.{member_left, member_right, member_cases}
use Rattle.element_store.specs.declared.expression.Node.{Node}
use Rattle.element_store.specs.declared.expression.Node.TheVariants as node
use Rattle.element_store.specs.Expressions.{names_in}
use Rattle.value_model.specs.Trees.{Tree, grown, trees_from, first_tree, tree, named_in}

-- what a list of trees names
all_named : List Tree → List ℕ
all_named [] = []
all_named (t ∷ ts) = named_in t ++ all_named ts

-- what one node names
own_name : Node → List ℕ
own_name (node.Named r) = r ∷ []
own_name other = []

two_names : (t u ts : List ℕ) (r : ℕ) → IsMember ((t ++ u) ++ ts) r → IsMember (u ++ (t ++ ts)) r
two_names t u ts r m = elim (member_cases (t ++ u) ts r m) [
  | inl a ↦ elim (member_cases t u r a) [ inl b ↦ member_right u (t ++ ts) r (member_left t ts r b) | inr b ↦ member_left u (t ++ ts) r b ]
  | inr b ↦ member_right u (t ++ ts) r (member_right t ts r b)
]

three_names : (t u v ts : List ℕ) (r : ℕ) → IsMember ((t ++ (u ++ v)) ++ ts) r → IsMember (v ++ (u ++ (t ++ ts))) r
three_names t u v ts r m = elim (member_cases (t ++ (u ++ v)) ts r m) [
  | inl a ↦ elim (member_cases t (u ++ v) r a) [
    | inl b ↦ member_right v (u ++ (t ++ ts)) r (member_right u (t ++ ts) r (member_left t ts r b))
    | inr c ↦ elim (member_cases u v r c) [
      | inl b ↦ member_right v (u ++ (t ++ ts)) r (member_left u (t ++ ts) r b)
      | inr b ↦ member_left v (u ++ (t ++ ts)) r b
    ]
  ]
  | inr b ↦ member_right v (u ++ (t ++ ts)) r (member_right u (t ++ ts) r (member_right t ts r b))
]

grown_names : (n : ℕ) (x : Node) (ts : List Tree) (r : ℕ) → IsMember (all_named (grown n x ts)) r → IsMember (all_named ts) r ⊎ IsMember (own_name x) r
unfolding all_named own_name
grown_names n (node.Integer z) ts r m = inl m
grown_names n (node.Boolean b) ts r m = inl m
grown_names n (node.Text x) ts r m = inl m
grown_names n node.Null ts r m = inl m
grown_names n (node.Named k) ts r (inl e) = inr (inl e)
grown_names n (node.Named k) ts r (inr m) = inl m
grown_names n (node.Unary op) [] r m = inl m
grown_names n (node.Unary op) (t ∷ ts) r m = inl m
grown_names n (node.Binary op) [] r m = inl m
grown_names n (node.Binary op) (u ∷ []) r m = inl m
grown_names n (node.Binary op) (u ∷ t ∷ ts) r m = inl (two_names (named_in t) (named_in u) (all_named ts) r m)
grown_names n node.If [] r m = inl m
grown_names n node.If (v ∷ []) r m = inl m
grown_names n node.If (v ∷ u ∷ []) r m = inl m
grown_names n node.If (v ∷ u ∷ t ∷ ts) r m = inl (three_names (named_in t) (named_in u) (named_in v) (all_named ts) r m)

name_first : (x : Node) (xs : List Node) (r : ℕ) → IsMember (own_name x) r → IsMember (names_in (x ∷ xs)) r
unfolding own_name
name_first (node.Named k) xs r (inl e) = inl e
name_first (node.Named k) xs r (inr m) = absurd m
name_first (node.Integer z) xs r m = absurd m
name_first (node.Boolean b) xs r m = absurd m
name_first (node.Text x) xs r m = absurd m
name_first node.Null xs r m = absurd m
name_first (node.Unary op) xs r m = absurd m
name_first (node.Binary op) xs r m = absurd m
name_first node.If xs r m = absurd m

name_later : (x : Node) (xs : List Node) (r : ℕ) → IsMember (names_in xs) r → IsMember (names_in (x ∷ xs)) r
name_later (node.Named k) xs r m = inr m
name_later (node.Integer z) xs r m = m
name_later (node.Boolean b) xs r m = m
name_later (node.Text x) xs r m = m
name_later node.Null xs r m = m
name_later (node.Unary op) xs r m = m
name_later (node.Binary op) xs r m = m
name_later node.If xs r m = m

trees_names : (n : ℕ) (xs : List Node) (ts : List Tree) (r : ℕ) → IsMember (all_named (trees_from n xs ts)) r → IsMember (all_named ts) r
    ⊎ IsMember (names_in xs) r
trees_names n [] ts r m = inl m
trees_names n (x ∷ xs) ts r m = elim (trees_names (suc n) xs (grown n x ts) r m) [
  | inl a ↦ elim (grown_names n x ts r a) [ inl b ↦ inl b | inr b ↦ inr (name_first x xs r b) ]
  | inr b ↦ inr (name_later x xs r b)
]

first_names : (ts : List Tree) (r : ℕ) → IsMember (named_in (first_tree ts)) r → IsMember (all_named ts) r
unfolding all_named
first_names [] r m = m
first_names (t ∷ ts) r m = member_left (named_in t) (all_named ts) r m

-- the names of the tree are among those of the nodes
pub tree_names : (xs : List Node) (r : ℕ) → IsMember (named_in (tree xs)) r → IsMember (names_in xs) r
unfolding all_named
tree_names xs r m = elim (trees_names 0 xs [] r (first_names (trees_from 0 xs []) r m)) [ inl a ↦ absurd a | inr b ↦ b ]
