-- Where trees end and begin: what stands before an operator are its operands, and each begins where it is told.
use Rattle.std.proofs.Common.{◌≡◌, ◌∙◌, ℕ, zero, suc, ◌+◌, ◌-◌, ◌<◌, ◌≤◌, true, List, [], ◌∷◌, ◌++◌, ◌⊎◌, refl, sym, ap, subst, inl, inr, arith, length, length-append, get_or, take}
use Rattle.std.specs.Prelude.{slice_get, Option, None, Some}
use Rattle.linker_base.proofs.Cases.{option_cases}
use Rattle.element_store.specs.declared.expression.Node.{Node}
use Rattle.element_store.specs.declared.expression.Node.TheVariants as node
use Rattle.element_store.specs.declared.expression.UnaryOp.{UnaryOp}
use Rattle.element_store.specs.declared.expression.BinaryOp.{BinaryOp}
use Rattle.element_store.specs.Expressions.{stand_after, stand, is_one, is_whole}
use Rattle.value_model.specs.Trees.{Tree, grown, trees_from, first_tree, tree}
use Rattle.value_model.specs.Trees.Tree.{Number, Truth, Words, Nil, Name, One, Two, Choice}
use Rattle.value_model.proofs.SlotLaws.{whole_tree}
use Rattle.expr_reading.specs.Positions.{trees_at, tree_before, BeginsAt, AreBegins, begin_before}

-- ONE NODE MORE

from_more : (m : ℕ) (nodes : List Node) (n : ℕ) (x : Node) (ts : List Tree) → slice_get nodes n ≡ Some x
    → trees_from m (take (suc n) nodes) ts ≡ grown (n + m) x (trees_from m (take n nodes) ts)
from_more m [] n x ts e = cc
from_more m (y ∷ ys) zero x ts e = let same : y ≡ x = cc in let at : 0 + m ≡ m = omega arith in rw (at, same) refl
from_more m (y ∷ ys) (suc n) x ts e =
    let at : n + suc m ≡ suc n + m = omega arith in
    from_more (suc m) ys n x (grown m y ts) e ∙ ap (λ k. grown k x (trees_from (suc m) (take n ys) (grown m y ts))) at

-- the trees after one node more
pub trees_more : (nodes : List Node) (n : ℕ) (x : Node) → slice_get nodes n ≡ Some x → trees_at nodes (suc n) ≡ grown n x (trees_at nodes n)
unfolding trees_at
trees_more nodes n x e = let at : n + 0 ≡ n = omega arith in from_more 0 nodes n x [] e ∙ ap (λ k. grown k x (trees_from 0 (take n nodes) [])) at

pub tree_first : (nodes : List Node) (n : ℕ) → tree_before nodes n ≡ first_tree (trees_at nodes n)
unfolding trees_at tree_before
tree_first nodes n = refl

pub trees_none : (nodes : List Node) → trees_at nodes 0 ≡ []
unfolding trees_at
trees_none nodes = refl

take_all : {A : Type 0} (xs : List A) → take (length xs) xs ≡ xs
take_all [] = refl
take_all (x ∷ xs) = ap (λ ys. x ∷ ys) (take_all xs)

-- the tree that ends behind the last node is that of the list
pub whole_before : (nodes : List Node) → tree_before nodes (length nodes) ≡ tree nodes
unfolding tree_before
whole_before nodes = ap (λ ns. first_tree (trees_from 0 ns [])) (take_all nodes)

-- NO OPERAND IS MISSING

node_count : (n : ℕ) (x : Node) (ts : List Tree) (m : ℕ) → stand_after x (length ts) ≡ Some m → length (grown n x ts) ≡ m
node_count n (node.Integer z) ts m e = cc
node_count n (node.Boolean b) ts m e = cc
node_count n (node.Text x) ts m e = cc
node_count n node.Null ts m e = cc
node_count n (node.Named r) ts m e = cc
node_count n (node.Unary op) [] m e = cc
node_count n (node.Unary op) (t ∷ ts) m e = cc
node_count n (node.Binary op) [] m e = cc
node_count n (node.Binary op) (t ∷ []) m e = cc
node_count n (node.Binary op) (u ∷ t ∷ ts) m e = cc
node_count n node.If [] m e = cc
node_count n node.If (t ∷ []) m e = cc
node_count n node.If (u ∷ t ∷ []) m e = cc
node_count n node.If (v ∷ u ∷ t ∷ ts) m e = cc

stand_none : (xs : List Node) → stand xs None ≡ None
stand_none [] = refl
stand_none (x ∷ xs) = refl

stands_no_more : (xs : List Node) (o : Option ℕ) (k : ℕ) → o ≡ None → stand xs o ≡ Some k → ⊥
stands_no_more xs o k none e = let h : None ≡ Some k = sym (stand_none xs) ∙ (ap (stand xs) (sym none) ∙ e) in cc

enough_from : (m : ℕ) (nodes : List Node) (n : ℕ) (x : Node) (ts : List Tree) (k : ℕ) → stand nodes (Some (length ts)) ≡ Some k
    → slice_get nodes n ≡ Some x → stand_after x (length (trees_from m (take n nodes) ts)) ≡ None → ⊥
enough_from m [] n x ts k e at none = cc
enough_from m (y ∷ ys) zero x ts k e at none =
    let same : y ≡ x = cc in stands_no_more ys (stand_after y (length ts)) k (rw same none) e
enough_from m (y ∷ ys) (suc n) x ts k e at none = elim (option_cases (stand_after y (length ts))) [
  | inl gone ↦ stands_no_more ys (stand_after y (length ts)) k gone e
  | inr i ↦ enough_from (suc m) ys n x (grown m y ts) k
      (ap (λ j. stand ys (Some j)) (node_count m y ts i.0 i.1) ∙ (ap (stand ys) (sym i.1) ∙ e)) at none
]

one_of : (o : Option ℕ) → is_one o ≡ true → o ≡ Some 1
one_of None h = cc
one_of (Some zero) h = cc
one_of (Some (suc zero)) h = refl
one_of (Some (suc (suc n))) h = cc

-- before a node of a whole list there stand all its operands
enough : (nodes : List Node) (n : ℕ) (x : Node) → is_whole nodes ≡ true → slice_get nodes n ≡ Some x
    → stand_after x (length (trees_at nodes n)) ≡ None → ⊥
unfolding trees_at
enough nodes n x whole at none = enough_from 0 nodes n x [] 1 (one_of (stand nodes (Some 0)) whole) at none

one_stands : (op : UnaryOp) (ts : List Tree) → (stand_after (node.Unary op) (length ts) ≡ None → ⊥) → (t : Tree) × (us : List Tree) × (ts ≡ t ∷ us)
one_stands op [] h = absurd (h refl)
one_stands op (t ∷ us) h = (t, us, refl)

two_stand : (op : BinaryOp) (ts : List Tree) → (stand_after (node.Binary op) (length ts) ≡ None → ⊥)
    → (u : Tree) × (t : Tree) × (us : List Tree) × (ts ≡ u ∷ t ∷ us)
two_stand op [] h = absurd (h refl)
two_stand op (u ∷ []) h = absurd (h refl)
two_stand op (u ∷ t ∷ us) h = (u, t, us, refl)

three_stand : (ts : List Tree) → (stand_after node.If (length ts) ≡ None → ⊥)
    → (v : Tree) × (u : Tree) × (t : Tree) × (us : List Tree) × (ts ≡ v ∷ u ∷ t ∷ us)
three_stand [] h = absurd (h refl)
three_stand (v ∷ []) h = absurd (h refl)
three_stand (v ∷ u ∷ []) h = absurd (h refl)
three_stand (v ∷ u ∷ t ∷ us) h = (v, u, t, us, refl)

-- THE OPERANDS

-- a tree stands, so there is a node
some_node : (nodes : List Node) (n : ℕ) (t : Tree) (ts : List Tree) → trees_at nodes n ≡ t ∷ ts → 0 < n
some_node nodes zero t ts e = let h : [] ≡ t ∷ ts = sym (trees_none nodes) ∙ e in cc
some_node nodes (suc n) t ts e = omega arith

-- what stands is the tree that ends there, and what stood before it
peel : (nodes : List Node) (begins : List ℕ) (n : ℕ) → AreBegins nodes begins → 0 < n → n ≤ length begins
    → trees_at nodes n ≡ tree_before nodes n ∷ trees_at nodes (begin_before begins n)
peel nodes begins zero are some h = absurd (omega arith)
peel nodes begins (suc n) are some h =
    let at : suc n - 1 ≡ n = omega arith in
    let lt : n < length begins = omega arith in
    (are.each n lt).trees ∙ ap (λ k. tree_before nodes (suc n) ∷ trees_at nodes (get_or begins k 0)) (sym at)

begin_less : (nodes : List Node) (begins : List ℕ) (n : ℕ) → AreBegins nodes begins → 0 < n → n ≤ length begins → begin_before begins n < n
begin_less nodes begins zero are some h = absurd (omega arith)
begin_less nodes begins (suc n) are some h =
    let at : suc n - 1 ≡ n = omega arith in
    let lt : n < length begins = omega arith in
    let le : get_or begins n 0 ≤ n = (are.each n lt).before in
    rw at (omega arith)

-- where a node leaves one tree beside others, that is the one which it ends
leaves : (nodes : List Node) (n b : ℕ) (t : Tree) → b ≤ n → trees_at nodes (suc n) ≡ t ∷ trees_at nodes b → BeginsAt nodes n b × (tree_before nodes (suc n) ≡ t)
leaves nodes n b t le e =
    let is : tree_before nodes (suc n) ≡ t = tree_first nodes (suc n) ∙ ap first_tree e in
    (record { before = le; trees = e ∙ ap (λ x. x ∷ trees_at nodes b) (sym is) }, is)

-- a literal or a name begins where it ends
pub leaf_at : (nodes : List Node) (n : ℕ) (x : Node) (t : Tree) → slice_get nodes n ≡ Some x → ((ts : List Tree) → grown n x ts ≡ t ∷ ts)
    → BeginsAt nodes n n × (tree_before nodes (suc n) ≡ t)
leaf_at nodes n x t at is = leaves nodes n n t (omega arith) (trees_more nodes n x at ∙ is (trees_at nodes n))

-- what is no operator begins where it ends
pub no_operator_at : (nodes : List Node) (n : ℕ) (x : Node) → slice_get nodes n ≡ Some x → ((op : UnaryOp) → x ≡ node.Unary op → ⊥)
    → ((op : BinaryOp) → x ≡ node.Binary op → ⊥) → (x ≡ node.If → ⊥) → BeginsAt nodes n n
no_operator_at nodes n (node.Integer z) at one two three = (leaf_at nodes n (node.Integer z) (Number z) at (λ ts. refl)).0
no_operator_at nodes n (node.Boolean b) at one two three = (leaf_at nodes n (node.Boolean b) (Truth b) at (λ ts. refl)).0
no_operator_at nodes n (node.Text x) at one two three = (leaf_at nodes n (node.Text x) (Words x) at (λ ts. refl)).0
no_operator_at nodes n node.Null at one two three = (leaf_at nodes n node.Null Nil at (λ ts. refl)).0
no_operator_at nodes n (node.Named r) at one two three = (leaf_at nodes n (node.Named r) (Name r) at (λ ts. refl)).0
no_operator_at nodes n (node.Unary op) at one two three = absurd (one op refl)
no_operator_at nodes n (node.Binary op) at one two three = absurd (two op refl)
no_operator_at nodes n node.If at one two three = absurd (three refl)

-- where one tree more begins
pub begins_more : (nodes : List Node) (begins : List ℕ) (n b : ℕ) → AreBegins nodes begins → n ≡ length begins → n < length nodes → BeginsAt nodes n b
    → AreBegins nodes (begins ++ b ∷ [])
begins_more nodes begins n b are next within at = record {
  few = let more : length (begins ++ b ∷ []) ≡ length begins + 1 = simp length-append in omega arith;
  each = λ k lt. elim (which k begins b lt) [
    | inl old ↦ subst (BeginsAt nodes k) (sym old.1) (are.each k old.0)
    | inr new ↦ subst (λ m. BeginsAt nodes m (get_or (begins ++ b ∷ []) k 0)) (next ∙ sym new.0) (subst (BeginsAt nodes n) (sym new.1) at)
  ];
}
  where
    which : (k : ℕ) (bs : List ℕ) (b : ℕ) → k < length (bs ++ b ∷ [])
        → ((k < length bs) × (get_or (bs ++ b ∷ []) k 0 ≡ get_or bs k 0)) ⊎ ((k ≡ length bs) × (get_or (bs ++ b ∷ []) k 0 ≡ b))
    which zero [] b lt = inr (refl, refl)
    which (suc k) [] b lt = absurd (omega arith)
    which zero (c ∷ bs) b lt = inl (omega arith, refl)
    which (suc k) (c ∷ bs) b lt = elim (which k bs b (omega arith)) [
      | inl old ↦ inl (let l = old.0 in omega arith, old.1)
      | inr new ↦ inr (ap suc new.0, new.1)
    ]

module _ (nodes : List Node) (begins : List ℕ) (n : ℕ) where
  -- an operator of one operand, which ends before it
  pub record IsOneAt (op : UnaryOp) : Type 0 where
    pub some : 0 < n
    pub begins_at : BeginsAt nodes n (begin_before begins n)
    pub tree : tree_before nodes (suc n) ≡ One n op (tree_before nodes n)

  pub one_at : (op : UnaryOp) → is_whole nodes ≡ true → AreBegins nodes begins → n ≤ length begins → slice_get nodes n ≡ Some (node.Unary op) → IsOneAt op
  one_at op whole are le at =
      let stands = one_stands op (trees_at nodes n) (enough nodes n (node.Unary op) whole at) in
      let some : 0 < n = some_node nodes n stands.0 stands.1 stands.2 in
      let left = leaves nodes n (begin_before begins n) (One n op (tree_before nodes n))
      (let lt : begin_before begins n < n = begin_less nodes begins n are some le in omega arith)
      (trees_more nodes n (node.Unary op) at ∙ ap (grown n (node.Unary op)) (peel nodes begins n are some le)) in
      record { some = some; begins_at = left.0; tree = left.1 }

  -- an operator of two operands: the second ends before it, and the first before the second begins
  pub record IsTwoAt (op : BinaryOp) : Type 0 where
    pub some : 0 < n
    pub first : 0 < begin_before begins n
    pub within : begin_before begins n < n
    pub begins_at : BeginsAt nodes n (begin_before begins (begin_before begins n))
    pub tree : tree_before nodes (suc n) ≡ Two n op (tree_before nodes (begin_before begins n)) (tree_before nodes n)

  pub two_at : (op : BinaryOp) → is_whole nodes ≡ true → AreBegins nodes begins → n ≤ length begins → slice_get nodes n ≡ Some (node.Binary op) → IsTwoAt op
  two_at op whole are le at =
      let j = begin_before begins n in
      let stands = two_stand op (trees_at nodes n) (enough nodes n (node.Binary op) whole at) in
      let some : 0 < n = some_node nodes n stands.0 (stands.1 ∷ stands.2) stands.3 in
      let last : trees_at nodes n ≡ tree_before nodes n ∷ trees_at nodes j = peel nodes begins n are some le in
      let lt : j < n = begin_less nodes begins n are some le in
      let under : trees_at nodes j ≡ stands.1 ∷ stands.2 = tail_is (sym last ∙ stands.3) in
      let first : 0 < j = some_node nodes j stands.1 stands.2 under in
      let le_j : j ≤ length begins = omega arith in
      let lt_j : begin_before begins j < j = begin_less nodes begins j are first le_j in
      let left = leaves nodes n (begin_before begins j) (Two n op (tree_before nodes j) (tree_before nodes n)) (omega arith)
      (trees_more nodes n (node.Binary op) at
      ∙ ap (grown n (node.Binary op)) (last ∙ ap (λ ts. tree_before nodes n ∷ ts) (peel nodes begins j are first le_j))) in
      record { some = some; first = first; within = lt; begins_at = left.0; tree = left.1 }
    where
      tail_is : {x y : Tree} {xs ys : List Tree} → x ∷ xs ≡ y ∷ ys → xs ≡ ys
      tail_is e = cc

  -- a choice: the last operand ends before it, and each other one before the next begins
  pub record IsChoiceAt : Type 0 where
    pub some : 0 < n
    pub second : 0 < begin_before begins n
    pub within : begin_before begins n < n
    pub first : 0 < begin_before begins (begin_before begins n)
    pub below : begin_before begins (begin_before begins n) < begin_before begins n
    pub begins_at : BeginsAt nodes n (begin_before begins (begin_before begins (begin_before begins n)))
    pub tree : tree_before nodes (suc n)
        ≡ Choice n (tree_before nodes (begin_before begins (begin_before begins n))) (tree_before nodes (begin_before begins n)) (tree_before nodes n)

  pub choice_at : is_whole nodes ≡ true → AreBegins nodes begins → n ≤ length begins → slice_get nodes n ≡ Some node.If → IsChoiceAt
  choice_at whole are le at =
      let j = begin_before begins n in
      let i = begin_before begins j in
      let stands = three_stand (trees_at nodes n) (enough nodes n node.If whole at) in
      let some : 0 < n = some_node nodes n stands.0 (stands.1 ∷ stands.2 ∷ stands.3) stands.4 in
      let last : trees_at nodes n ≡ tree_before nodes n ∷ trees_at nodes j = peel nodes begins n are some le in
      let lt : j < n = begin_less nodes begins n are some le in
      let under : trees_at nodes j ≡ stands.1 ∷ stands.2 ∷ stands.3 = tail_is (sym last ∙ stands.4) in
      let second : 0 < j = some_node nodes j stands.1 (stands.2 ∷ stands.3) under in
      let le_j : j ≤ length begins = omega arith in
      let middle : trees_at nodes j ≡ tree_before nodes j ∷ trees_at nodes i = peel nodes begins j are second le_j in
      let lt_j : i < j = begin_less nodes begins j are second le_j in
      let lowest : trees_at nodes i ≡ stands.2 ∷ stands.3 = tail_is (sym middle ∙ under) in
      let first : 0 < i = some_node nodes i stands.2 stands.3 lowest in
      let le_i : i ≤ length begins = omega arith in
      let lt_i : begin_before begins i < i = begin_less nodes begins i are first le_i in
      let left = leaves nodes n (begin_before begins i) (Choice n (tree_before nodes i) (tree_before nodes j) (tree_before nodes n)) (omega arith)
      (trees_more nodes n node.If at
      ∙ ap (grown n node.If) (last ∙ ap (λ ts. tree_before nodes n ∷ ts)
      (middle ∙ ap (λ ts. tree_before nodes j ∷ ts) (peel nodes begins i are first le_i)))) in
      record { some = some; second = second; within = lt; first = first; below = lt_j; begins_at = left.0; tree = left.1 }
    where
      tail_is : {x y : Tree} {xs ys : List Tree} → x ∷ xs ≡ y ∷ ys → xs ≡ ys
      tail_is e = cc
