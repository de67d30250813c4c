-- Where trees end and begin: what stands before an operator are its operands, and each begins where it is told.
use Rattle.std.proofs.Common.{◌≡◌, ◌∙◌, ℕ, zero, suc, ◌+◌, ◌-◌, ◌<◌, ◌≤◌, Bool, true, false, List, [], ◌∷◌, ◌++◌, ◌⊎◌, refl, sym, ap, subst, inl, inr, arith, length, length-append, get_or, take, append_assoc, append-nil}
use Rattle.std.specs.Prelude.{slice_get, Some, pos, negsuc, ◌&&◌}
use Rattle.linker_base.proofs.Cases.{both_true}
use Rattle.element_store.specs.declared.expression.Node.{Node}
use Rattle.element_store.specs.declared.expression.Node.TheVariants as node
use Rattle.element_store.specs.declared.expression.UnaryOp.{UnaryOp}
use Rattle.element_store.specs.declared.expression.BinaryOp.{BinaryOp}
use Rattle.element_store.specs.Model.{Data}
use Rattle.print_model.specs.Trees.{Tree, Integer, Boolean, Text, Null, Named, Before, Between, Choice, level, printed}
use Rattle.print_model.specs.Heads.{expression, first_tree, path_at, spelt, standing}
use Rattle.print_model.specs.Spelt.{IsSpelt, HasTree}
use Rattle.model_printer.specs.Parts.{trees_at, tree_before, BeginsAt, AreBegins, begin_before, level_of, leaf_tokens}

-- NO OPERAND IS MISSING

-- the node makes a tree of those that stand
abbrev pub makes : Node → List Tree → Bool
makes (node.Integer (pos n)) ts = true
makes (node.Integer (negsuc n)) ts = false
makes (node.Boolean b) ts = true
makes (node.Text bytes) ts = true
makes node.Null ts = true
makes (node.Named r) ts = true
makes (node.Unary o) (a ∷ ts) = true
makes (node.Binary o) (b ∷ a ∷ ts) = true
makes node.If (c ∷ b ∷ a ∷ ts) = true
makes other ts = false

-- so does each of them, one after another
abbrev pub all_make : Data → List Node → List Tree → Bool
all_make d [] ts = true
all_make d (n ∷ ns) ts = makes n ts && all_make d ns (standing d n ts)

-- the nodes of a tree make it
tree_makes : (d : Data) (xs : List Node) (t : Tree) (ns : List Node) (ts : List Tree) → IsSpelt d xs t → all_make d (xs ++ ns) ts ≡ all_make d ns (t ∷ ts)
tree_makes d xs (Integer n) ns ts h = ap (λ ys. all_make d (ys ++ ns) ts) h
tree_makes d xs (Boolean b) ns ts h = ap (λ ys. all_make d (ys ++ ns) ts) h
tree_makes d xs (Text bytes) ns ts h = ap (λ ys. all_make d (ys ++ ns) ts) h
tree_makes d xs Null ns ts h = ap (λ ys. all_make d (ys ++ ns) ts) h
tree_makes d xs (Named p) ns ts h = ap (λ ys. all_make d (ys ++ ns) ts) h.1 ∙ ap (λ q. all_make d ns (Named q ∷ ts)) h.2
tree_makes d xs (Before o a) ns ts h =
    ap (λ ys. all_make d (ys ++ ns) ts) h.2 ∙ ap (λ ys. all_make d ys ts) (append_assoc h.0 (node.Unary o ∷ []) ns)
    ∙ tree_makes d h.0 a (node.Unary o ∷ ns) ts h.1
tree_makes d xs (Between o a b) ns ts h =
    ap (λ ys. all_make d (ys ++ ns) ts) h.4 ∙ ap (λ ys. all_make d ys ts) (append_assoc h.0 (h.1 ++ node.Binary o ∷ []) ns)
    ∙ tree_makes d h.0 a ((h.1 ++ node.Binary o ∷ []) ++ ns) ts h.2
    ∙ ap (λ ys. all_make d ys (a ∷ ts)) (append_assoc h.1 (node.Binary o ∷ []) ns)
    ∙ tree_makes d h.1 b (node.Binary o ∷ ns) (a ∷ ts) h.3
tree_makes d xs (Choice a b c) ns ts h =
    ap (λ ys. all_make d (ys ++ ns) ts) h.6 ∙ ap (λ ys. all_make d ys ts) (append_assoc h.0 (h.1 ++ (h.2 ++ node.If ∷ [])) ns)
    ∙ tree_makes d h.0 a ((h.1 ++ (h.2 ++ node.If ∷ [])) ++ ns) ts h.3
    ∙ ap (λ ys. all_make d ys (a ∷ ts)) (append_assoc h.1 (h.2 ++ node.If ∷ []) ns)
    ∙ tree_makes d h.1 b ((h.2 ++ node.If ∷ []) ++ ns) (a ∷ ts) h.4
    ∙ ap (λ ys. all_make d ys (b ∷ a ∷ ts)) (append_assoc h.2 (node.If ∷ []) ns)
    ∙ tree_makes d h.2 c (node.If ∷ ns) (b ∷ a ∷ ts) h.5

made_from : (d : Data) (nodes : List Node) (n : ℕ) (x : Node) (ts : List Tree) → all_make d nodes ts ≡ true → slice_get nodes n ≡ Some x
    → makes x (spelt d (take n nodes) ts) ≡ true
made_from d [] n x ts all at = cc
made_from d (y ∷ ys) zero x ts all at =
    let same : y ≡ x = cc in subst (λ z. makes z ts ≡ true) same (both_true (makes y ts) (all_make d ys (standing d y ts)) all).0
made_from d (y ∷ ys) (suc n) x ts all at = made_from d ys n x (standing d y ts) (both_true (makes y ts) (all_make d ys (standing d y ts)) all).1 at

-- before a node of a tree there stand all its operands
pub enough : (d : Data) (nodes : List Node) (n : ℕ) (x : Node) → HasTree d nodes → slice_get nodes n ≡ Some x → makes x (trees_at d nodes n) ≡ true
unfolding trees_at
enough d nodes n x has at =
    made_from d nodes n x [] (ap (λ ys. all_make d ys []) (sym (append-nil nodes)) ∙ tree_makes d nodes has.0 [] [] has.1) at

-- ONE NODE MORE

more_from : (d : Data) (nodes : List Node) (n : ℕ) (x : Node) (ts : List Tree) → slice_get nodes n ≡ Some x
    → spelt d (take (suc n) nodes) ts ≡ standing d x (spelt d (take n nodes) ts)
more_from d [] n x ts e = cc
more_from d (y ∷ ys) zero x ts e = let same : y ≡ x = cc in rw same refl
more_from d (y ∷ ys) (suc n) x ts e = more_from d ys n x (standing d y ts) e

-- the trees after one node more
trees_more : (d : Data) (nodes : List Node) (n : ℕ) (x : Node) → slice_get nodes n ≡ Some x → trees_at d nodes (suc n) ≡ standing d x (trees_at d nodes n)
unfolding trees_at
trees_more d nodes n x e = more_from d nodes n x [] e

tree_first : (d : Data) (nodes : List Node) (n : ℕ) → tree_before d nodes n ≡ first_tree (trees_at d nodes n)
unfolding trees_at tree_before
tree_first d nodes n = refl

trees_none : (d : Data) (nodes : List Node) → trees_at d nodes 0 ≡ []
unfolding trees_at
trees_none d nodes = refl

take_all : {A : Type 0} (xs : List A) → take (length xs) xs ≡ xs
take_all [] = refl
take_all (x ∷ xs) = ap (λ ys. x ∷ ys) (take_all xs)

-- the tree that ends behind the last node is the expression
pub whole_before : (d : Data) (nodes : List Node) → printed d.language (tree_before d nodes (length nodes)) ≡ expression d nodes
unfolding tree_before
whole_before d nodes = ap (λ ns. printed d.language (first_tree (spelt d ns []))) (take_all nodes)

one_stands : (op : UnaryOp) (ts : List Tree) → makes (node.Unary op) ts ≡ true → (t : Tree) × (us : List Tree) × (ts ≡ t ∷ us)
one_stands op [] h = cc
one_stands op (t ∷ us) h = (t, us, refl)

two_stand : (op : BinaryOp) (ts : List Tree) → makes (node.Binary op) ts ≡ true → (u : Tree) × (t : Tree) × (us : List Tree) × (ts ≡ u ∷ t ∷ us)
two_stand op [] h = cc
two_stand op (u ∷ []) h = cc
two_stand op (u ∷ t ∷ us) h = (u, t, us, refl)

three_stand : (ts : List Tree) → makes node.If ts ≡ true → (v : Tree) × (u : Tree) × (t : Tree) × (us : List Tree) × (ts ≡ v ∷ u ∷ t ∷ us)
three_stand [] h = cc
three_stand (v ∷ []) h = cc
three_stand (v ∷ u ∷ []) h = cc
three_stand (v ∷ u ∷ t ∷ us) h = (v, u, t, us, refl)

-- THE OPERANDS

-- a tree stands, so there is a node
some_node : (d : Data) (nodes : List Node) (n : ℕ) (t : Tree) (ts : List Tree) → trees_at d nodes n ≡ t ∷ ts → 0 < n
some_node d nodes zero t ts e = let h : [] ≡ t ∷ ts = sym (trees_none d nodes) ∙ e in cc
some_node d nodes (suc n) t ts e = omega arith

-- what stands is the tree that ends there, and what stood before it
peel : (d : Data) (nodes : List Node) (begins : List ℕ) (n : ℕ) → AreBegins d nodes begins → 0 < n → n ≤ length begins
    → trees_at d nodes n ≡ tree_before d nodes n ∷ trees_at d nodes (begin_before begins n)
peel d nodes begins zero are some h = absurd (omega arith)
peel d nodes begins (suc n) are some h =
    let at : suc n - 1 ≡ n = omega arith in
    let lt : n < length begins = omega arith in
    (are.each n lt).trees ∙ ap (λ k. tree_before d nodes (suc n) ∷ trees_at d nodes (get_or begins k 0)) (sym at)

begin_less : (d : Data) (nodes : List Node) (begins : List ℕ) (n : ℕ) → AreBegins d nodes begins → 0 < n → n ≤ length begins → begin_before begins n < n
begin_less d nodes begins zero are some h = absurd (omega arith)
begin_less d nodes begins (suc n) are some h =
    let at : suc n - 1 ≡ n = omega arith in
    let lt : n < length begins = omega arith in
    let le : get_or begins n 0 ≤ n = (are.each n lt).before in
    rw at (omega arith)

-- where a node leaves one tree beside others, that is the one which it ends
leaves : (d : Data) (nodes : List Node) (n b : ℕ) (t : Tree) → b ≤ n → trees_at d nodes (suc n) ≡ t ∷ trees_at d nodes b
    → BeginsAt d nodes n b × (tree_before d nodes (suc n) ≡ t)
leaves d nodes n b t le e =
    let is : tree_before d nodes (suc n) ≡ t = tree_first d nodes (suc n) ∙ ap first_tree e in
    (record { before = le; trees = e ∙ ap (λ x. x ∷ trees_at d nodes b) (sym is) }, is)

-- a literal or a name begins where it ends
leaf_at : (d : Data) (nodes : List Node) (n : ℕ) (x : Node) (t : Tree) → slice_get nodes n ≡ Some x → ((ts : List Tree) → standing d x ts ≡ t ∷ ts)
    → BeginsAt d nodes n n × (tree_before d nodes (suc n) ≡ t)
leaf_at d nodes n x t at is = leaves d nodes n n t (omega arith) (trees_more d nodes n x at ∙ is (trees_at d nodes n))

-- a literal or a name: where it begins, and its tokens
pub record IsLeafAt (d : Data) (nodes : List Node) (n : ℕ) (x : Node) : Type 0 where
  pub begins_at : BeginsAt d nodes n n
  pub tokens : printed d.language (tree_before d nodes (suc n)) ≡ leaf_tokens d x
  pub tight : level (tree_before d nodes (suc n)) ≡ level_of x

leaf_is : (d : Data) (nodes : List Node) (n : ℕ) (x : Node) (t : Tree) → slice_get nodes n ≡ Some x → ((ts : List Tree) → standing d x ts ≡ t ∷ ts)
    → printed d.language t ≡ leaf_tokens d x → level t ≡ level_of x → IsLeafAt d nodes n x
leaf_is d nodes n x t at is tokens tight =
    let left = leaf_at d nodes n x t at is in
    record { begins_at = left.0; tokens = ap (printed d.language) left.1 ∙ tokens; tight = ap level left.1 ∙ tight }

-- what is no operator is a leaf
pub no_operator_at : (d : Data) (nodes : List Node) (n : ℕ) (x : Node) → HasTree d nodes → slice_get nodes n ≡ Some x → ((op : UnaryOp) → x ≡ node.Unary op → ⊥)
    → ((op : BinaryOp) → x ≡ node.Binary op → ⊥) → (x ≡ node.If → ⊥) → IsLeafAt d nodes n x
no_operator_at d nodes n (node.Integer (pos i)) has at one two three = leaf_is d nodes n (node.Integer (pos i)) (Integer i) at (λ ts. refl) refl refl
no_operator_at d nodes n (node.Integer (negsuc i)) has at one two three =
    let f : false ≡ true = enough d nodes n (node.Integer (negsuc i)) has at in absurd (cc)
no_operator_at d nodes n (node.Boolean b) has at one two three = leaf_is d nodes n (node.Boolean b) (Boolean b) at (λ ts. refl) refl refl
no_operator_at d nodes n (node.Text x) has at one two three = leaf_is d nodes n (node.Text x) (Text x) at (λ ts. refl) refl refl
no_operator_at d nodes n node.Null has at one two three = leaf_is d nodes n node.Null Null at (λ ts. refl) refl refl
no_operator_at d nodes n (node.Named r) has at one two three = leaf_is d nodes n (node.Named r) (Named (path_at d r)) at (λ ts. refl) refl refl
no_operator_at d nodes n (node.Unary op) has at one two three = absurd (one op refl)
no_operator_at d nodes n (node.Binary op) has at one two three = absurd (two op refl)
no_operator_at d nodes n node.If has at one two three = absurd (three refl)

-- where one tree more begins
pub begins_more : (d : Data) (nodes : List Node) (begins : List ℕ) (n b : ℕ) → AreBegins d nodes begins → n ≡ length begins → n < length nodes
    → BeginsAt d nodes n b → AreBegins d nodes (begins ++ b ∷ [])
begins_more d nodes begins n b are next within at = record {
  few = let more : length (begins ++ b ∷ []) ≡ length begins + 1 = simp length-append in omega arith;
  each = λ k lt. elim (which k begins b lt) [
    | inl old ↦ subst (BeginsAt d nodes k) (sym old.1) (are.each k old.0)
    | inr new ↦ subst (λ m. BeginsAt d nodes m (get_or (begins ++ b ∷ []) k 0)) (next ∙ sym new.0) (subst (BeginsAt d nodes n) (sym new.1) at)
  ];
}
  where
    which : (k : ℕ) (bs : List ℕ) (b : ℕ) → k < length (bs ++ b ∷ [])
        → ((k < length bs) × (get_or (bs ++ b ∷ []) k 0 ≡ get_or bs k 0)) ⊎ ((k ≡ length bs) × (get_or (bs ++ b ∷ []) k 0 ≡ b))
    which zero [] b lt = inr (refl, refl)
    which (suc k) [] b lt = absurd (omega arith)
    which zero (c ∷ bs) b lt = inl (omega arith, refl)
    which (suc k) (c ∷ bs) b lt = elim (which k bs b (omega arith)) [
      | inl old ↦ inl (let l = old.0 in omega arith, old.1)
      | inr new ↦ inr (ap suc new.0, new.1)
    ]

module _ (d : Data) (nodes : List Node) (begins : List ℕ) (n : ℕ) where
  -- an operator of one operand, which ends before it
  pub record IsOneAt (op : UnaryOp) : Type 0 where
    pub some : 0 < n
    pub begins_at : BeginsAt d nodes n (begin_before begins n)
    pub tree : tree_before d nodes (suc n) ≡ Before op (tree_before d nodes n)

  pub one_at : (op : UnaryOp) → HasTree d nodes → AreBegins d nodes begins → n ≤ length begins → slice_get nodes n ≡ Some (node.Unary op) → IsOneAt op
  one_at op has are le at =
      let stands = one_stands op (trees_at d nodes n) (enough d nodes n (node.Unary op) has at) in
      let some : 0 < n = some_node d nodes n stands.0 stands.1 stands.2 in
      let left = leaves d nodes n (begin_before begins n) (Before op (tree_before d nodes n))
      (let lt : begin_before begins n < n = begin_less d nodes begins n are some le in omega arith)
      (trees_more d nodes n (node.Unary op) at ∙ ap (standing d (node.Unary op)) (peel d nodes begins n are some le)) in
      record { some = some; begins_at = left.0; tree = left.1 }

  -- an operator of two operands: the second ends before it, and the first before the second begins
  pub record IsTwoAt (op : BinaryOp) : Type 0 where
    pub some : 0 < n
    pub first : 0 < begin_before begins n
    pub within : begin_before begins n < n
    pub begins_at : BeginsAt d nodes n (begin_before begins (begin_before begins n))
    pub tree : tree_before d nodes (suc n) ≡ Between op (tree_before d nodes (begin_before begins n)) (tree_before d nodes n)

  tail_is : {x y : Tree} {xs ys : List Tree} → x ∷ xs ≡ y ∷ ys → xs ≡ ys
  tail_is e = cc

  pub two_at : (op : BinaryOp) → HasTree d nodes → AreBegins d nodes begins → n ≤ length begins → slice_get nodes n ≡ Some (node.Binary op) → IsTwoAt op
  two_at op has are le at =
      let j = begin_before begins n in
      let stands = two_stand op (trees_at d nodes n) (enough d nodes n (node.Binary op) has at) in
      let some : 0 < n = some_node d nodes n stands.0 (stands.1 ∷ stands.2) stands.3 in
      let last : trees_at d nodes n ≡ tree_before d nodes n ∷ trees_at d nodes j = peel d nodes begins n are some le in
      let lt : j < n = begin_less d nodes begins n are some le in
      let under : trees_at d nodes j ≡ stands.1 ∷ stands.2 = tail_is (sym last ∙ stands.3) in
      let first : 0 < j = some_node d nodes j stands.1 stands.2 under in
      let le_j : j ≤ length begins = omega arith in
      let lt_j : begin_before begins j < j = begin_less d nodes begins j are first le_j in
      let left = leaves d nodes n (begin_before begins j) (Between op (tree_before d nodes j) (tree_before d nodes n)) (omega arith)
      (trees_more d nodes n (node.Binary op) at
      ∙ ap (standing d (node.Binary op)) (last ∙ ap (λ ts. tree_before d nodes n ∷ ts) (peel d nodes begins j are first le_j))) in
      record { some = some; first = first; within = lt; begins_at = left.0; tree = left.1 }

  -- a choice: the last operand ends before it, and each other one before the next begins
  pub record IsChoiceAt : Type 0 where
    pub some : 0 < n
    pub second : 0 < begin_before begins n
    pub within : begin_before begins n < n
    pub first : 0 < begin_before begins (begin_before begins n)
    pub below : begin_before begins (begin_before begins n) < begin_before begins n
    pub begins_at : BeginsAt d nodes n (begin_before begins (begin_before begins (begin_before begins n)))
    pub tree : tree_before d nodes (suc n)
        ≡ Choice (tree_before d nodes (begin_before begins (begin_before begins n))) (tree_before d nodes (begin_before begins n)) (tree_before d nodes n)

  pub choice_at : HasTree d nodes → AreBegins d nodes begins → n ≤ length begins → slice_get nodes n ≡ Some node.If → IsChoiceAt
  choice_at has are le at =
      let j = begin_before begins n in
      let i = begin_before begins j in
      let stands = three_stand (trees_at d nodes n) (enough d nodes n node.If has at) in
      let some : 0 < n = some_node d nodes n stands.0 (stands.1 ∷ stands.2 ∷ stands.3) stands.4 in
      let last : trees_at d nodes n ≡ tree_before d nodes n ∷ trees_at d nodes j = peel d nodes begins n are some le in
      let lt : j < n = begin_less d nodes begins n are some le in
      let under : trees_at d nodes j ≡ stands.1 ∷ stands.2 ∷ stands.3 = tail_is (sym last ∙ stands.4) in
      let second : 0 < j = some_node d nodes j stands.1 (stands.2 ∷ stands.3) under in
      let le_j : j ≤ length begins = omega arith in
      let middle : trees_at d nodes j ≡ tree_before d nodes j ∷ trees_at d nodes i = peel d nodes begins j are second le_j in
      let lt_j : i < j = begin_less d nodes begins j are second le_j in
      let lowest : trees_at d nodes i ≡ stands.2 ∷ stands.3 = tail_is (sym middle ∙ under) in
      let first : 0 < i = some_node d nodes i stands.2 stands.3 lowest in
      let le_i : i ≤ length begins = omega arith in
      let lt_i : begin_before begins i < i = begin_less d nodes begins i are first le_i in
      let left = leaves d nodes n (begin_before begins i) (Choice (tree_before d nodes i) (tree_before d nodes j) (tree_before d nodes n)) (omega arith)
      (trees_more d nodes n node.If at ∙ ap (standing d node.If) (last ∙ ap (λ ts. tree_before d nodes n ∷ ts) (middle
      ∙ ap (λ ts. tree_before d nodes j ∷ ts) (peel d nodes begins i are first le_i)))) in
      record { some = some; second = second; within = lt; first = first; below = lt_j; begins_at = left.0; tree = left.1 }
