-- Bounds and expressions of a model are printed as those of the tree.
use Rattle.std.proofs.Common.{◌≡◌, ℕ, suc, ◌+◌, List, [], ◌∷◌, ◌++◌, length, refl, ap, sym, subst, ◌∙◌, arith}
use Rattle.std.specs.Prelude.{ltb, map, codes}
use Rattle.std.proofs.lemmas.List.{length-append, map-append}
use Rattle.element_store.specs.declared.outcome.Language.{Language}
use Rattle.element_store.specs.declared.expression.Node.{Node}
use Rattle.element_store.specs.declared.expression.Node.TheVariants as node
use Rattle.element_store.specs.Model.{Data}
use Rattle.text_model.specs.declared.draft.Path.{Path}
use Rattle.text_model.specs.declared.draft.What.{What}
use Rattle.text_model.specs.declared.draft.What.TheVariants as what
use Rattle.text_model.specs.declared.draft.DraftNode.{DraftNode}
use Rattle.text_model.specs.Numbering.{numbered, node_of, after_node}
use Rattle.print_model.specs.Trees.{Tree, Integer, Boolean, Text, Null, Named, Before, Between, Choice, postfix, level, level_between, token_between, token_before, within, printed}
use Rattle.print_model.specs.Heads.{path_at, standing, spelt}
use Rattle.print_model.specs.Printed.{Printed, sign, word}
use Rattle.print_model.specs.ReadBack.{unplaced_node}

-- the same tree, whose names have no places
abbrev pub unplaced : Tree → Tree
unplaced (Integer n) = Integer n
unplaced (Boolean b) = Boolean b
unplaced (Text bytes) = Text bytes
unplaced Null = Null
unplaced (Named p) = Named (record p { place = 0 })
unplaced (Before o a) = Before o (unplaced a)
unplaced (Between o a b) = Between o (unplaced a) (unplaced b)
unplaced (Choice a b c) = Choice (unplaced a) (unplaced b) (unplaced c)

-- its level is the same
level_same : (e : Tree) → level (unplaced e) ≡ level e
level_same (Integer n) = refl
level_same (Boolean b) = refl
level_same (Text bytes) = refl
level_same Null = refl
level_same (Named p) = refl
level_same (Before o a) = refl
level_same (Between o a b) = refl
level_same (Choice a b c) = refl

-- which is printed alike
pub printed_same : (l : Language) (e : Tree) → printed l (unplaced e) ≡ printed l e
printed_same l (Integer n) = refl
printed_same l (Boolean b) = refl
printed_same l (Text bytes) = refl
printed_same l Null = refl
printed_same l (Named p) = refl
printed_same l (Before o a) =
    ap (λ k. token_before l o ∷ within (ltb k 9) (printed l (unplaced a))) (level_same a)
    ∙ ap (λ ps. token_before l o ∷ within (ltb (level a) 9) ps) (printed_same l a)
printed_same l (Between o a b) =
    let k = level_between o in
    let right = λ (j : ℕ) (ps : List Printed). token_between l o ∷ within (ltb j (suc k)) ps in
    ap (λ j. within (ltb j k) (printed l (unplaced a)) ++ right (level (unplaced b)) (printed l (unplaced b))) (level_same a)
    ∙ (ap (λ ps. within (ltb (level a) k) ps ++ right (level (unplaced b)) (printed l (unplaced b))) (printed_same l a)
    ∙ (ap (λ j. within (ltb (level a) k) (printed l a) ++ right j (printed l (unplaced b))) (level_same b)
    ∙ ap (λ ps. within (ltb (level a) k) (printed l a) ++ right (level b) ps) (printed_same l b)))
printed_same l (Choice a b c) =
    let i = word l (codes "if") in
    let t = sign (codes "?") in
    let e = word l (codes "else") in
    ap (λ ps. i ∷ (ps ++ (t ∷ (printed l (unplaced b) ++ (e ∷ printed l (unplaced c)))))) (printed_same l a)
    ∙ (ap (λ ps. i ∷ (printed l a ++ (t ∷ (ps ++ (e ∷ printed l (unplaced c)))))) (printed_same l b)
    ∙ ap (λ ps. i ∷ (printed l a ++ (t ∷ (printed l b ++ (e ∷ ps))))) (printed_same l c))

-- The names of a tree, in the order of its postfix list.

-- the names of a tree
abbrev pub names_of : Tree → List Path
names_of (Named p) = record p { place = 0 } ∷ []
names_of (Before o a) = names_of a
names_of (Between o a b) = names_of a ++ names_of b
names_of (Choice a b c) = names_of a ++ (names_of b ++ names_of c)
names_of other = []

-- these names have the numbers from n on
abbrev pub AreNumbered : Data → ℕ → List Path → Type 0
AreNumbered d n [] = Unit {0}
AreNumbered d n (p ∷ ps) = (path_at d n ≡ p) × AreNumbered d (suc n) ps

-- a part of them
numbered_front : (d : Data) (n : ℕ) (ps qs : List Path) → AreNumbered d n (ps ++ qs) → AreNumbered d n ps
numbered_front d n [] qs h = tt
numbered_front d n (p ∷ ps) qs h = (h.0, numbered_front d (suc n) ps qs h.1)

-- and the rest
pub numbered_behind : (d : Data) (n : ℕ) (ps qs : List Path) → AreNumbered d n (ps ++ qs) → AreNumbered d (n + length ps) qs
numbered_behind d n [] qs h = subst (λ k. AreNumbered d k qs) (omega arith) h
numbered_behind d n (p ∷ ps) qs h = subst (λ k. AreNumbered d k qs) (omega arith) (numbered_behind d (suc n) ps qs h.1)

-- how many names the nodes have
abbrev nodes_count : ℕ → List DraftNode → ℕ
nodes_count n [] = n
nodes_count n (x ∷ xs) = nodes_count (after_node n x.what) xs

-- nodes side by side
numbered_append : (n : ℕ) (xs ys : List DraftNode) → numbered n (xs ++ ys) ≡ numbered n xs ++ numbered (nodes_count n xs) ys
numbered_append n [] ys = refl
numbered_append n (x ∷ xs) ys = ap (λ ns. node_of n x.what ∷ ns) (numbered_append (after_node n x.what) xs ys)

-- nodes behind nodes spell trees behind trees
spelt_append : (d : Data) (xs ys : List Node) (ts : List Tree) → spelt d (xs ++ ys) ts ≡ spelt d ys (spelt d xs ts)
spelt_append d [] ys ts = refl
spelt_append d (x ∷ xs) ys ts = spelt_append d xs ys (standing d x ts)

-- names of both
count_append : (n : ℕ) (xs ys : List DraftNode) → nodes_count n (xs ++ ys) ≡ nodes_count (nodes_count n xs) ys
count_append n [] ys = refl
count_append n (x ∷ xs) ys = count_append (after_node n x.what) xs ys

-- the nodes of a tree, at no place
abbrev pub nodes_in : Tree → List DraftNode
nodes_in e = map unplaced_node (postfix e)

-- those of two parts
spelt_both : (d : Data) (n : ℕ) (xs ys : List What) (ts : List Tree)
    → spelt d (numbered n (map unplaced_node (xs ++ ys))) ts
    ≡ spelt d (numbered (nodes_count n (map unplaced_node xs)) (map unplaced_node ys)) (spelt d (numbered n (map unplaced_node xs)) ts)
spelt_both d n xs ys ts =
    ap (λ ns. spelt d (numbered n ns) ts) (map-append unplaced_node xs ys)
    ∙ (ap (λ ns. spelt d ns ts) (numbered_append n (map unplaced_node xs) (map unplaced_node ys))
    ∙ spelt_append d (numbered n (map unplaced_node xs)) (numbered (nodes_count n (map unplaced_node xs)) (map unplaced_node ys)) ts)

-- of two postfix lists
count_both : (n : ℕ) (xs ys : List What) → nodes_count n (map unplaced_node (xs ++ ys))
    ≡ nodes_count (nodes_count n (map unplaced_node xs)) (map unplaced_node ys)
count_both n xs ys = ap (nodes_count n) (map-append unplaced_node xs ys) ∙ count_append n (map unplaced_node xs) (map unplaced_node ys)

-- a tree has as many names as its nodes
count_tree : (n : ℕ) (e : Tree) → nodes_count n (nodes_in e) ≡ n + length (names_of e)
count_tree n (Integer i) = omega arith
count_tree n (Boolean b) = omega arith
count_tree n (Text bytes) = omega arith
count_tree n Null = omega arith
count_tree n (Named p) = omega arith
count_tree n (Before o a) = count_both n (postfix a) (what.Unary o ∷ []) ∙ count_tree n a
count_tree n (Between o a b) =
    count_both n (postfix a) (postfix b ++ what.Binary o ∷ [])
    ∙ (count_both (nodes_count n (nodes_in a)) (postfix b) (what.Binary o ∷ [])
    ∙ (count_tree (nodes_count n (nodes_in a)) b ∙ (ap (λ k. k + length (names_of b)) (count_tree n a) ∙ sums n (names_of a) (names_of b))))
  where
    sums : (n : ℕ) (ps qs : List Path) → (n + length ps) + length qs ≡ n + length (ps ++ qs)
    sums n ps qs = omega (arith, length-append ps qs)
count_tree n (Choice a b c) =
    count_both n (postfix a) (postfix b ++ (postfix c ++ what.If ∷ []))
    ∙ (count_both (nodes_count n (nodes_in a)) (postfix b) (postfix c ++ what.If ∷ [])
    ∙ (count_both (nodes_count (nodes_count n (nodes_in a)) (nodes_in b)) (postfix c) (what.If ∷ [])
    ∙ (count_tree (nodes_count (nodes_count n (nodes_in a)) (nodes_in b)) c
    ∙ (ap (λ k. k + length (names_of c)) (count_tree (nodes_count n (nodes_in a)) b)
    ∙ (ap (λ k. (k + length (names_of b)) + length (names_of c)) (count_tree n a) ∙ sums n (names_of a) (names_of b) (names_of c))))))
  where
    sums : (n : ℕ) (ps qs rs : List Path) → ((n + length ps) + length qs) + length rs ≡ n + length (ps ++ (qs ++ rs))
    sums n ps qs rs = omega (arith, length-append ps (qs ++ rs), length-append qs rs)

-- the nodes spell the tree, behind those that stand
pub tree_spelt : (d : Data) (n : ℕ) (e : Tree) (ts : List Tree) → AreNumbered d n (names_of e) → spelt d (numbered n (nodes_in e)) ts ≡ unplaced e ∷ ts
tree_spelt d n (Integer i) ts h = refl
tree_spelt d n (Boolean b) ts h = refl
tree_spelt d n (Text bytes) ts h = refl
tree_spelt d n Null ts h = refl
tree_spelt d n (Named p) ts h = ap (λ q. Named q ∷ ts) h.0
tree_spelt d n (Before o a) ts h =
    spelt_both d n (postfix a) (what.Unary o ∷ []) ts ∙ ap (standing d (node.Unary o)) (tree_spelt d n a ts h)
tree_spelt d n (Between o a b) ts h =
    let m = nodes_count n (nodes_in a) in
    spelt_both d n (postfix a) (postfix b ++ what.Binary o ∷ []) ts
    ∙ (spelt_both d m (postfix b) (what.Binary o ∷ []) (spelt d (numbered n (nodes_in a)) ts)
    ∙ (ap (standing d (node.Binary o)) (tree_spelt d m b (spelt d (numbered n (nodes_in a)) ts)
    (subst (λ k. AreNumbered d k (names_of b)) (sym (count_tree n a)) (numbered_behind d n (names_of a) (names_of b) h)))
    ∙ ap (λ us. standing d (node.Binary o) (unplaced b ∷ us)) (tree_spelt d n a ts (numbered_front d n (names_of a) (names_of b) h))))
tree_spelt d n (Choice a b c) ts h =
    let m = nodes_count n (nodes_in a) in
    let k = nodes_count m (nodes_in b) in
    let rest = numbered_behind d n (names_of a) (names_of b ++ names_of c) h in
    let in_b = subst (λ j. AreNumbered d j (names_of b ++ names_of c)) (sym (count_tree n a)) rest in
    let xs = spelt d (numbered n (nodes_in a)) ts in
    let ys = spelt d (numbered m (nodes_in b)) xs in
    spelt_both d n (postfix a) (postfix b ++ (postfix c ++ what.If ∷ [])) ts
    ∙ (spelt_both d m (postfix b) (postfix c ++ what.If ∷ []) xs
    ∙ (spelt_both d k (postfix c) (what.If ∷ []) ys
    ∙ (ap (standing d node.If) (tree_spelt d k c ys
    (subst (λ j. AreNumbered d j (names_of c)) (sym (count_tree m b)) (numbered_behind d m (names_of b) (names_of c) in_b)))
    ∙ (ap (λ us. standing d node.If (unplaced c ∷ us)) (tree_spelt d m b xs (numbered_front d m (names_of b) (names_of c) in_b))
    ∙ ap (λ us. standing d node.If (unplaced c ∷ unplaced b ∷ us)) (tree_spelt d n a ts (numbered_front d n (names_of a) (names_of b ++ names_of c) h))))))
